use Rattle.std.proofs.Common.{length, take, rules, sym, subst}
use Rattle.fing_show_c.specs.Inner.Returns.{IsWritten}
use Rattle.fing_show_c.proofs.Writing.{cut, whole}
use Rattle.fing_show_c.proofs.answering.answer_shown.Goals as goal

pub returns-then-written-len-clause-status : goal.returns-then-written-len-clause-status
returns-then-written-len-clause-status c =
    cut c.args.shown.now.verdict c.args.shown.now.text.items _ c.copy_beginning-written.result (length c.args.page.now) (search rules) (search rules) (search rules)

pub returns-else-written-len-clause-status : goal.returns-else-written-len-clause-status
returns-else-written-len-clause-status c =
    let written = take c.copy_beginning-written.result c.copy_beginning-written.new.page in
    subst (IsWritten c.args.shown.now.verdict c.args.shown.now.text.items (length c.args.page.now) written) (sym c.status_of-status.ensures)
    (whole c.args.shown.now.verdict c.args.shown.now.text.items written c.copy_beginning-written.result (length c.args.page.now) (search rules) (search rules))
