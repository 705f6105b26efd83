use Rattle.std.proofs.Common.{rules, length, sym, subst}
use Rattle.fing_c.specs.Inner.Returns.{Replied}
use Rattle.fing_c.proofs.Returning.{same_room, replied}
use Rattle.fing_c.proofs.answering.answer_bytes.Goals as goal

pub copy_to-written-requires : goal.copy_to-written-requires
copy_to-written-requires c =
    sym (same_room c.args.command c.args.bytes.now (length c.args.page.now) c.new-draft.result c.reply-status.new.sink _ c.new-draft.ensures c.reply-status.result c.reply-status.ensures)

pub returns-clause-replied : goal.returns-clause-replied
returns-clause-replied c =
    let whole = replied c.args.command c.args.bytes.now (length c.args.page.now) c.new-draft.result c.reply-status.new.sink _ c.new-draft.ensures c.reply-status.result c.reply-status.ensures (search rules) in
    subst (λ l. Replied c.args.command c.args.bytes.now (length c.args.page.now) l c.reply-status.result) (sym c.copy_to-written.ensures.written) whole
