use Rattle.std.proofs.Common.{length, take, sym, subst}
use Rattle.fing_show_c.specs.Inner.Returns.{ReturnsNumber}
use Rattle.fing_show_c.proofs.fing_show_page.Goals as goal

pub returns-clause-returns : goal.returns-clause-returns
returns-clause-returns c =
    subst (ReturnsNumber c.args.view c.args.source.now (length c.args.page.now) (take c.answer_page-answer.result.written c.answer_page-answer.new.page)) (sym c.number_of.ensures) (ReturnsNumber.returned c.answer_page-answer.result.status c.answer_page-answer.ensures.returns)
