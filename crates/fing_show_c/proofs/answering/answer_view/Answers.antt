use Rattle.std.proofs.Common.{length, take, refl, sym, subst}
use Rattle.fing_show_c.specs.Inner.Returns.{Returns}
use Rattle.fing_show_c.specs.declared.answering.Answer.{Answer}
use Rattle.fing_show_c.proofs.answering.answer_view.Goals as goal

pub returns-in-Ok-clause-returns : goal.returns-in-Ok-clause-returns
returns-in-Ok-clause-returns c = λ number known. Returns.shown known c.requires c.in-Ok.ensures.verdict c.answer_shown.ensures.status

pub returns-in-Err-clause-returns : goal.returns-in-Err-clause-returns
returns-in-Err-clause-returns c = λ number known.
    subst (λ (a : Answer). Returns number c.args.source.now (length c.args.page.now) (take a.written c.args.page.now) a.status) (sym c.without_page.ensures) (Returns.no_memory known c.requires refl)
