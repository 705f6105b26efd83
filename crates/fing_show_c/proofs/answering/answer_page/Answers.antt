use Rattle.std.proofs.Common.{length, take, arith, refl, sym, subst}
use Rattle.fing_show_c.specs.Inner.Returns.{Returns}
use Rattle.fing_show_c.specs.declared.answering.Answer.{Answer}
use Rattle.fing_show_c.proofs.answering.answer_page.Goals as goal

pub returns-in_default-clause-returns : goal.returns-in_default-clause-returns
returns-in_default-clause-returns c =
    subst (λ (a : Answer). Returns c.args.view c.args.source.now (length c.args.page.now) (take a.written c.args.page.now) a.status) (sym c.without_page.ensures) (Returns.no_view c.in_default.ensures refl)

pub returns-then-source-gt-SOURCE_LIMIT-clause-returns : goal.returns-then-source-gt-SOURCE_LIMIT-clause-returns
returns-then-source-gt-SOURCE_LIMIT-clause-returns c =
    subst (λ (a : Answer). Returns c.args.view c.args.source.now (length c.args.page.now) (take a.written c.args.page.now) a.status) (sym c.without_page-then-source-gt-SOURCE_LIMIT.ensures) (Returns.too_long c.in-Some.ensures (omega (arith, c.if-source-gt-SOURCE_LIMIT.true)) refl)
