use Rattle.std.proofs.Common.{List, sym, subst}
use Rattle.elab_rules.proofs.Given.{ok-map}
use Rattle.fing_lexer.specs.declared.token.Token.{Token}
use Rattle.fing_lexer.specs.Tokens.{TokensOf}
use Rattle.fing_show.specs.Inner.Heads.{Shows}
use Rattle.fing_show.specs.Inner.Judged.{Judges}
use Rattle.fing_show.specs.Inner.Ran.{Runs, budget_of}
use Rattle.fing_show.proofs.Headed.{both, shown-lexical}
use Rattle.fing_show.proofs.Ran.{without-tokens}
use Rattle.fing_show.proofs.Verdicts.{few-tokens}
use Rattle.fing_show.proofs.showing.show.Goals as goal

pub show_tokens-requires : goal.show_tokens-requires
show_tokens-requires c =
    few-tokens c.args.source.now c.deref.result.now c.requires
    (subst (λ (ts : List Token). TokensOf c.args.source.now ts) (sym c.deref.ensures.value) c.in-Ok.ensures.tokens)

pub returns-in-Ok-clause-verdict : goal.returns-in-Ok-clause-verdict
returns-in-Ok-clause-verdict c =
    let lexed = subst (λ (ts : List Token). TokensOf c.args.source.now ts) (sym c.deref.ensures.value) c.in-Ok.ensures.tokens in
    ok-map c.show_tokens.result c.show_tokens.ensures.verdict (λ s p. Judges.lexed lexed p)

pub returns-in-Ok-clause-end : goal.returns-in-Ok-clause-end
returns-in-Ok-clause-end c =
    let lexed = subst (λ (ts : List Token). TokensOf c.args.source.now ts) (sym c.deref.ensures.value) c.in-Ok.ensures.tokens in
    ok-map c.show_tokens.result c.show_tokens.ensures.end (λ s p. Runs.lexed lexed p)

pub returns-in-Err-clause-verdict : goal.returns-in-Err-clause-verdict
returns-in-Err-clause-verdict c = ok-map c.show_lexical.result c.show_lexical.ensures.verdict (λ s p. p.0)

pub returns-in-Err-clause-end : goal.returns-in-Err-clause-end
returns-in-Err-clause-end c =
    ok-map c.show_lexical.result c.show_lexical.ensures.verdict
    (λ s p. without-tokens c.args.source.now (budget_of c.args.view) c.in-Err.why s.verdict s.end p.1 p.2)

pub returns-in-Ok-clause-page : goal.returns-in-Ok-clause-page
returns-in-Ok-clause-page c =
    let lexed = subst (λ (ts : List Token). TokensOf c.args.source.now ts) (sym c.deref.ensures.value) c.in-Ok.ensures.tokens in
    ok-map c.show_tokens.result c.show_tokens.ensures.page (λ s p. Shows.lexed lexed p)

pub returns-in-Err-clause-page : goal.returns-in-Err-clause-page
returns-in-Err-clause-page c =
    ok-map c.show_lexical.result (both _ _ c.show_lexical.result c.show_lexical.ensures.verdict c.show_lexical.ensures.page)
    (λ s p. shown-lexical c.args.source.now c.args.view c.in-Err.why s.verdict s.text.items p.0.1 p.1)
