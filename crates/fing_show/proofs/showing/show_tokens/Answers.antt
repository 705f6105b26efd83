use Rattle.std.proofs.Common.{subst}
use Rattle.elab_rules.proofs.Given.{ok-map}
use Rattle.parse_grammar.specs.Grammar as the
use Rattle.parse_grammar.specs.Inner.Refusal.{Refuses}
use Rattle.fing_show.specs.Inner.Heads.{ShowsTokens}
use Rattle.fing_show.specs.Inner.Judged.{JudgesTokens}
use Rattle.fing_show.specs.Inner.Ran.{RunsTokens}
use Rattle.fing_show.proofs.Verdicts.{no-program}
use Rattle.fing_show.proofs.showing.show_tokens.Goals as goal

pub returns-in-Ok-clause-verdict : goal.returns-in-Ok-clause-verdict
returns-in-Ok-clause-verdict c = ok-map c.show_program.result c.show_program.ensures.verdict (λ s p. JudgesTokens.parsed c.in-Ok.ensures.program p)

pub returns-in-Ok-clause-end : goal.returns-in-Ok-clause-end
returns-in-Ok-clause-end c = ok-map c.show_program.result c.show_program.ensures.end (λ s p. RunsTokens.parsed c.in-Ok.ensures.program p)

pub returns-in_ok-syntax_page-in-Err-Syntax-clause-verdict : goal.returns-in_ok-syntax_page-in-Err-Syntax-clause-verdict
returns-in_ok-syntax_page-in-Err-Syntax-clause-verdict c =
    no-program c.args.tokens.now c.in-Err-Syntax.at
    (subst (λ r. Refuses the.Binds c.args.tokens.now r) c.in-Err-Syntax.field-0-is c.in-Err-Syntax.ensures.refused)

pub returns-in_ok-syntax_page-in-Err-Syntax-clause-end : goal.returns-in_ok-syntax_page-in-Err-Syntax-clause-end
returns-in_ok-syntax_page-in-Err-Syntax-clause-end c = RunsTokens.unparsed

pub returns-in-Ok-clause-page : goal.returns-in-Ok-clause-page
returns-in-Ok-clause-page c = ok-map c.show_program.result c.show_program.ensures.page (λ s p. ShowsTokens.parsed c.in-Ok.ensures.program p)

pub returns-in_ok-syntax_page-in-Err-Syntax-clause-page : goal.returns-in_ok-syntax_page-in-Err-Syntax-clause-page
returns-in_ok-syntax_page-in-Err-Syntax-clause-page c = ShowsTokens.unparsed c.in_ok-syntax_page-in-Err-Syntax.ensures
