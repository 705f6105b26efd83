-- What the run of a source comes to, where a view asks for its steps.
use Rattle.std.specs.Prelude.{ℕ, List, Option, Some, None}
use Rattle.fing_lexer.specs.declared.lexer.LexRefusal.{LexRefusal}
use Rattle.fing_lexer.specs.declared.token.Token.{Token}
use Rattle.fing_lexer.specs.Tokens.{TokensOf}
use Rattle.fing_syntax.specs.Phrase.{Binds as Program}
use Rattle.fing_text.specs.declared.span.Span.{Span}
use Rattle.parse_grammar.specs.Grammar as the
use Rattle.parse_grammar.specs.Tree.{Phrase}
use Rattle.omega_machine.specs.declared.outcome.End.{End}
use Rattle.omega_machine.specs.Inner.Outcomes.{Tells}
use Rattle.omega_terms.specs.Term.{Term}
use Rattle.fing_elab.specs.Inner.Exactly.{Means}
use Rattle.fing_elab.specs.declared.whole.Elaborated.{Elaborated}
use Rattle.fing_show.specs.declared.showing.Verdict.{Verdict}
use Rattle.fing_show.specs.declared.showing.Verdict.TheVariants as verdict
use Rattle.fing_show.specs.declared.view.View.{View}
use Rattle.fing_show.specs.declared.view.View.TheVariants as view

-- the budget of the view: of a run alone
abbrev pub budget_of : View → Option ℕ
budget_of (view.Steps shown budget) = Some budget
budget_of _ = None

-- the end is what the term comes to within the budget, and there is none without a budget
abbrev pub EndsAs : Term → (budget : Option ℕ) → Option End → Type 0
EndsAs e (Some n) (Some end) = Tells e n end
EndsAs e None None = Unit {0}
EndsAs e (Some n) None = ⊥
EndsAs e None (Some end) = ⊥

-- the end is that of the whole term that the program means; a refused program has none
pub data RunsProgram (program : Program) (budget : Option ℕ) : Verdict → Option End → Type 0 where
  meant : {o : Elaborated} {end : Option End} → Means program o → EndsAs o.whole budget end → RunsProgram program budget verdict.Accepted end
  refused : {at : Span} → RunsProgram program budget (verdict.NoMeaning at) None

pub data RunsTokens (tokens : List Token) (budget : Option ℕ) : Verdict → Option End → Type 0 where
  parsed : {program : Program} {v : Verdict} {end : Option End} → Phrase the.Binds tokens program → RunsProgram program budget v end
      → RunsTokens tokens budget v end
  unparsed : {at : ℕ} → RunsTokens tokens budget (verdict.NoProgram at) None

pub data Runs (bytes : List ℕ) (budget : Option ℕ) : Verdict → Option End → Type 0 where
  lexed : {tokens : List Token} {v : Verdict} {end : Option End} → TokensOf bytes tokens → RunsTokens tokens budget v end → Runs bytes budget v end
  unlexed : {why : LexRefusal} → Runs bytes budget (verdict.NoTokens why) None
