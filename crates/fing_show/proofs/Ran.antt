-- Where a source is refused, nothing runs.
-- Main results: without-tokens, without-meaning, without-budget.
use Rattle.std.proofs.Common.{◌≡◌, ℕ, List, Option, None, refl, sym, subst}
use Rattle.fing_lexer.specs.declared.lexer.LexRefusal.{LexRefusal}
use Rattle.fing_syntax.specs.Phrase.{Binds as Program}
use Rattle.fing_refusals.specs.declared.refusal.Refusal.{Refusal as CodeRefusal}
use Rattle.omega_machine.specs.declared.outcome.End.{End}
use Rattle.fing_show.specs.declared.showing.Verdict.{Verdict}
use Rattle.fing_show.specs.declared.showing.Verdict.TheVariants as verdict
use Rattle.fing_show.specs.declared.view.View.{View}
use Rattle.fing_show.specs.declared.view.View.TheVariants as view
use Rattle.fing_show.specs.Inner.Judged.{IsReported}
use Rattle.fing_show.specs.Inner.Ran.{RunsProgram, Runs, budget_of}

-- a source with no tokens has no run, and so no end
pub without-tokens : (bytes : List ℕ) (budget : Option ℕ) (why : LexRefusal) (v : Verdict) (end : Option End) → v ≡ verdict.NoTokens why
    → end ≡ None → Runs bytes budget v end
without-tokens bytes budget why v end p q =
    subst (λ w. Runs bytes budget w end) (sym p) (subst (λ o. Runs bytes budget (verdict.NoTokens why) o) (sym q) Runs.unlexed)

-- a program whose refusal is reported has no run, and so no end
pub without-meaning : (program : Program) (budget : Option ℕ) (e : CodeRefusal) (v : Verdict) (end : Option End) → IsReported e v
    → end ≡ None → RunsProgram program budget v end
without-meaning program budget e v end (IsReported.reported p) q =
    subst (λ o. RunsProgram program budget (verdict.NoMeaning e.at) o) (sym q) RunsProgram.refused

-- a view other than that of steps has no budget
pub without-budget : (v : View) → ((shown budget : ℕ) → v ≡ view.Steps shown budget → ⊥) → budget_of v ≡ None
without-budget (view.Steps shown budget) h = absurd (h shown budget refl)
without-budget _ h = refl
