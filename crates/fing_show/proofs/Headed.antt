-- What the page of a verdict begins with.
-- Main results: shown-refused, shown-lexical.
use Rattle.std.proofs.Common.{◌≡◌, ℕ, List, Option, Some, None, Result, Ok, Err, IfOk, refl, sym, ap, subst, ◌∙◌}
use Rattle.std.specs.Prelude.{MatchOption}
use Rattle.fing_lexer.specs.declared.lexer.LexRefusal.{LexRefusal}
use Rattle.fing_syntax.specs.Phrase.{Span, Binds as Program}
use Rattle.refusal_reasons.specs.Refusal.{ElabWhy, Refusal}
use Rattle.fing_refusals.specs.Inner.Plain.{Says, plain_reason, refused, want_of_memory}
use Rattle.fing_refusals.specs.declared.refusal.Refusal.{Refusal as CodeRefusal}
use Rattle.fing_elab.specs.Inner.Exactly.{IsRefused}
use Rattle.fing_show.specs.Inner.Heads.{Begins, Shows, ShowsProgram, lexical_title, refused_head, title_of_reason, title_of_refusal}
use Rattle.fing_show.specs.Inner.Judged.{IsReported}
use Rattle.fing_show.specs.declared.showing.Verdict.{Verdict}
use Rattle.fing_show.specs.declared.showing.Verdict.TheVariants as verdict
use Rattle.fing_show.specs.declared.view.View.{View}

-- what two clauses say of what a call gives
pub both : {T E : Type 0} (P Q : T → Type 0) (r : Result T E) → IfOk r P → IfOk r Q → IfOk r (λ x. P x × Q x)
both P Q (Ok x) p q = (p, q)
both P Q (Err e) p q = tt

-- the title of what is refused, if that is a refusal
abbrev title_in : Option Refusal → List ℕ
title_in (Some r) = title_of_refusal r
title_in None = title_of_reason None

titled : (at : Span) (n : ℕ) (o : Option ElabWhy) → title_of_reason o ≡ title_in (refused at n o)
titled at n (Some why) = refl
titled at n None = refl

-- the page with the title of the one refusal
pub shown-refused : (program : Program) (v : View) (e : CodeRefusal) (w : Verdict) (page : List ℕ) → Says e (IsRefused program) → IsReported e w
    → Begins (refused_head (title_of_reason (plain_reason e.why))) page → ShowsProgram program v w page
shown-refused program v e _ page s (IsReported.reported {r = r} p) b =
    let same = titled _ e.types (plain_reason e.why) ∙ ap title_in p in
    ShowsProgram.refused e p (subst (λ o. MatchOption o (e ≡ want_of_memory) (IsRefused program)) p s)
    (subst (λ (t : List ℕ). Begins (refused_head t) page) same b)

-- the page with the title of the place that has no token
pub shown-lexical : (bytes : List ℕ) (v : View) (why : LexRefusal) (w : Verdict) (page : List ℕ) → w ≡ verdict.NoTokens why
    → Begins (refused_head (lexical_title why)) page → Shows bytes v w page
shown-lexical bytes v why w page p b = subst (λ u. Shows bytes v u page) (sym p) (Shows.unlexed b)
