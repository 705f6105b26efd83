-- Kinds that are no `*`.
-- Main results: no-star, operator-kind, by-star.
use Rattle.std.proofs.Common.{◌≡◌, ◌≢◌, refl, subst}
use Rattle.omega_kinds.specs.Kind.{Kind}
use Rattle.sig_definitions.specs.Env.{Env}
use Rattle.fing_syntax.specs.Phrase.{Span}
use Rattle.refusal_reasons.specs.Refusal.{KindDiffer}
use Rattle.std.proofs.Common.{Some}
use Rattle.fing_refusals.specs.declared.refusal.Refusal.{Refusal as CodeRefusal}
use Rattle.elab_rules.specs.Inner.Answered.{Placed, ByTest}
use Rattle.elab_rules.proofs.Placing.{by-test}

-- a function kind is not *
pub no-star : {k a b : Kind} → k ≡ Kind.Arrow a b → k ≢ Kind.Star
no-star e = λ s. cc

-- a kind that is not * is a function kind
pub operator-kind : (k : Kind) → k ≢ Kind.Star → (p : Kind × Kind) × (k ≡ Kind.Arrow p.0 p.1)
operator-kind Kind.Star n = absurd (n refl)
operator-kind (Kind.Arrow a b) n = ((a, b), refl)

-- a kind that is not *, placed as the reason, is a refusal by the test for *
pub by-star : {g : Env} {at : Span} {k j : Kind} {e : CodeRefusal} → k ≢ Kind.Star → j ≡ k → Placed g at (Some (KindDiffer j Kind.Star)) e → ByTest g at (k ≢ Kind.Star) (KindDiffer k Kind.Star) e
by-star {g} {at} {k} {j} {e} n s p = by-test (KindDiffer k Kind.Star) (k ≢ Kind.Star) g at e n (subst (λ i. Placed g at (Some (KindDiffer i Kind.Star)) e) s p)
