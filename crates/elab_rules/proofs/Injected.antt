-- From the reason of an injection or of a rolled value, and its place, to a refusal of the rule.
-- Main results: by-injection, by-roll.
use Rattle.std.proofs.Common.{◌≡◌, ◌∙◌, inl, inr, Option, Some, None, IfSome, refl, ap, subst}
use Rattle.std.specs.Option.{option_map}
use Rattle.omega_kinds.specs.Kind.{Kind}
use Rattle.omega_types.specs.Ty.{Ty}
use Rattle.sig_definitions.specs.Env.{Env, kinds}
use Rattle.fing_syntax.specs.Phrase.{Span, SpanName}
use Rattle.fing_syntax.specs.Place.{name_of, name_span}
use Rattle.refusal_reasons.specs.Refusal.{ElabWhy, Refusal}
use Rattle.core_judgments.specs.CoreWhy.{CoreWhy}
use Rattle.core_judgments.specs.DataRules.{DataWhy, IsNoMu, RollRefuses}
use Rattle.core_judgments.specs.ExpRules.{InjectionRefuses, LabelGives, LabelRefuses, SumGives, SumRefuses}
use Rattle.elab_judgments.specs.Refusals.Refusal.{of_core, of_data, refuse}
use Rattle.fing_refusals.specs.declared.refusal.Refusal.{Refusal as CodeRefusal}
use Rattle.elab_rules.specs.Inner.Answered.{ByInjection, ByRoll, InjectionRefused, Placed, RollRefused}
use Rattle.elab_rules.specs.Inner.Places.{injection_at, roll_at}
use Rattle.elab_rules.proofs.Placing.{says-map}

-- the reason that a refusal of a place has
one-reason : {W : Type 0} (reason : W → ElabWhy) (g : Env) (at : Span) {why : W} {r : Refusal} → (w : ElabWhy) × (Some (reason why) ≡ Some w) × (r ≡ refuse g at w) → r ≡ refuse g at (reason why)
one-reason reason g at (w, i, e) = e ∙ ap (refuse g at) (same i)
  where
    same : {v w : ElabWhy} → Some v ≡ Some w → w ≡ v
    same i = cc

injected : (g : Env) (x : SpanName) (v p at : Span) {t u : Ty} {why : CoreWhy} {r : Refusal}
    → InjectionRefuses (name_of x) t u Kind.Star why
    → at ≡ injection_at (name_span x) v p why
    → r ≡ refuse g at (of_core why)
    → InjectionRefused g x v t p u r
injected g x v p at (InjectionRefuses.target_kind n) q e = absurd (n refl)
injected g x v p at {why = why} (InjectionRefuses.no_sum n) q e = inl (why, SumRefuses.no_sum n, e ∙ ap (λ s. refuse g s (of_core why)) q)
injected g x v p at {why = why} (InjectionRefuses.no_label {row = row} n) q e = inr (row, SumGives.sum, inl (why, LabelRefuses.no_label n, e ∙ ap (λ s. refuse g s (of_core why)) q))
injected g x v p at {why = why} (InjectionRefuses.value_type {row = row} {t = s} h n) q e = inr (row, SumGives.sum, inr (s, LabelGives.label h, (why, InjectionRefuses.value_type h n, e ∙ ap (λ s. refuse g s (of_core why)) q)))

-- the reason of an injection, at its place, is a refusal of the rule of injections
pub by-injection : (o : Option CoreWhy) (g : Env) (x : SpanName) (v p at : Span) (t u : Ty) {k : Kind} (e : CodeRefusal)
    → k ≡ Kind.Star
    → IfSome o (λ why. InjectionRefuses (name_of x) t u k why)
    → IfSome o (λ why. at ≡ injection_at (name_span x) v p why)
    → Placed g at (option_map of_core o) e
    → ByInjection g x v t p u e
by-injection None g x v p at t u e s h q b = record { stands = says-map e (λ r w. absurd (none w.1)) b.stands }
  where
    none : {w : ElabWhy} → None ≡ Some w → ⊥
    none i = cc
by-injection (Some why) g x v p at t u e s h q b =
    let f : InjectionRefuses (name_of x) t u Kind.Star why = subst (λ k. InjectionRefuses (name_of x) t u k why) s h in
    record { stands = says-map e (λ r w. injected g x v p at f q (one-reason of_core g at w)) b.stands }

rolled : (g : Env) (v p at : Span) {t u : Ty} {why : DataWhy} {r : Refusal}
    → RollRefuses (kinds g) t u Kind.Star why
    → at ≡ roll_at v p why
    → r ≡ refuse g at (of_data why)
    → RollRefused g v t p u r
rolled g v p at (RollRefuses.target_kind n) q e = absurd (n refl)
rolled g v p at {why = why} (RollRefuses.no_data n) q e = inl (λ b i. subst IsNoMu i n, e ∙ ap (λ s. refuse g s (of_data why)) q)
rolled g v p at {why = why} (RollRefuses.value_type {b = b} h n) q e = inr (b, refl, (why, RollRefuses.value_type h n, e ∙ ap (λ s. refuse g s (of_data why)) q))

-- the reason of a rolled value, at its place, is a refusal of the rule of rolled values
pub by-roll : (o : Option DataWhy) (g : Env) (v p at : Span) (t u : Ty) {k : Kind} (e : CodeRefusal)
    → k ≡ Kind.Star
    → IfSome o (λ why. RollRefuses (kinds g) t u k why)
    → IfSome o (λ why. at ≡ roll_at v p why)
    → Placed g at (option_map of_data o) e
    → ByRoll g v t p u e
by-roll None g v p at t u e s h q b = record { stands = says-map e (λ r w. absurd (none w.1)) b.stands }
  where
    none : {w : ElabWhy} → None ≡ Some w → ⊥
    none i = cc
by-roll (Some why) g v p at t u e s h q b =
    let f : RollRefuses (kinds g) t u Kind.Star why = subst (λ k. RollRefuses (kinds g) t u k why) s h in
    record { stands = says-map e (λ r w. rolled g v p at f q (one-reason of_data g at w)) b.stands }
