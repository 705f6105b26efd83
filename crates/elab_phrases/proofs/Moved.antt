-- Refusals where the environment is as before, at the place of a phrase.
-- Main results: refused-in, rule-at, test-at.
use Rattle.std.proofs.Common.{◌≡◌, subst}
use Rattle.omega_types.specs.Ty.{Ty}
use Rattle.sig_definitions.specs.Env.{Env}
use Rattle.fing_syntax.specs.Phrase.{Span, SpanName}
use Rattle.refusal_reasons.specs.Refusal.{ElabWhy}
use Rattle.elab_judgments.specs.Refusals.Task.{Task}
use Rattle.fing_refusals.specs.declared.refusal.Refusal.{Refusal as CodeRefusal}
use Rattle.elab_rules.specs.Inner.Answered.{RefusedAs, ByRule, ByTest, ByInjection, ByRoll}

-- a refusal in an environment that is as before
pub refused-in : {g h : Env} {a : Task} {e : CodeRefusal} → h ≡ g → RefusedAs h a e → RefusedAs g a e
refused-in {a = a} {e = e} s r = subst (λ x. RefusedAs x a e) s r

-- a refusal by a rule, in an environment and at a place that are as before
pub rule-at : {W : Type 0} {reason : W → ElabWhy} {g h : Env} {at p : Span} {Refuses : W → Type 0} {e : CodeRefusal} → h ≡ g → at ≡ p → ByRule reason h at Refuses e → ByRule reason g p Refuses e
rule-at {reason = reason} {g = g} {at = at} {Refuses = R} {e = e} s q r = subst (λ p. ByRule reason g p R e) q (subst (λ x. ByRule reason x at R e) s r)

-- a refusal by a test, in an environment and at a place that are as before
pub test-at : {g h : Env} {at p : Span} {F : Type 0} {why : ElabWhy} {e : CodeRefusal} → h ≡ g → at ≡ p → ByTest h at F why e → ByTest g p F why e
test-at {g = g} {at = at} {F = F} {why = why} {e = e} s q r = subst (λ p. ByTest g p F why e) q (subst (λ x. ByTest x at F why e) s r)

-- a refusal by the rule of injections, in an environment and at places that are as before
pub injection-at : {g h : Env} {x : SpanName} {v v1 p p1 : Span} {t u : Ty} {e : CodeRefusal} → h ≡ g → v1 ≡ v → p1 ≡ p → ByInjection h x v1 t p1 u e → ByInjection g x v t p u e
injection-at {g} {x = x} {v = v} {v1 = v1} {p1 = p1} {t = t} {u = u} {e = e} s q i r = subst (λ p. ByInjection g x v t p u e) i (subst (λ v. ByInjection g x v t p1 u e) q (subst (λ y. ByInjection y x v1 t p1 u e) s r))

-- a refusal by the rule of rolled values, in an environment and at places that are as before
pub roll-at : {g h : Env} {v v1 p p1 : Span} {t u : Ty} {e : CodeRefusal} → h ≡ g → v1 ≡ v → p1 ≡ p → ByRoll h v1 t p1 u e → ByRoll g v t p u e
roll-at {g} {v = v} {v1 = v1} {p1 = p1} {t = t} {u = u} {e = e} s q i r = subst (λ p. ByRoll g v t p u e) i (subst (λ v. ByRoll g v t p1 u e) q (subst (λ y. ByRoll y v1 t p1 u e) s r))
