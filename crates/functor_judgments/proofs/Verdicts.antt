-- An applicative functor has exactly one conclusion.
-- Main results: one_pure_functor.
use Rattle.std.specs.Prelude.{List, ◌≡◌}
use Rattle.std.proofs.Math.Path.{refl, ap, ◌∙◌}
use Rattle.omega_kinds.specs.Kind.{Kind}
use Rattle.omega_kinds.specs.declared.label.Label.{Label}
use Rattle.omega_kinds.specs.declared.effect.Effect.TheVariants.{Pure}
use Rattle.omega_types.specs.Ty.{Ty}
use Rattle.omega_terms.specs.Term.{Term}
use Rattle.omega_terms.specs.Shorthands.{ty_lam_over}
use Rattle.omega_terms.specs.PartTerms.{one_field}
use Rattle.sig_definitions.specs.Signatures.Sig.{Sig, Abs, Module, made}
use Rattle.sig_definitions.specs.Signatures.Encoding.{enc}
use Rattle.sig_definitions.specs.Lifting.{Lift, lifted_types}
use Rattle.sig_premise_laws.proofs.Determined.{lift-one}
use Rattle.functor_judgments.specs.PureFunctor.{PureFunctorGives}
use Rattle.functor_judgments.specs.OneOutcome.{OnePureFunctor}

abbrev result : List Kind → Sig → List Ty → Term → Abs → Module
result ks s ts e z = made Pure z (lifted_types ks ts) (ty_lam_over ks (Term.Lam (enc s) (one_field Label.App e)))

view : {ctx ks : List Kind} {s : Sig} {y : Abs} {ts : List Ty} {e : Term} {m : Module} → PureFunctorGives ctx ks s (made Pure y ts e) m → (z : Abs) × Lift ctx ks s y z × (m ≡ result ks s ts e z)
view (PureFunctorGives.pure_functor {z = z} l) = (z, l, refl)

-- the rule of applicative functors has exactly one conclusion
pub one_pure_functor : OnePureFunctor
one_pure_functor ctx ks s y ts e n w =
    let l = lift-one ctx ks s y n w in
    (result ks s ts e l.0, PureFunctorGives.pure_functor l.1, λ m g. let v = view g in v.2 ∙ ap (result ks s ts e) (l.2 v.0 v.1))
