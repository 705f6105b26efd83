-- Conclusions and refusals of rules of modules, as the calls give them.
use Rattle.std.specs.Prelude.{◌≡◌, List, Bool, true, false, Option, Some}
use Rattle.omega_kinds.specs.Kind.{Kind}
use Rattle.omega_kinds.specs.declared.effect.Effect.TheVariants.{Pure, Impure}
use Rattle.sig_definitions.specs.Env.{Env}
use Rattle.sig_definitions.specs.Matching.MatchRefusal.{MatchRefusal}
use Rattle.sig_definitions.specs.Signatures.Sig.{Abs, Module, made}
use Rattle.module_judgments.specs.ModRules.{GenerativeGives}
use Rattle.functor_judgments.specs.PureFunctor.{PureFunctorGives}
use Rattle.fing_syntax.specs.Phrase.{Span, Bind, BindAt, BindInclude}
use Rattle.elab_judgments.specs.Refusals.Refusal.{refuse_match}
use Rattle.fing_refusals.specs.Inner.Plain.{Says}
use Rattle.fing_refusals.specs.declared.refusal.Refusal.{Refusal as CodeRefusal}

-- a functor, applicative where it is not generative and its body is pure
abbrev pub FunctorGives : List Kind → Bool → Abs → Module → Module → Type 0
FunctorGives ctx false (Abs.Ex ks s) (made Pure y ts e) N = PureFunctorGives ctx ks s (made Pure y ts e) N
FunctorGives ctx false (Abs.Ex ks s) (made Impure y ts e) N = GenerativeGives ctx ks s (made Impure y ts e) N
FunctorGives ctx true (Abs.Ex ks s) M N = GenerativeGives ctx ks s M N

-- a refusal of matching that may be none is the refusal's, at the place and in the environment
pub record MatchPlaced (g : Env) (at : Span) (why : Option MatchRefusal) (e : CodeRefusal) : Type 0 where
  pub stands : Says e (λ r. (q : MatchRefusal) × (why ≡ Some q) × (r ≡ refuse_match g at q))

-- a binding that is no include
abbrev pub IsSingle : Bind → Type 0
IsSingle (BindAt at (BindInclude m)) = ⊥
IsSingle b = Unit {0}
