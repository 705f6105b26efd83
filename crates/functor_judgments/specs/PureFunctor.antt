-- An applicative functor: the hidden types of its body are lifted over its parameter
-- (Rossberg, Russo, Dreyer, F-ing modules, section 7).
use Rattle.std.specs.Prelude.{List}
use Rattle.omega_kinds.specs.Kind.{Kind}
use Rattle.omega_kinds.specs.declared.label.Label.{Label}
use Rattle.omega_kinds.specs.declared.effect.Effect.TheVariants.{Pure}
use Rattle.omega_types.specs.Ty.{Ty}
use Rattle.omega_terms.specs.Term.{Term}
use Rattle.omega_terms.specs.Shorthands.{ty_lam_over}
use Rattle.omega_terms.specs.PartTerms.{one_field}
use Rattle.sig_definitions.specs.Signatures.Sig.{Sig, Abs, Module, made}
use Rattle.sig_definitions.specs.Signatures.Encoding.{enc}
use Rattle.sig_definitions.specs.Lifting.{Lift, lifted_types}

-- fun (X : S) => M, M pure, under the hidden types of S and X; never refused
pub data PureFunctorGives (ctx ks : List Kind) (s : Sig) : Module → Module → Type 0 where
  pure_functor : {y z : Abs} {ts : List Ty} {e : Term}
      → Lift ctx ks s y z
      → PureFunctorGives ctx ks s (made Pure y ts e) (made Pure z (lifted_types ks ts) (ty_lam_over ks (Term.Lam (enc s) (one_field Label.App e))))
