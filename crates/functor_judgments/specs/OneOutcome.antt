-- The statement that the rule has exactly one conclusion, for signatures of normal types.
use Rattle.std.specs.Prelude.{List}
use Rattle.omega_kinds.specs.Kind.{Kind}
use Rattle.omega_kinds.specs.declared.effect.Effect.TheVariants.{Pure}
use Rattle.omega_types.specs.Ty.{Ty}
use Rattle.omega_types.specs.Binders.{extend}
use Rattle.omega_terms.specs.Term.{Term}
use Rattle.sig_definitions.specs.Signatures.Sig.{Sig, Abs, made}
use Rattle.sig_definitions.specs.Signatures.Alike.{NormalAbs}
use Rattle.sig_definitions.specs.Verdict.{One}
use Rattle.functor_judgments.specs.PureFunctor.{PureFunctorGives}

abbrev pub OnePureFunctor : Type 0
OnePureFunctor = (ctx ks : List Kind) (s : Sig) (y : Abs) (ts : List Ty) (e : Term) → NormalAbs ctx (Abs.Ex ks s) → NormalAbs (extend ctx ks) y → One (PureFunctorGives ctx ks s (made Pure y ts e))
