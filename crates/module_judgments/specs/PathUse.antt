-- What a path to a module stands for as a type, as a value and as a signature. What it stands for may be replaced by
-- anything convertible that does not mention the hidden types (Rossberg, Russo, Dreyer, F-ing modules, section 4).
use Rattle.std.specs.Prelude.{zero, List}
use Rattle.omega_kinds.specs.Kind.{Kind}
use Rattle.omega_kinds.specs.declared.label.Label.{Label}
use Rattle.omega_kinds.specs.declared.effect.Effect.{Effect}
use Rattle.omega_kinds.specs.declared.effect.Effect.TheVariants.{Pure, Impure}
use Rattle.omega_types.specs.Ty.{Ty}
use Rattle.omega_types.specs.Conversion.{Conv}
use Rattle.omega_types.specs.Normalises.{NormalForm}
use Rattle.omega_types.specs.Binders.{extend, raise}
use Rattle.omega_terms.specs.Term.{Term}
use Rattle.omega_terms.specs.Shorthands.{opens}
use Rattle.sig_definitions.specs.Signatures.Sig.{Sig, Abs, Module, made}
use Rattle.sig_definitions.specs.Signatures.SigSubst.{raise_abs}
use Rattle.sig_definitions.specs.Signatures.Alike.{ConvAbs, NormalAbsForm}
use Rattle.sig_definitions.specs.Signatures.Encoding.{enc_abs}

-- Outside ctx ks t k n: under ks the type t is convertible to one from outside, whose normal form is n
pub data Outside (ctx ks : List Kind) (t : Ty) (k : Kind) (n : Ty) : Type 0 where
  outside : (u : Ty) → Conv (extend ctx ks) (raise ks u) t k → NormalForm ctx u k n → Outside ctx ks t k n

pub data TypeOfPath (ctx : List Kind) : Module → Ty → Kind → Type 0 where
  type_of : {e : Effect} {ks : List Kind} {t n : Ty} {k : Kind} {ts : List Ty} {d : Term}
      → Outside ctx ks t k n
      → TypeOfPath ctx (made e (Abs.Ex ks (Sig.Typ t k)) ts d) n k

-- the term of a value part, the hidden types of an impure module being opened
abbrev pub value_of : Effect → List Kind → Term → Ty → Term
value_of Pure ks d u = Term.Get d Label.Val
value_of Impure ks d u = opens ks d u (Term.Get (Term.Var zero) Label.Val)

pub data ValueOfPath (ctx : List Kind) : Module → Ty → Term → Type 0 where
  value_at : {e : Effect} {ks : List Kind} {t n : Ty} {ts : List Ty} {d : Term}
      → Outside ctx ks t Kind.Star n
      → ValueOfPath ctx (made e (Abs.Ex ks (Sig.Val t)) ts d) n (value_of e ks d (enc_abs (Abs.Ex ks (Sig.Val t))))

-- the same for a signature
pub data SigOutside (ctx ks : List Kind) (x n : Abs) : Type 0 where
  outside : (y : Abs) → ConvAbs (extend ctx ks) (raise_abs ks y) x → NormalAbsForm ctx y n → SigOutside ctx ks x n

pub data SigOfPath (ctx : List Kind) : Module → Abs → Type 0 where
  sig_of : {e : Effect} {ks : List Kind} {x n : Abs} {ts : List Ty} {d : Term}
      → SigOutside ctx ks x n
      → SigOfPath ctx (made e (Abs.Ex ks (Sig.Meta x)) ts d) n
