-- Modules as first-class values: the rules of package types, of packing and of unpacking
-- (Rossberg, Russo, Dreyer, F-ing modules, section 6; the order of quantifiers is a definition of this project).
use Rattle.std.specs.Prelude.{List, [], ◌≢◌}
use Rattle.omega_kinds.specs.Kind.{Kind}
use Rattle.omega_kinds.specs.declared.effect.Effect.TheVariants.{Impure}
use Rattle.omega_types.specs.Ty.{Ty}
use Rattle.omega_terms.specs.Term.{Term}
use Rattle.omega_terms.specs.Shorthands.{Packs}
use Rattle.sig_definitions.specs.Signatures.Sig.{Abs, Module, made}
use Rattle.sig_definitions.specs.Signatures.Encoding.{enc_abs}
use Rattle.sig_definitions.specs.QuantifierOrder.{Norm}

-- pack S as a type, which has kind *; never refused
pub data PackTypeGives (ctx : List Kind) : Abs → Ty → Type 0 where
  pack_type : {x y : Abs}
      → Norm ctx x y
      → PackTypeGives ctx x (enc_abs y)

-- pack X : S, at the types and by the coercion of a match of X against the norm of S; never refused
pub data PackGives (ctx : List Kind) : (term : Term) (target : Abs) (types : List Ty) (coercion : Term) → Ty → Term → Type 0 where
  pack : {e c d : Term} {z : Abs} {ts : List Ty}
      → Packs ctx ts (Term.Call c e) (enc_abs z) d
      → PackGives ctx e z ts c (enc_abs z) d

-- unpack E : S, where E has the package type of S, given as its norm
pub data UnpackGives : (ty : Ty) (term : Term) (target : Abs) → Module → Type 0 where
  unpack : {e : Term} {y : Abs} → UnpackGives (enc_abs y) e y (made Impure y [] e)

-- why unpacking is refused: the type found, and the package type that is needed
pub data UnpackWhy : Type 0 where
  Differ : (found needed : Ty) → UnpackWhy

pub data UnpackRefuses : (ty : Ty) (target : Abs) → UnpackWhy → Type 0 where
  other_type : {t : Ty} {y : Abs}
      → t ≢ enc_abs y
      → UnpackRefuses t y (Differ t (enc_abs y))
