-- The rules of iso-recursive types, one relation for the conclusion of each, and one for its refusals, over premises that are
-- already elaborated: normal types with their kinds and terms (Pierce, "Types and Programming Languages", figure 20-1). A
-- rule's conditions are tried in order.
use Rattle.std.specs.Prelude.{List, ◌≢◌}
use Rattle.omega_kinds.specs.Kind.{Kind}
use Rattle.omega_types.specs.Ty.{Ty}
use Rattle.omega_types.specs.Substitution.{instantiate}
use Rattle.omega_types.specs.Normalises.{NormalForm}
use Rattle.omega_terms.specs.Term.{Term}

pub data DataWhy : Type 0 where
  -- what is rolled to, or unrolled, is this other type
  NotData : (found : Ty) → DataWhy
  Differ : (found needed : Ty) → DataWhy
  KindDiffer : (found needed : Kind) → DataWhy

-- a normal type that is no recursive type
abbrev pub IsNoMu : Ty → Type 0
IsNoMu (Ty.Mu body) = ⊥
IsNoMu t = Unit {0}

-- what a recursive type unfolds to, in normal form: its body with the whole type for the variable
abbrev pub Unfolds : (ctx : List Kind) (body : Ty) → Ty → Type 0
Unfolds ctx body t = NormalForm ctx (instantiate body (Ty.Mu body)) Kind.Star t

-- the recursive type of a body that stands under a type variable of kind *
pub data MuGives : (body : Ty) (kind : Kind) → Ty → Kind → Type 0 where
  mu : {t : Ty} → MuGives t Kind.Star (Ty.Mu t) Kind.Star

pub data MuRefuses : (body : Ty) (kind : Kind) → DataWhy → Type 0 where
  body_kind : {t : Ty} {k : Kind}
      → k ≢ Kind.Star
      → MuRefuses t k (DataWhy.KindDiffer k Kind.Star)

-- roll E : T
pub data RollGives (ctx : List Kind) : (value : Ty) (term : Term) (target : Ty) (kind : Kind) → Ty → Term → Type 0 where
  roll : {b v : Ty} {e : Term}
      → Unfolds ctx b v
      → RollGives ctx v e (Ty.Mu b) Kind.Star (Ty.Mu b) (Term.Roll e (Ty.Mu b))

pub data RollRefuses (ctx : List Kind) : (value : Ty) (target : Ty) (kind : Kind) → DataWhy → Type 0 where
  target_kind : {v t : Ty} {k : Kind}
      → k ≢ Kind.Star
      → RollRefuses ctx v t k (DataWhy.KindDiffer k Kind.Star)
  no_data : {v t : Ty}
      → IsNoMu t
      → RollRefuses ctx v t Kind.Star (DataWhy.NotData t)
  value_type : {v b u : Ty}
      → Unfolds ctx b u
      → v ≢ u
      → RollRefuses ctx v (Ty.Mu b) Kind.Star (DataWhy.Differ v u)

-- unroll E
pub data UnrollGives (ctx : List Kind) : (whole : Ty) (term : Term) → Ty → Term → Type 0 where
  unroll : {b v : Ty} {e : Term}
      → Unfolds ctx b v
      → UnrollGives ctx (Ty.Mu b) e v (Term.Unroll e)

pub data UnrollRefuses : (whole : Ty) → DataWhy → Type 0 where
  no_data : {t : Ty}
      → IsNoMu t
      → UnrollRefuses t (DataWhy.NotData t)
