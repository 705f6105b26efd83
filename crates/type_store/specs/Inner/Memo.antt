-- What is remembered of the types of a store.
use Rattle.std.specs.Prelude.{◌≡◌, ℕ, ◌<◌, ◌⊎◌, List, Bool as Truth, ◌&&◌, ◌==◌, Option, None, Some, get_or, length}
use Rattle.std.specs.Map.{lookup}
use Rattle.omega_kinds.specs.Kind.{Kind}
use Rattle.omega_types.specs.Index.{shift}
use Rattle.omega_types.specs.Normaliser.{args, hsubst, put_in_row}
use Rattle.omega_types.specs.Ty.{Ty, Row}
use Rattle.type_store.specs.declared.memo.First.{First}
use Rattle.type_store.specs.declared.memo.Memo.{Memo}
use Rattle.type_store.specs.Trees.{Holds, at}

-- three numbers under which a result is kept
abbrev pub Key : Type 0
Key = ℕ × ℕ × ℕ

abbrev pub key_eq : Key → Key → Truth
key_eq p q = (p.0 == q.0 && p.1 == q.1) && p.2 == q.2

-- the first result of a number
abbrev pub first_at : List (Option First) → ℕ → Option First
first_at firsts i = get_or firsts i None

-- the value is remembered under the key
abbrev pub Remembers : Memo → Key → ℕ → Type 0
Remembers m k v = (lookup (key_eq k) m.rest.entries ≡ Some v) ⊎ ((k.1 ≡ 0) × (first_at m.firsts.items k.0 ≡ Some (record { with = k.2; value = v })))

-- no more is remembered than was, and one value under one key
pub record IsNoted (old new : Memo) (key : Key) (value : ℕ) : Type 0 where
  pub only : (k : Key) (v : ℕ) → Remembers new k v → Remembers old k v ⊎ ((k ≡ key) × (v ≡ value))

-- under a number, an index and a distance: the value is the number of the type at the first, shifted by the distance from
-- the index
pub record IsShift (ts : List Ty) (k : Key) (v : ℕ) : Type 0 where
  pub within : k.0 < length ts
  pub value : Holds ts v (shift k.2 k.1 (at ts k.0))

-- a type of kind * put in for an index below as many binders, in normal form
abbrev pub filled : (index : ℕ) → (arg body : Ty) → Ty
filled index arg body = hsubst Kind.Star index (shift index 0 arg) body

abbrev pub filled_row : (index : ℕ) → (arg : Ty) → Row → Row
filled_row index arg r = put_in_row Kind.Star (args Kind.Star) index (shift index 0 arg) r

-- under a number, an index and another number: the value is the number of the type at the first with the type at the
-- other put in for the index
pub record IsFilled (ts : List Ty) (k : Key) (v : ℕ) : Type 0 where
  pub within : k.0 < length ts
  pub arg_within : k.2 < length ts
  pub value : Holds ts v (filled k.1 (at ts k.2) (at ts k.0))

-- each result that is remembered is right
pub record AreAll (Is : List Ty → Key → ℕ → Type 0) (ts : List Ty) (m : Memo) : Type 0 where
  pub each : (k : Key) (v : ℕ) → Remembers m k v → Is ts k v

abbrev pub AreShifts : List Ty → Memo → Type 0
AreShifts = AreAll IsShift

abbrev pub AreFilled : List Ty → Memo → Type 0
AreFilled = AreAll IsFilled
