-- The fields of records and sums by their places.
use Rattle.std.specs.Prelude.{◌≡◌, ℕ, zero, suc, ◌<◌, List, Option, Some, None, slice_get}
use Rattle.omega_kinds.specs.declared.label.Label.{Label}
use Rattle.omega_types.specs.Fields.{Pairs}
use Rattle.omega_types.specs.Ty.{Ty, Row}
use Rattle.type_store.specs.declared.hinting.Alike.{Alike}
use Rattle.type_store.specs.Trees.{Holds, at}

-- the fields of a record or a sum
abbrev pub fields_of : Ty → Row
fields_of (Ty.Fields r) = r
fields_of (Ty.Sum r) = r
fields_of _ = Row.End

-- the label and the type at a place
abbrev pub field_at : Row → ℕ → Option (Label × Ty)
field_at Row.End i = None
field_at (Row.More l t r) zero = Some (l, t)
field_at (Row.More l t r) (suc i) = field_at r i

abbrev pub how_many : Row → ℕ
how_many Row.End = 0
how_many (Row.More l t r) = suc (how_many r)

-- the type at a number has a part of this type at the place
pub record HasPart (ts : List Ty) (whole place : ℕ) (t : Ty) : Type 0 where
  pub label : Label
  pub there : field_at (fields_of (at ts whole)) place ≡ Some (label, t)

-- the first fields are those of the type at a number, and the next one has the type of another number
pub record IsAlike (ts : List Ty) (whole : ℕ) (xs : Pairs) (alike : Alike) : Type 0 where
  pub same : (i : ℕ) → i < alike.count → field_at (fields_of (at ts whole)) i ≡ slice_get xs i
  pub next : (x : Label × Ty) → slice_get xs alike.count ≡ Some x → Holds ts alike.next x.1
