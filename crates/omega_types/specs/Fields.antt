-- The fields of a record or a sum, as a list of labels with their types, and as the row of the plain tree.
use Rattle.std.specs.Prelude.{List, [], ◌∷◌, Option, Some, None, if◌then◌else◌}
use Rattle.std.specs.Ordering.{is_eq}
use Rattle.omega_kinds.specs.declared.label.Label.{Label}
use Rattle.omega_kinds.specs.LabelOrder.{LabelBefore, label_cmp}
use Rattle.omega_types.specs.Ty.{Ty, Row}

abbrev pub Pairs : Type 0
Pairs = List (Label × Ty)

abbrev pub row : Pairs → Row
row [] = Row.End
row (x ∷ xs) = Row.More x.0 x.1 (row xs)

-- each field's label is before the next one's
abbrev pub Rises : {T : Type 0} → List (Label × T) → Type 0
Rises [] = Unit {0}
Rises (x ∷ []) = Unit {0}
Rises (x ∷ y ∷ xs) = LabelBefore x.0 y.0 × Rises (y ∷ xs)

-- a label is after those of all these fields, which rise
abbrev pub MayFollow : {T : Type 0} → List (Label × T) → Label → Type 0
MayFollow [] l = Unit {0}
MayFollow (x ∷ []) l = LabelBefore x.0 l
MayFollow (x ∷ y ∷ xs) l = MayFollow (y ∷ xs) l

-- what stands at a label, in the first field that has it
abbrev pub at_label : {T : Type 0} → List (Label × T) → Label → Option T
at_label [] l = None
at_label (x ∷ xs) l = if is_eq (label_cmp x.0 l) then Some x.1 else at_label xs l
