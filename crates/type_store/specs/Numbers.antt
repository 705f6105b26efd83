-- Numbers that may be missing, and the parts of records and sums by label.
use Rattle.std.specs.Prelude.{ℕ, List, Option, Some, None, if◌then◌else◌}
use Rattle.std.specs.Ordering.{is_eq}
use Rattle.omega_kinds.specs.LabelOrder.{label_cmp}
use Rattle.omega_kinds.specs.declared.label.Label.{Label}
use Rattle.omega_types.specs.Mentions.{lower}
use Rattle.omega_types.specs.Ty.{Ty, Row}
use Rattle.type_normal.specs.Mentioned.{is_mentioned}
use Rattle.type_store.specs.Trees.{Holds}

-- there is a number exactly where there is a type, and the type stands at the number
abbrev pub NumberOf : List Ty → Option ℕ → Option Ty → Type 0
NumberOf ts None None = Unit {0}
NumberOf ts None (Some t) = ⊥
NumberOf ts (Some n) None = ⊥
NumberOf ts (Some n) (Some t) = Holds ts n t

-- the type at a label, in the first field that has it
abbrev pub part_at : Row → Label → Option Ty
part_at Row.End l = None
part_at (Row.More m t r) l = if is_eq (label_cmp m l) then Some t else part_at r l

-- the type of a record's field, and that of a sum's part
abbrev pub field_type : Ty → Label → Option Ty
field_type (Ty.Fields r) l = part_at r l
field_type _ l = None

abbrev pub variant_type : Ty → Label → Option Ty
variant_type (Ty.Sum r) l = part_at r l
variant_type _ l = None

-- the type outside of the innermost variable's binder, where it does not mention the variable
abbrev pub outside : Ty → Option Ty
outside t = if is_mentioned 0 t then None else Some (lower 1 t)
