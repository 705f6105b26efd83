use Rattle.std.proofs.Common.{◌≡◌, ◌≤◌, drop}
use Rattle.omega_types.specs.Fields.{row}
use Rattle.omega_types.specs.Inner.Size.{nodes_pairs}
use Rattle.omega_scopes.specs.Inner.Scoped.{row_scoped}
use Rattle.omega_scopes.proofs.scopes.+types.Given as goal

abbrev pub invariant-fits_ty_fields-loop-field : goal.invariant-fits_ty_fields-loop-field
invariant-fits_ty_fields-loop-field l =
    (row_scoped l.types (row (drop l.field-index l.field-items)) ≡ row_scoped l.types (row l.field-items)) × (nodes_pairs (drop l.field-index l.field-items) ≤ nodes_pairs l.field-items)
