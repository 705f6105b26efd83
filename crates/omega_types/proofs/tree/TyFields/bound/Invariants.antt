use Rattle.std.proofs.Common.{◌≡◌, max, drop}
use Rattle.omega_types.specs.Inner.Bound.{bound_row}
use Rattle.omega_types.specs.Fields.{row}
use Rattle.omega_types.proofs.tree.TyFields.bound.Given as goal

abbrev pub invariant-loop-field : goal.invariant-loop-field
invariant-loop-field l =
    max l.most (bound_row (row (drop l.field-index l.field-items))) ≡ bound_row (row l.field-items)
