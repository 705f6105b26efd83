use Rattle.std.proofs.Common.{◌≡◌, ◌≤◌, ◌+◌, ◌*◌, drop}
use Rattle.omega_types.specs.Fields.{row}
use Rattle.omega_types.specs.Inner.Scope.{scope_of}
use Rattle.omega_types.specs.Inner.Size.{nodes, nodes_pairs}
use Rattle.omega_checker.specs.Inner.IsNormal.{are_normal, scope_below}
use Rattle.omega_checker.proofs.normality.+normal.Given as goal

abbrev pub decreases-normal_at_kind : goal.decreases-normal_at_kind
decreases-normal_at_kind l = 3 * nodes l.ty.now + 1

abbrev pub decreases-normal_type : goal.decreases-normal_type
decreases-normal_type l = 3 * nodes l.ty.now

abbrev pub decreases-normal_body : goal.decreases-normal_body
decreases-normal_body l = 3 * nodes l.body.now + 2

abbrev pub decreases-normal_fields : goal.decreases-normal_fields
decreases-normal_fields l = 3 * nodes_pairs l.fields.now + 1

abbrev pub decreases-neutral_kind : goal.decreases-neutral_kind
decreases-neutral_kind l = 3 * nodes l.ty.now

abbrev pub decreases-applied_kind : goal.decreases-applied_kind
decreases-applied_kind l = 3 * (nodes l.operator.now + nodes l.arg.now) + 2

abbrev pub invariant-normal_fields-loop-field : goal.invariant-normal_fields-loop-field
invariant-normal_fields-loop-field l =
    let scope = scope_below l.ctx l.initial.inner.items in
    (scope_of l.inner.items ≡ scope_of l.initial.inner.items) ×
    (are_normal scope (row (drop l.field-index l.field-items)) ≡ are_normal scope (row l.field-items)) ×
    (nodes_pairs (drop l.field-index l.field-items) ≤ nodes_pairs l.field-items)
