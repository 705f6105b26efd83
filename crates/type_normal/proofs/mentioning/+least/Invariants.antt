use Rattle.std.proofs.Common.{◌≡◌, ◌≤◌, ◌+◌, ◌*◌, drop}
use Rattle.omega_types.specs.Fields.{row}
use Rattle.omega_types.specs.Inner.Size.{nodes, nodes_pairs}
use Rattle.type_normal.specs.Inner.Least.{lesser, least_row}
use Rattle.type_normal.proofs.mentioning.+least.Given as goal

abbrev pub decreases-least_in_ty : goal.decreases-least_in_ty
decreases-least_in_ty l = 2 * nodes l.ty.now

abbrev pub decreases-least_in_two : goal.decreases-least_in_two
decreases-least_in_two l = 2 * (nodes l.a.now + nodes l.b.now) + 1

abbrev pub decreases-least_in_body : goal.decreases-least_in_body
decreases-least_in_body l = 2 * nodes l.body.now + 1

abbrev pub decreases-least_in_fields : goal.decreases-least_in_fields
decreases-least_in_fields l = 2 * nodes_pairs l.fields.now + 1

abbrev pub invariant-least_in_fields-loop-field : goal.invariant-least_in_fields-loop-field
invariant-least_in_fields-loop-field l =
    (lesser l.least (least_row l.from (row (drop l.field-index l.field-items))) ≡ least_row l.from (row l.field-items)) × (nodes_pairs (drop l.field-index l.field-items) ≤ nodes_pairs l.field-items)
