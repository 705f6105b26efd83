use Rattle.std.proofs.Common.{◌≡◌, ◌≤◌, ◌+◌, ◌*◌, take, drop}
use Rattle.omega_types.specs.Inner.Size.{nodes, nodes_pairs}
use Rattle.omega_types.specs.Inner.Walk.{walked_ty}
use Rattle.omega_types.proofs.Steps.{map_parts}
use Rattle.omega_types.proofs.walking.+walk.Given as goal

abbrev pub decreases-walk_type : goal.decreases-walk_type
decreases-walk_type g l = 2 * nodes l.ty.now

abbrev pub decreases-walk_arrow : goal.decreases-walk_arrow
decreases-walk_arrow g l = 2 * (nodes l.a.now + nodes l.b.now) + 1

abbrev pub decreases-walk_even : goal.decreases-walk_even
decreases-walk_even g l = 4 * nodes l.part.now + 1

abbrev pub decreases-walk_record : goal.decreases-walk_record
decreases-walk_record g l = 2 * nodes_pairs l.fields.now + 1

abbrev pub decreases-walk_sum : goal.decreases-walk_sum
decreases-walk_sum g l = 2 * nodes_pairs l.fields.now + 1

abbrev pub decreases-walk_all : goal.decreases-walk_all
decreases-walk_all g l = 2 * nodes l.b.now + 1

abbrev pub decreases-walk_ex : goal.decreases-walk_ex
decreases-walk_ex g l = 2 * nodes l.b.now + 1

abbrev pub decreases-walk_mu : goal.decreases-walk_mu
decreases-walk_mu g l = 2 * nodes l.b.now + 1

abbrev pub decreases-walk_operator : goal.decreases-walk_operator
decreases-walk_operator g l = 2 * nodes l.b.now + 1

abbrev pub decreases-walk_application : goal.decreases-walk_application
decreases-walk_application g l = 2 * (nodes l.f.now + nodes l.a.now) + 1

abbrev pub decreases-walk_fields : goal.decreases-walk_fields
decreases-walk_fields g l = 2 * nodes_pairs l.fields.now

abbrev pub invariant-walk_fields-loop-field : goal.invariant-walk_fields-loop-field
invariant-walk_fields-loop-field g l =
    (l.walked ≡ map_parts (walked_ty (g.C.TyChange.variable_at l.change) l.depth) (take l.field-index l.field-items)) × (nodes_pairs (drop l.field-index l.field-items) ≤ nodes_pairs l.field-items)
