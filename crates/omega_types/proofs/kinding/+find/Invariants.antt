use Rattle.std.proofs.Common.{◌≡◌, ◌≤◌, ◌+◌, ◌*◌, ◌&&◌, drop}
use Rattle.omega_types.specs.Fields.{row}
use Rattle.omega_types.specs.Inner.Size.{nodes, nodes_pairs}
use Rattle.omega_types.specs.Inner.Scope.{scope_of}
use Rattle.omega_types.specs.KindIn.{all_star}
use Rattle.omega_types.proofs.kinding.+find.Given as goal

abbrev pub decreases-find_kind : goal.decreases-find_kind
decreases-find_kind l = 4 * nodes l.ty.now

abbrev pub decreases-find_arrow : goal.decreases-find_arrow
decreases-find_arrow l = 4 * (nodes l.from.now + nodes l.to.now) + 3

abbrev pub decreases-find_even : goal.decreases-find_even
decreases-find_even l = 4 * (nodes l.part.now + nodes l.part.now) + 3

abbrev pub decreases-find_fields : goal.decreases-find_fields
decreases-find_fields l = 4 * nodes_pairs l.fields.now + 3

abbrev pub decreases-find_quantified : goal.decreases-find_quantified
decreases-find_quantified l = 4 * nodes l.body.now + 3

abbrev pub decreases-find_operator : goal.decreases-find_operator
decreases-find_operator l = 4 * nodes l.body.now + 3

abbrev pub decreases-find_application : goal.decreases-find_application
decreases-find_application l = 4 * (nodes l.operator.now + nodes l.arg.now) + 3

abbrev pub decreases-find_under : goal.decreases-find_under
decreases-find_under l = 4 * nodes l.body.now + 1

abbrev pub decreases-all_star : goal.decreases-all_star
decreases-all_star l = 4 * nodes_pairs l.fields.now + 1

abbrev pub invariant-all_star-loop-field : goal.invariant-all_star-loop-field
invariant-all_star-loop-field l =
    let scope = scope_of l.initial.scope.items in
    (scope_of l.scope.items ≡ scope) × ((l.all && all_star scope (row (drop l.field-index l.field-items))) ≡ all_star scope (row l.field-items)) × (nodes_pairs (drop l.field-index l.field-items) ≤ nodes_pairs l.field-items)
