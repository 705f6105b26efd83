use Rattle.std.proofs.Common.{◌≡◌, ◌≤◌, ◌+◌, ◌*◌, take, drop}
use Rattle.omega_types.specs.Normaliser.{normal}
use Rattle.omega_types.specs.Inner.Scope.{scope_of}
use Rattle.omega_types.specs.Inner.Size.{nodes, nodes_pairs}
use Rattle.omega_types.proofs.Steps.{map_parts}
use Rattle.type_normal.proofs.normalising.+normalise.Given as goal

abbrev pub decreases-normalise : goal.decreases-normalise
decreases-normalise l = 4 * nodes l.ty.now

abbrev pub decreases-normalise_arrow : goal.decreases-normalise_arrow
decreases-normalise_arrow l = 4 * (nodes l.a.now + nodes l.b.now) + 3

abbrev pub decreases-normalise_even : goal.decreases-normalise_even
decreases-normalise_even l = 4 * (nodes l.part.now + nodes l.part.now) + 3

abbrev pub decreases-normalise_record : goal.decreases-normalise_record
decreases-normalise_record l = 4 * nodes_pairs l.fields.now + 3

abbrev pub decreases-normalise_sum : goal.decreases-normalise_sum
decreases-normalise_sum l = 4 * nodes_pairs l.fields.now + 3

abbrev pub decreases-normalise_all : goal.decreases-normalise_all
decreases-normalise_all l = 4 * nodes l.b.now + 3

abbrev pub decreases-normalise_ex : goal.decreases-normalise_ex
decreases-normalise_ex l = 4 * nodes l.b.now + 3

abbrev pub decreases-normalise_mu : goal.decreases-normalise_mu
decreases-normalise_mu l = 4 * nodes l.b.now + 3

abbrev pub decreases-normalise_operator : goal.decreases-normalise_operator
decreases-normalise_operator l = 4 * nodes l.b.now + 3

abbrev pub decreases-normalise_application : goal.decreases-normalise_application
decreases-normalise_application l = 4 * (nodes l.f.now + nodes l.a.now) + 3

abbrev pub decreases-normalise_under : goal.decreases-normalise_under
decreases-normalise_under l = 4 * nodes l.body.now + 1

abbrev pub decreases-normalise_fields : goal.decreases-normalise_fields
decreases-normalise_fields l = 4 * nodes_pairs l.fields.now + 1

abbrev pub invariant-normalise_fields-loop-field : goal.invariant-normalise_fields-loop-field
invariant-normalise_fields-loop-field l =
    let scope = scope_of l.initial.scope.items in
    (scope_of l.scope.items ≡ scope) × (l.found ≡ map_parts (normal scope) (take l.field-index l.field-items)) × (nodes_pairs (drop l.field-index l.field-items) ≤ nodes_pairs l.field-items)
