use Rattle.std.proofs.Common.{◌≤◌, ◌+◌, ◌*◌, take, drop}
use Rattle.omega_types.specs.Fields.{row}
use Rattle.omega_types.specs.Inner.Size.{nodes, nodes_pairs}
use Rattle.type_store.specs.Trees.{Begins, MakesParts}
use Rattle.type_store.proofs.store.Store.+put.Given as goal

abbrev pub decreases-put_type : goal.decreases-put_type
decreases-put_type l = 3 * nodes l.ty.now + 1

abbrev pub decreases-put_parts : goal.decreases-put_parts
decreases-put_parts l = 3 * nodes l.ty.now

abbrev pub decreases-put_arrow : goal.decreases-put_arrow
decreases-put_arrow l = 3 * (nodes l.from.now + nodes l.to.now) + 2

abbrev pub decreases-put_even : goal.decreases-put_even
decreases-put_even l = 6 * nodes l.part.now + 2

abbrev pub decreases-put_record : goal.decreases-put_record
decreases-put_record l = 3 * nodes_pairs l.fields.now + 2

abbrev pub decreases-put_sum : goal.decreases-put_sum
decreases-put_sum l = 3 * nodes_pairs l.fields.now + 2

abbrev pub decreases-put_all : goal.decreases-put_all
decreases-put_all l = 3 * nodes l.body.now + 2

abbrev pub decreases-put_ex : goal.decreases-put_ex
decreases-put_ex l = 3 * nodes l.body.now + 2

abbrev pub decreases-put_mu : goal.decreases-put_mu
decreases-put_mu l = 3 * nodes l.body.now + 2

abbrev pub decreases-put_lam : goal.decreases-put_lam
decreases-put_lam l = 3 * nodes l.body.now + 2

abbrev pub decreases-put_apply : goal.decreases-put_apply
decreases-put_apply l = 3 * (nodes l.operator.now + nodes l.arg.now) + 2

abbrev pub decreases-put_fields : goal.decreases-put_fields
decreases-put_fields l = 3 * nodes_pairs l.fields.now

abbrev pub invariant-put_fields-loop-field : goal.invariant-put_fields-loop-field
invariant-put_fields-loop-field l =
    Begins l.initial.self l.self × MakesParts l.self l.parts.items (row (take l.field-index l.field-items)) ×
    (nodes_pairs (drop l.field-index l.field-items) ≤ nodes_pairs l.field-items)
