use Rattle.std.proofs.Common.{◌≡◌, ◌≤◌, ◌+◌, ◌*◌, take, drop}
use Rattle.omega_types.specs.Fields.{row}
use Rattle.omega_types.specs.Ty.{Ty}
use Rattle.omega_types.proofs.Steps.{map_parts}
use Rattle.type_normal.specs.Inner.Heads.{sunk, ty_in, under_head}
use Rattle.type_normal.specs.Inner.Placed.{coming_of, head_of}
use Rattle.type_normal.proofs.Calls.{calls, row_calls, operator_calls}
use Rattle.type_normal.proofs.placing.+place.Given as goal

abbrev pub decreases-place_head : goal.decreases-place_head
decreases-place_head l = 4 * calls (sunk l.depth (coming_of l.coming.now)) l.body.now + 1

abbrev pub decreases-place : goal.decreases-place
decreases-place l = 4 * calls (sunk l.depth (coming_of l.coming.now)) l.body.now + 2

abbrev pub decreases-place_arrow : goal.decreases-place_arrow
decreases-place_arrow l = 4 * (calls (sunk l.depth (coming_of l.coming.now)) l.a.now + calls (sunk l.depth (coming_of l.coming.now)) l.b.now) + 4

abbrev pub decreases-place_even : goal.decreases-place_even
decreases-place_even l = 4 * (calls (sunk l.depth (coming_of l.coming.now)) l.part.now + calls (sunk l.depth (coming_of l.coming.now)) l.part.now) + 4

abbrev pub decreases-place_record : goal.decreases-place_record
decreases-place_record l = 4 * row_calls (sunk l.depth (coming_of l.coming.now)) (row l.fields.now) + 4

abbrev pub decreases-place_sum : goal.decreases-place_sum
decreases-place_sum l = 4 * row_calls (sunk l.depth (coming_of l.coming.now)) (row l.fields.now) + 4

abbrev pub decreases-place_all : goal.decreases-place_all
decreases-place_all l = 4 * calls (under_head (sunk l.depth (coming_of l.coming.now))) l.b.now + 4

abbrev pub decreases-place_ex : goal.decreases-place_ex
decreases-place_ex l = 4 * calls (under_head (sunk l.depth (coming_of l.coming.now))) l.b.now + 4

abbrev pub decreases-place_mu : goal.decreases-place_mu
decreases-place_mu l = 4 * calls (under_head (sunk l.depth (coming_of l.coming.now))) l.b.now + 4

abbrev pub decreases-place_operator : goal.decreases-place_operator
decreases-place_operator l = 4 * calls (under_head (sunk l.depth (coming_of l.coming.now))) l.b.now + 4

abbrev pub decreases-place_application : goal.decreases-place_application
decreases-place_application l = 4 * calls (sunk l.depth (coming_of l.coming.now)) (Ty.Apply l.f.now l.a.now)

abbrev pub decreases-place_fields : goal.decreases-place_fields
decreases-place_fields l = 4 * row_calls (sunk l.depth (coming_of l.coming.now)) (row l.fields.now) + 3

abbrev pub decreases-apply : goal.decreases-apply
decreases-apply l = 4 * operator_calls (head_of l.operator) l.arg

abbrev pub invariant-place_fields-loop-field : goal.invariant-place_fields-loop-field
invariant-place_fields-loop-field l =
    let h = sunk l.depth (coming_of l.coming) in
    (l.placed ≡ map_parts (ty_in h) (take l.field-index l.field-items)) × (row_calls h (row (drop l.field-index l.field-items)) ≤ row_calls h (row l.field-items))
