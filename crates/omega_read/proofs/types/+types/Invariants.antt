use Rattle.std.proofs.Common.{◌≡◌, ◌+◌, ◌*◌, ◌-◌, None}
use Rattle.omega_types.specs.Ty.{End, More}
use Rattle.omega_spelling.specs.Reading.{fields_at, ty_at}
use Rattle.omega_read.specs.Inner.Onto.{last_of, with_front}
use Rattle.omega_read.proofs.types.+types.Given as goal

abbrev pub decreases-ty_of : goal.decreases-ty_of
decreases-ty_of l = 6 * l.depth

abbrev pub decreases-node_of : goal.decreases-node_of
decreases-node_of l = 6 * l.depth + 5

abbrev pub decreases-later_node_of : goal.decreases-later_node_of
decreases-later_node_of l = 6 * l.depth + 4

abbrev pub decreases-sum_of : goal.decreases-sum_of
decreases-sum_of l = 6 * l.depth + 3

abbrev pub decreases-mu_of : goal.decreases-mu_of
decreases-mu_of l = 6 * l.depth + 1

abbrev pub decreases-record_of : goal.decreases-record_of
decreases-record_of l = 6 * l.depth + 3

abbrev pub decreases-fields_of : goal.decreases-fields_of
decreases-fields_of l = 6 * l.depth + 2

abbrev pub decreases-field_of : goal.decreases-field_of
decreases-field_of l = 6 * l.depth + 1

abbrev pub decreases-arrow_of : goal.decreases-arrow_of
decreases-arrow_of l = 6 * l.depth + 1

abbrev pub decreases-apply_of : goal.decreases-apply_of
decreases-apply_of l = 6 * l.depth + 1

abbrev pub decreases-all_of : goal.decreases-all_of
decreases-all_of l = 6 * l.depth + 1

abbrev pub decreases-some_of : goal.decreases-some_of
decreases-some_of l = 6 * l.depth + 1

abbrev pub decreases-lam_of : goal.decreases-lam_of
decreases-lam_of l = 6 * l.depth + 1

abbrev pub invariant-fields_of-loop : goal.invariant-fields_of-loop
invariant-fields_of-loop l =
    with_front More l.fields (fields_at End More (ty_at l.version l.depth l.types) (l.turns - l.counter) (last_of l.fields) l.left.rest.now) ≡ fields_at End More (ty_at l.version l.depth l.types) l.turns None l.initial.left.rest.now
