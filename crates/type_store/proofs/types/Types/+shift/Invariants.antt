use Rattle.std.proofs.Common.{◌+◌, ◌*◌, take}
use Rattle.omega_types.specs.Fields.{row}
use Rattle.omega_types.specs.Index.{shift}
use Rattle.type_store.specs.Trees.{Begins, MakesParts}
use Rattle.type_store.proofs.MapSteps.{mapped_pairs}
use Rattle.type_store.proofs.types.Types.+shift.Given as goal

abbrev pub decreases-shift : goal.decreases-shift
decreases-shift l = 4 * l.number + 3

abbrev pub decreases-shift_parts : goal.decreases-shift_parts
decreases-shift_parts l = 4 * l.number + 2

abbrev pub decreases-shift_arrow : goal.decreases-shift_arrow
decreases-shift_arrow l = 4 * l.whole + 1

abbrev pub decreases-shift_even : goal.decreases-shift_even
decreases-shift_even l = 4 * l.whole + 1

abbrev pub decreases-shift_apply : goal.decreases-shift_apply
decreases-shift_apply l = 4 * l.whole + 1

abbrev pub decreases-shift_all : goal.decreases-shift_all
decreases-shift_all l = 4 * l.whole + 1

abbrev pub decreases-shift_ex : goal.decreases-shift_ex
decreases-shift_ex l = 4 * l.whole + 1

abbrev pub decreases-shift_lam : goal.decreases-shift_lam
decreases-shift_lam l = 4 * l.whole + 1

abbrev pub decreases-shift_mu : goal.decreases-shift_mu
decreases-shift_mu l = 4 * l.whole + 1

abbrev pub decreases-shift_record : goal.decreases-shift_record
decreases-shift_record l = 4 * l.whole + 1

abbrev pub decreases-shift_sum : goal.decreases-shift_sum
decreases-shift_sum l = 4 * l.whole + 1

abbrev pub decreases-shift_fields : goal.decreases-shift_fields
decreases-shift_fields l = 4 * l.whole

abbrev pub invariant-shift_fields-loop-part : goal.invariant-shift_fields-loop-part
invariant-shift_fields-loop-part l =
    Begins l.initial.self l.self × MakesParts l.self l.shifted.items (row (take l.part-index (mapped_pairs (shift l.by l.from) l.initial.self l.parts)))
