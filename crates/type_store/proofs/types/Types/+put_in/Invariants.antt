use Rattle.std.proofs.Common.{◌+◌, ◌*◌, take}
use Rattle.omega_types.specs.Fields.{row}
use Rattle.type_store.specs.Inner.Memo.{filled}
use Rattle.type_store.specs.Trees.{Begins, MakesParts, at}
use Rattle.type_store.proofs.MapSteps.{mapped_pairs}
use Rattle.type_store.proofs.types.Types.+put_in.Given as goal

abbrev pub decreases-put_in : goal.decreases-put_in
decreases-put_in l = 4 * l.body + 3

abbrev pub decreases-put_in_parts : goal.decreases-put_in_parts
decreases-put_in_parts l = 4 * l.body + 2

abbrev pub decreases-put_in_arrow : goal.decreases-put_in_arrow
decreases-put_in_arrow l = 4 * l.whole + 1

abbrev pub decreases-put_in_even : goal.decreases-put_in_even
decreases-put_in_even l = 4 * l.whole + 1

abbrev pub decreases-put_in_apply : goal.decreases-put_in_apply
decreases-put_in_apply l = 4 * l.whole + 1

abbrev pub decreases-put_in_all : goal.decreases-put_in_all
decreases-put_in_all l = 4 * l.whole + 1

abbrev pub decreases-put_in_ex : goal.decreases-put_in_ex
decreases-put_in_ex l = 4 * l.whole + 1

abbrev pub decreases-put_in_lam : goal.decreases-put_in_lam
decreases-put_in_lam l = 4 * l.whole + 1

abbrev pub decreases-put_in_mu : goal.decreases-put_in_mu
decreases-put_in_mu l = 4 * l.whole + 1

abbrev pub decreases-put_in_record : goal.decreases-put_in_record
decreases-put_in_record l = 4 * l.whole + 1

abbrev pub decreases-put_in_sum : goal.decreases-put_in_sum
decreases-put_in_sum l = 4 * l.whole + 1

abbrev pub decreases-put_in_fields : goal.decreases-put_in_fields
decreases-put_in_fields l = 4 * l.whole

abbrev pub invariant-put_in_fields-loop-part : goal.invariant-put_in_fields-loop-part
invariant-put_in_fields-loop-part l =
    Begins l.initial.self l.self × MakesParts l.self l.filled.items
    (row (take l.part-index (mapped_pairs (filled l.index (at l.initial.self l.arg)) l.initial.self l.parts)))
