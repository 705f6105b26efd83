use Rattle.std.proofs.Common.{◌≡◌, ◌+◌, ◌*◌, take}
use Rattle.type_store.proofs.PartSteps.{pairs_at}
use Rattle.type_store.proofs.types.Types.+tree.Given as goal

abbrev pub decreases-tree : goal.decreases-tree
decreases-tree l = 4 * l.number + 3

abbrev pub decreases-tree_arrow : goal.decreases-tree_arrow
decreases-tree_arrow l = 4 * l.whole + 1

abbrev pub decreases-tree_even : goal.decreases-tree_even
decreases-tree_even l = 4 * l.whole + 1

abbrev pub decreases-tree_apply : goal.decreases-tree_apply
decreases-tree_apply l = 4 * l.whole + 1

abbrev pub decreases-tree_all : goal.decreases-tree_all
decreases-tree_all l = 4 * l.whole + 1

abbrev pub decreases-tree_ex : goal.decreases-tree_ex
decreases-tree_ex l = 4 * l.whole + 1

abbrev pub decreases-tree_lam : goal.decreases-tree_lam
decreases-tree_lam l = 4 * l.whole + 1

abbrev pub decreases-tree_mu : goal.decreases-tree_mu
decreases-tree_mu l = 4 * l.whole + 1

abbrev pub decreases-tree_record : goal.decreases-tree_record
decreases-tree_record l = 4 * l.whole + 1

abbrev pub decreases-tree_sum : goal.decreases-tree_sum
decreases-tree_sum l = 4 * l.whole + 1

abbrev pub decreases-tree_fields : goal.decreases-tree_fields
decreases-tree_fields l = 4 * l.whole

abbrev pub invariant-tree_fields-loop-part : goal.invariant-tree_fields-loop-part
invariant-tree_fields-loop-part l = l.fields ≡ pairs_at l.self (take l.part-index l.parts)
