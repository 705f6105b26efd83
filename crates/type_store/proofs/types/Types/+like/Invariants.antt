use Rattle.std.proofs.Common.{◌≤◌, ◌+◌, ◌*◌, take, drop}
use Rattle.omega_types.specs.Fields.{row}
use Rattle.omega_types.specs.Inner.Size.{nodes, nodes_pairs}
use Rattle.type_store.specs.Trees.{Begins, MakesParts}
use Rattle.type_store.proofs.HintSteps.{AreAlike}
use Rattle.type_store.proofs.types.Types.+like.Given as goal

abbrev pub decreases-like : goal.decreases-like
decreases-like l = 4 * nodes l.ty.now

abbrev pub decreases-like_part : goal.decreases-like_part
decreases-like_part l = 4 * nodes l.ty.now + 1

abbrev pub decreases-like_next : goal.decreases-like_next
decreases-like_next l = 4 * nodes l.ty.now + 2

abbrev pub decreases-like_arrow : goal.decreases-like_arrow
decreases-like_arrow l = 4 * (nodes l.from.now + nodes l.to.now) + 3

abbrev pub decreases-like_even : goal.decreases-like_even
decreases-like_even l = 8 * nodes l.part.now + 3

abbrev pub decreases-like_apply : goal.decreases-like_apply
decreases-like_apply l = 4 * (nodes l.operator.now + nodes l.arg.now) + 3

abbrev pub decreases-like_all : goal.decreases-like_all
decreases-like_all l = 4 * nodes l.body.now + 3

abbrev pub decreases-like_ex : goal.decreases-like_ex
decreases-like_ex l = 4 * nodes l.body.now + 3

abbrev pub decreases-like_lam : goal.decreases-like_lam
decreases-like_lam l = 4 * nodes l.body.now + 3

abbrev pub decreases-like_mu : goal.decreases-like_mu
decreases-like_mu l = 4 * nodes l.body.now + 3

abbrev pub decreases-like_record : goal.decreases-like_record
decreases-like_record l = 4 * nodes_pairs l.fields.now + 3

abbrev pub decreases-like_sum : goal.decreases-like_sum
decreases-like_sum l = 4 * nodes_pairs l.fields.now + 3

abbrev pub decreases-alike : goal.decreases-alike
decreases-alike l = 4 * nodes_pairs l.fields.now + 2

abbrev pub decreases-like_rest : goal.decreases-like_rest
decreases-like_rest l = 4 * nodes_pairs l.fields.now + 2

abbrev pub invariant-alike-loop-i : goal.invariant-alike-loop-i
invariant-alike-loop-i l = Begins l.initial.self l.self × AreAlike l.self l.hint l.items l.i × (nodes_pairs (drop l.i l.items) ≤ nodes_pairs l.items)

abbrev pub invariant-like_rest-loop-i : goal.invariant-like_rest-loop-i
invariant-like_rest-loop-i l =
    Begins l.initial.self l.self × MakesParts l.self l.parts.items (row (take l.i l.items)) × (nodes_pairs (drop l.i l.items) ≤ nodes_pairs l.items)
