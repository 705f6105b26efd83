use Rattle.std.proofs.Common.{◌≡◌, ◌≤◌, length, map, take}
use Rattle.omega_kinds.specs.View.{kind_tree}
use Rattle.semantic_sigs.specs.Inner.Quantified.{quantified}
use Rattle.semantic_sigs.proofs.encoding.quantify.Given as goal

abbrev pub invariant-loop-left : goal.invariant-loop-left
invariant-loop-left l =
    (l.left ≤ length l.kinds) × (quantified l.quantifier (map kind_tree (take l.left l.kinds)) l.ty ≡ quantified l.quantifier (map kind_tree l.kinds) l.fn.body)

abbrev pub decreases-loop-left : goal.decreases-loop-left
decreases-loop-left l = l.left
