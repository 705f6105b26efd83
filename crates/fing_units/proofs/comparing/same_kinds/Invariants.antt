use Rattle.std.proofs.Common.{◌≡◌, ◌↔◌, drop, map}
use Rattle.omega_kinds.specs.View.{kind_tree}
use Rattle.fing_units.proofs.comparing.same_kinds.Given as goal

abbrev pub invariant-loop-i : goal.invariant-loop-i
invariant-loop-i l = map kind_tree l.left ≡ map kind_tree l.right ↔ map kind_tree (drop l.i l.left) ≡ map kind_tree (drop l.i l.right)
