use Rattle.std.proofs.Common.{◌≡◌, ◌↔◌, ◌≤◌, drop}
use Rattle.omega_types.specs.Fields.{row}
use Rattle.omega_types.specs.Inner.Size.{nodes_pairs}
use Rattle.type_normal.proofs.comparing.+same.Given as goal

abbrev pub invariant-same_fields-loop-i : goal.invariant-same_fields-loop-i
invariant-same_fields-loop-i l =
    (row l.left ≡ row l.right ↔ row (drop l.i l.left) ≡ row (drop l.i l.right)) × (nodes_pairs (drop l.i l.left) ≤ nodes_pairs l.left)
