use Rattle.std.proofs.Common.{◌≡◌, ◌↔◌, ◌≤◌, drop}
use Rattle.semantic_sigs.specs.Inner.Fields.{sig_row}
use Rattle.semantic_sigs.specs.Inner.Size.{sig_pairs_nodes}
use Rattle.fing_units.proofs.comparing.+same.Given as goal

abbrev pub invariant-same_fields-loop-i : goal.invariant-same_fields-loop-i
invariant-same_fields-loop-i l =
    (sig_row l.left ≡ sig_row l.right ↔ sig_row (drop l.i l.left) ≡ sig_row (drop l.i l.right)) × (sig_pairs_nodes (drop l.i l.left) ≤ sig_pairs_nodes l.left)
