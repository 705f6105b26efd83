use Rattle.std.proofs.Common.{◌≡◌, ◌≤◌, take, drop}
use Rattle.semantic_sigs.specs.Inner.Change.{change_of}
use Rattle.semantic_sigs.specs.Inner.Changes.{sunk, sig_in}
use Rattle.semantic_sigs.specs.Inner.Size.{sig_pairs_nodes}
use Rattle.semantic_sigs.proofs.SigSteps.{map_sigs}
use Rattle.semantic_sigs.proofs.changing.+change.Given as goal

abbrev pub invariant-change_sig_fields-loop-field : goal.invariant-change_sig_fields-loop-field
invariant-change_sig_fields-loop-field l =
    (l.changed ≡ map_sigs (sig_in (sunk l.depth (change_of l.change))) (take l.field-index l.field-items)) × (sig_pairs_nodes (drop l.field-index l.field-items) ≤ sig_pairs_nodes l.field-items)
