use Rattle.std.proofs.Common.{◌≡◌, ◌≤◌, take, drop}
use Rattle.semantic_sigs.specs.Inner.Size.{sig_pairs_nodes}
use Rattle.semantic_sigs.proofs.SigSteps.{map_sigs}
use Rattle.packages.specs.Inner.Normed.{normed_sig}
use Rattle.packages.proofs.norms.+norm.Given as goal

abbrev pub invariant-norm_fields-loop-field : goal.invariant-norm_fields-loop-field
invariant-norm_fields-loop-field l =
    (l.ordered ≡ map_sigs normed_sig (take l.field-index l.field-items)) × (sig_pairs_nodes (drop l.field-index l.field-items) ≤ sig_pairs_nodes l.field-items)
