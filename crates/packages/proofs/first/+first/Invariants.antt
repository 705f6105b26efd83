use Rattle.std.proofs.Common.{◌≡◌, ◌≤◌, drop}
use Rattle.semantic_sigs.specs.Inner.Fields.{sig_row}
use Rattle.semantic_sigs.specs.Inner.Size.{sig_pairs_nodes}
use Rattle.packages.specs.Inner.First.{first_row}
use Rattle.packages.proofs.first.+first.Given as goal

abbrev pub invariant-first_field-loop-field : goal.invariant-first_field-loop-field
invariant-first_field-loop-field l =
    (first_row l.places l.depth (sig_row (drop l.field-index l.field-items)) ≡ first_row l.places l.depth (sig_row l.field-items)) × (sig_pairs_nodes (drop l.field-index l.field-items) ≤ sig_pairs_nodes l.field-items)
