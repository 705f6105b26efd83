use Rattle.std.proofs.Common.{◌≡◌, ◌≤◌, drop}
use Rattle.type_normal.specs.Inner.Least.{lesser}
use Rattle.semantic_sigs.specs.Inner.Fields.{sig_row}
use Rattle.semantic_sigs.specs.Inner.Least.{least_sig_row}
use Rattle.semantic_sigs.specs.Inner.Size.{sig_pairs_nodes}
use Rattle.semantic_sigs.proofs.mentioning.+least.Given as goal

abbrev pub invariant-least_in_sig_fields-loop-field : goal.invariant-least_in_sig_fields-loop-field
invariant-least_in_sig_fields-loop-field l =
    (lesser l.least (least_sig_row l.from (sig_row (drop l.field-index l.field-items))) ≡ least_sig_row l.from (sig_row l.field-items)) × (sig_pairs_nodes (drop l.field-index l.field-items) ≤ sig_pairs_nodes l.field-items)
