use Rattle.std.proofs.Common.{◌≡◌, ◌≤◌, ◌+◌, ◌-◌, ◌^◌, min, drop}
use Rattle.omega_terms.specs.Fields.{term_row}
use Rattle.omega_terms.specs.Nodes.{row_nodes}
use Rattle.omega_terms.specs.Inner.Size.{pairs_size}
use Rattle.omega_terms.proofs.counting.+nodes.Given as goal

abbrev pub invariant-field_nodes-loop-field : goal.invariant-field_nodes-loop-field
invariant-field_nodes-loop-field l =
    (min (l.count + row_nodes (term_row (drop l.field-index l.field-items))) (2 ^ 64 - 1) ≡ min (row_nodes (term_row l.field-items)) (2 ^ 64 - 1)) × (l.count ≤ 2 ^ 64 - 1) × (pairs_size (drop l.field-index l.field-items) ≤ pairs_size l.field-items)
