use Rattle.std.proofs.Common.{◌≡◌, ◌≤◌, drop}
use Rattle.semantic_sigs.specs.Inner.Fields.{sig_row}
use Rattle.semantic_sigs.specs.Inner.Size.{sig_pairs_nodes}
use Rattle.sig_scopes.specs.Inner.SigScoped.{sig_row_scoped}
use Rattle.sig_scopes.proofs.walks.+sigs.Given as goal

abbrev pub invariant-fits_fields-loop-field : goal.invariant-fits_fields-loop-field
invariant-fits_fields-loop-field l =
    (sig_row_scoped l.types (sig_row (drop l.field-index l.field-items)) ≡ sig_row_scoped l.types (sig_row l.field-items)) × (sig_pairs_nodes (drop l.field-index l.field-items) ≤ sig_pairs_nodes l.field-items)
