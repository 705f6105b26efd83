use Rattle.std.proofs.Common.{◌≤◌, drop}
use Rattle.semantic_sigs.specs.Inner.Size.{sig_pairs_nodes}
use Rattle.show_scopes.proofs.finder.Finder.+visit.Given as goal

abbrev pub invariant-visit_fields-loop-field : goal.invariant-visit_fields-loop-field
invariant-visit_fields-loop-field l = sig_pairs_nodes (drop l.field-index l.field-items) ≤ sig_pairs_nodes l.field-items
