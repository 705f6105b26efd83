use Rattle.std.proofs.Common.{◌<◌, All}
use Rattle.semantic_sigs.specs.Inner.Size.{sig_nodes, sig_pairs_nodes}
use Rattle.show_sigs.proofs.search.Search.+visit.Given as goal

abbrev pub invariant-visit_fields-loop-field : goal.invariant-visit_fields-loop-field
invariant-visit_fields-loop-field l = All (λ f. sig_nodes f.now.1 < sig_pairs_nodes l.fields) l.field-items
