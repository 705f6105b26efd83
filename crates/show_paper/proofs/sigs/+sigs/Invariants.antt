use Rattle.std.proofs.Common.{◌<◌, All}
use Rattle.semantic_sigs.specs.Inner.Size.{sig_nodes, sig_pairs_nodes}
use Rattle.show_paper.proofs.sigs.+sigs.Given as goal

abbrev pub invariant-put_structure-loop-field : goal.invariant-put_structure-loop-field
invariant-put_structure-loop-field l = All (λ f. sig_nodes f.now.1 < sig_pairs_nodes l.fields) l.field-items
