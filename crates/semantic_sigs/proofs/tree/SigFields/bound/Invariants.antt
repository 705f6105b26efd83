use Rattle.std.proofs.Common.{◌≡◌, max, drop}
use Rattle.semantic_sigs.specs.Inner.Bound.{bound_sig_row}
use Rattle.semantic_sigs.specs.Inner.Fields.{sig_row}
use Rattle.semantic_sigs.proofs.tree.SigFields.bound.Given as goal

abbrev pub invariant-loop-field : goal.invariant-loop-field
invariant-loop-field l =
    max l.most (bound_sig_row (sig_row (drop l.field-index l.field-items))) ≡ bound_sig_row (sig_row l.field-items)
