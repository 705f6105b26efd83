use Rattle.std.proofs.Common.{◌≡◌, drop}
use Rattle.sig_definitions.specs.Signatures.FieldOrder.{with_names}
use Rattle.semantic_sigs.specs.Inner.Fields.{sig_row}
use Rattle.elab_rules.proofs.sets.with_names.Given as goal

abbrev pub invariant-loop-field : goal.invariant-loop-field
invariant-loop-field l = with_names (sig_row (drop l.field-index l.field-items)) l.names ≡ with_names (sig_row l.field-items) l.initial.names
