use Rattle.std.proofs.Common.{drop}
use Rattle.core_rules.proofs.RecordSteps.{ExpsLeft}
use Rattle.core_rules.proofs.records.fields_exp.Given as goal

abbrev pub invariant-loop-field : goal.invariant-loop-field
invariant-loop-field l = ExpsLeft l.field-items (drop l.field-index l.field-items) l.parts.entries
