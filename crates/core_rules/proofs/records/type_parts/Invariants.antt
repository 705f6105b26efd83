use Rattle.std.proofs.Common.{drop}
use Rattle.core_rules.proofs.RecordSteps.{TypesLeft}
use Rattle.core_rules.proofs.records.type_parts.Given as goal

abbrev pub invariant-loop-field : goal.invariant-loop-field
invariant-loop-field l = TypesLeft l.field-items (drop l.field-index l.field-items) l.parts.entries
