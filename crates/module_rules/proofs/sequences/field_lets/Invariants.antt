use Rattle.std.proofs.Common.{◌≡◌, ◌≤◌, length, drop}
use Rattle.semantic_sigs.specs.Inner.Fields.{sig_row}
use Rattle.module_judgments.specs.Sequence.{field_lets}
use Rattle.module_rules.proofs.sequences.field_lets.Given as goal

abbrev pub invariant-loop-left : goal.invariant-loop-left
invariant-loop-left l = record {
  within : l.left ≤ length l.fields;
  built : l.term ≡ field_lets l.left (sig_row (drop l.left l.fields)) l.fn.body;
}

abbrev pub decreases-loop-left : goal.decreases-loop-left
decreases-loop-left l = l.left
