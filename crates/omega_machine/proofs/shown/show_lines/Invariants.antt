use Rattle.std.proofs.Common.{◌≡◌, ◌++◌, drop}
use Rattle.omega_terms.specs.Fields.{term_row}
use Rattle.omega_terms.specs.ValueText.{lines}
use Rattle.omega_machine.proofs.shown.show_lines.Given as goal

abbrev pub invariant-loop-field : goal.invariant-loop-field
invariant-loop-field l = l.out.items ++ lines (term_row (drop l.field-index l.field-items)) ≡ l.fn.out.items ++ lines (term_row l.field-items)
