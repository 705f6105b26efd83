use Rattle.std.proofs.Common.{◌≡◌, drop}
use Rattle.omega_types.specs.Fields.{row}
use Rattle.omega_terms.specs.Fields.{term_row}
use Rattle.omega_simplify_laws.specs.Simplified.{are_parts}
use Rattle.omega_simplify.proofs.flatness.are_parts.Given as goal

abbrev pub invariant-loop-i : goal.invariant-loop-i
invariant-loop-i l = are_parts (row (drop l.i l.types)) (term_row (drop l.i l.fields)) ≡ are_parts (row l.types) (term_row l.fields)
