use Rattle.std.proofs.Common.{◌≡◌, map, take}
use Rattle.omega_kinds.specs.declared.label.Label.{Label}
use Rattle.omega_terms.specs.Fields.{term_row}
use Rattle.semantic_sigs.specs.Inner.Fields.{sig_row}
use Rattle.module_judgments.specs.Sequence.{Collected}
use Rattle.module_rules.proofs.Ended.{firsts}
use Rattle.module_rules.proofs.bindings.collected.Given as goal

abbrev pub invariant-loop-name : goal.invariant-loop-name
invariant-loop-name l = record {
  names : firsts l.parts ≡ take l.name-index l.names;
  labels : firsts l.terms ≡ map Label.Name (take l.name-index l.names);
  found : Collected l.env (take l.name-index l.names) (sig_row l.parts) (term_row l.terms);
}
