use Rattle.std.proofs.Common.{drop}
use Rattle.core_rules.proofs.Cases.{LabelsLeft}
use Rattle.core_rules.proofs.sums.in_order.Given as goal

abbrev pub invariant-loop-label : goal.invariant-loop-label
invariant-loop-label l = LabelsLeft l.parts.entries l.label-items (drop l.label-index l.label-items) l.terms
