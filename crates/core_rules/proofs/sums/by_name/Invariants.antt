use Rattle.std.proofs.Common.{drop}
use Rattle.omega_types.specs.Fields.{row}
use Rattle.core_rules.proofs.Cases.{BranchesLeft}
use Rattle.core_rules.proofs.sums.by_name.Given as goal

abbrev pub invariant-loop-branch : goal.invariant-loop-branch
invariant-loop-branch l = BranchesLeft (row l.labels) l.target l.branch-items (drop l.branch-index l.branch-items) l.parts.entries
