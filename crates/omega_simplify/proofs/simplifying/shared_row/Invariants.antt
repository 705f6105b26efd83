use Rattle.std.proofs.Common.{◌≡◌, take}
use Rattle.omega_simplify.proofs.RowSteps.{same_terms}
use Rattle.omega_simplify.proofs.simplifying.shared_row.Given as goal

abbrev pub invariant-loop-branch : goal.invariant-loop-branch
invariant-loop-branch l = l.row ≡ same_terms (take l.branch-index l.branch-items)
