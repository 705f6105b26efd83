use Rattle.omega_terms.proofs.OneIndex.{row-done}
use Rattle.omega_simplify.proofs.RowSteps.{row-same}
use Rattle.omega_simplify.proofs.simplifying.shared_row.Goals as goal

pub returns : goal.returns
returns c = row-done (λ e. e) (λ r. r) _ _ _ _ row-same c.loop-branch.invariant c.loop-branch-test.false c.items-branch-items.ensures.value
