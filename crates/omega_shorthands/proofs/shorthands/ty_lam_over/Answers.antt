use Rattle.std.proofs.Common.{arith}
use Rattle.omega_shorthands.proofs.PackSteps.{lam-next}
use Rattle.omega_shorthands.proofs.shorthands.ty_lam_over.Goals as goal

pub loop-left-preserved : goal.loop-left-preserved
loop-left-preserved c = (
  omega arith,
  lam-next c.items-kinds.result.now c.loop-left.left c.index-kinds-left.result c.in_ok-share.field-0 c.loop-left.term c.in_ok-term.term _ c.loop-left-test.true c.loop-left.invariant.0 c.loop-left.invariant.1 c.index-kinds-left.is c.in_ok-share.ensures c.in_ok-term.ensures,
)
