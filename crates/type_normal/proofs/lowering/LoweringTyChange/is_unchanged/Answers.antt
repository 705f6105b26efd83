use Rattle.type_normal.proofs.LiftedSteps.{lowers-nothing}
use Rattle.type_normal.proofs.lowering.LoweringTyChange.is_unchanged.Goals as goal

pub returns : goal.returns
returns c closed = lowers-nothing c.args.self.now.by c.args.depth c.args.ty.now (c.is_closed.ensures.0 closed)
