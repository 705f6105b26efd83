use Rattle.type_normal.proofs.LiftedSteps.{moves-nothing}
use Rattle.type_normal.proofs.renumbering.RenumberingTyChange.is_unchanged.Goals as goal

pub returns : goal.returns
returns c closed = moves-nothing c.args.self.now.places.now c.args.depth c.args.ty.now (c.is_closed.ensures.0 closed)
