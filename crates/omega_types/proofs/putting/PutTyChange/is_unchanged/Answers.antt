use Rattle.omega_types.proofs.Steps.{puts-nothing}
use Rattle.omega_types.proofs.putting.PutTyChange.is_unchanged.Goals as goal

pub returns : goal.returns
returns c closed = puts-nothing c.args.self.now.index c.args.at c.args.self.now.arg.now c.args.ty.now (c.is_closed.ensures.0 closed)
