use Rattle.omega_types.proofs.Steps.{shifts-nothing}
use Rattle.omega_types.proofs.shifting.RaiseTyChange.is_unchanged.Goals as goal

pub returns : goal.returns
returns c closed = shifts-nothing c.args.self.now.by c.args.depth c.args.ty.now (c.is_closed.ensures.0 closed)
