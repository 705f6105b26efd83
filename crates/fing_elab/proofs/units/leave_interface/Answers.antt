use Rattle.std.proofs.Common.{◌∙◌}
use Rattle.fing_elab.proofs.Separate.{left-interface}
use Rattle.fing_elab.proofs.units.leave_interface.Goals as goal

pub returns : goal.returns
returns c g x e = left-interface g x c.args.sig.now c.items.result.now c.args.env.now c.leave.new.env (c.items.ensures ∙ c.kinds.ensures) e c.leave.ensures
