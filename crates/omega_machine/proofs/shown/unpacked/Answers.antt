use Rattle.std.proofs.Common.{refl}
use Rattle.omega_machine.proofs.Texts.{inside-pack, inside-none}
use Rattle.omega_machine.proofs.shown.unpacked.Goals as goal

pub loop-body-init : goal.loop-body-init
loop-body-init c = refl

pub loop-body-preserved : goal.loop-body-preserved
loop-body-preserved c = inside-pack c.node.result.now _ _ c.in-Pack.body c.loop-body.inner.now _ c.in-Pack.is c.node.ensures c.loop-body.invariant

pub returns : goal.returns
returns c = inside-none c.node.result.now c.loop-body.inner.now _ c.node.ensures c.in_default.not-Pack c.loop-body.invariant
