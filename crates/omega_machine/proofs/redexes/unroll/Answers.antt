use Rattle.std.proofs.lemmas.Result.{IfOk-weaker}
use Rattle.omega_machine.proofs.Canonical.{no-rolled}
use Rattle.omega_machine.proofs.Reduced.{unroll-step}
use Rattle.omega_machine.proofs.redexes.unroll.Goals as goal

pub unreachable-requires : goal.unreachable-requires
unreachable-requires c =
    no-rolled c.node.result.now c.args.rolled.now c.node.ensures c.requires.typed c.requires.rolled c.in_default.not-Roll

pub returns : goal.returns
returns c =
    IfOk-weaker _ _ _ (λ e g. unroll-step c.node.result.now _ _ c.args.rolled.now e c.in-Roll.is c.node.ensures c.requires.rolled g) c.share.ensures
