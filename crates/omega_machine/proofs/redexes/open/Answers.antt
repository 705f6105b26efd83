use Rattle.std.proofs.lemmas.Result.{IfOk-weaker}
use Rattle.omega_machine.proofs.Canonical.{no-package}
use Rattle.omega_machine.proofs.Reduced.{open-step}
use Rattle.omega_machine.proofs.redexes.open.Goals as goal

pub unreachable-requires : goal.unreachable-requires
unreachable-requires c =
    no-package c.node.result.now c.args.packed.now c.args.body.now c.node.ensures c.requires.typed c.requires.packed c.in_default.not-Pack

pub returns : goal.returns
returns c =
    IfOk-weaker _ _ _ (λ e h. open-step c.node.result.now _ _ _ c.args.packed.now c.args.body.now _ e c.in-Pack.is c.node.ensures c.requires.packed c.in_ok-body.ensures h) c.put_term.ensures
