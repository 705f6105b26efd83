use Rattle.std.proofs.lemmas.Result.{IfOk-weaker}
use Rattle.omega_machine.proofs.Canonical.{no-instance}
use Rattle.omega_machine.proofs.Reduced.{inst-step}
use Rattle.omega_machine.proofs.redexes.inst.Goals as goal

pub unreachable-requires : goal.unreachable-requires
unreachable-requires c =
    no-instance c.node.result.now c.args.function.now c.args.ty.now c.node.ensures c.requires.typed c.requires.function c.in_default.not-TyLam

pub returns : goal.returns
returns c =
    IfOk-weaker _ _ _ (λ e h. inst-step c.node.result.now _ _ c.args.function.now c.args.ty.now e c.in-TyLam.is c.node.ensures h) c.put_type.ensures
