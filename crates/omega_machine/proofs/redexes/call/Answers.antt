use Rattle.std.proofs.lemmas.Result.{IfOk-weaker}
use Rattle.omega_machine.proofs.Canonical.{no-function}
use Rattle.omega_machine.proofs.Reduced.{lam-step, fix-step}
use Rattle.omega_machine.proofs.redexes.call.Goals as goal

pub unreachable-requires : goal.unreachable-requires
unreachable-requires c =
    no-function c.node.result.now c.args.function.now c.args.arg.now c.node.ensures c.requires.typed c.requires.function c.in_default.not-Lam c.in_default.not-Fix

pub returns-in-Lam : goal.returns-in-Lam
returns-in-Lam c =
    IfOk-weaker _ _ _ (λ e h. lam-step c.node.result.now _ _ c.args.function.now c.args.arg.now e c.in-Lam.is c.node.ensures c.requires.arg h) c.put_term.ensures

pub returns-in_ok-body-in-Fix : goal.returns-in_ok-body-in-Fix
returns-in_ok-body-in-Fix c =
    IfOk-weaker _ _ _ (λ e h. fix-step c.node.result.now _ _ _ c.args.function.now c.args.arg.now _ _ e c.in-Fix.is c.node.ensures c.requires.arg c.in_ok-arg-in-Fix.ensures c.in_ok-body-in-Fix.ensures h) c.put_term-in-Fix-2.ensures
