use Rattle.std.proofs.Common.{sym, subst, ap₂, ◌∙◌, w64, FitsSigned, rules}
use Rattle.std.proofs.lemmas.Int.{to_z-of_z}
use Rattle.omega_terms.specs.Steps.{IsValue, compute}
use Rattle.omega_machine.proofs.Canonical.{no-left, no-right}
use Rattle.omega_machine.proofs.Reduced.{arith-step, arith-fault}
use Rattle.omega_machine.proofs.redexes.operate.Goals as goal

pub unreachable-requires : goal.unreachable-requires
unreachable-requires c =
    no-left c.node.result.now c.args.op c.args.left.now c.args.right.now c.node.ensures c.requires.typed c.requires.left c.in_default.not-Int

pub unreachable-requires-in_default-node : goal.unreachable-requires-in_default-node
unreachable-requires-in_default-node c =
    no-right c.node-2.result.now c.args.op c.args.left.now c.args.right.now c.node-2.ensures c.requires.typed c.requires.right c.in_default-node.not-Int

pub returns-in_ok-make-in-Ok : goal.returns-in_ok-make-in-Ok
returns-in_ok-make-in-Ok c =
    let f : FitsSigned w64 c.in-Int.m = search rules in
    let g : FitsSigned w64 c.in-Int-node.n = search rules in
    let h = c.in-Ok.ensures in
    (arith-step c.node.result.now c.node-2.result.now _ _ c.args.op c.args.left.now c.args.right.now _ _ c.in-Int.is c.node.ensures c.in-Int-node.is c.node-2.ensures (ap₂ (compute c.args.op) (sym (to_z-of_z w64 c.in-Int.m f)) (sym (to_z-of_z w64 c.in-Int-node.n g)) ∙ h.0) c.in_ok-make-in-Ok.ensures, subst IsValue (sym c.in_ok-make-in-Ok.ensures) h.1)

pub returns-in-Err : goal.returns-in-Err
returns-in-Err c =
    let f : FitsSigned w64 c.in-Int.m = search rules in
    let g : FitsSigned w64 c.in-Int-node.n = search rules in
    arith-fault c.node.result.now c.node-2.result.now _ _ c.args.op c.args.left.now c.args.right.now _ c.in-Int.is c.node.ensures c.in-Int-node.is c.node-2.ensures (ap₂ (compute c.args.op) (sym (to_z-of_z w64 c.in-Int.m f)) (sym (to_z-of_z w64 c.in-Int-node.n g)) ∙ c.in-Err.ensures)
