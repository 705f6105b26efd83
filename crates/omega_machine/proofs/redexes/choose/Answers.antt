use Rattle.std.proofs.Common.{sym}
use Rattle.std.proofs.lemmas.Result.{IfOk-weaker}
use Rattle.omega_terms.proofs.AtLabel.{field-found, no-field}
use Rattle.omega_machine.proofs.Canonical.{no-injection}
use Rattle.omega_machine.proofs.Reduced.{choose-step, choose-branch, no-case}
use Rattle.omega_machine.proofs.redexes.choose.Goals as goal

pub unreachable-requires : goal.unreachable-requires
unreachable-requires c =
    no-injection c.node.result.now c.args.whole.now c.args.injection.now c.node.ensures c.requires.typed c.requires.injection c.in_default.not-Inj

pub unreachable-requires-in_default-node : goal.unreachable-requires-in_default-node
unreachable-requires-in_default-node c =
    no-case c.node.result.now c.node-2.result.now _ _ _ c.args.whole.now c.args.injection.now c.in-Inj.is c.node.ensures c.node-2.ensures c.requires.injection c.requires.typed c.in_default-node.not-Case

pub returns : goal.returns
returns c =
    let branches = c.in-Case.branches in
    let found = field-found branches c.in-Inj.label c.in-Some.branch.now (sym c.in-Some.ensures) in
    IfOk-weaker _ _ _ (λ e g. choose-step c.node.result.now c.node-2.result.now _ _ _ _ _ branches c.args.whole.now c.args.injection.now c.in-Some.branch.now e c.in-Inj.is c.node.ensures c.in-Case.is c.node-2.ensures c.requires.injection found g) c.put_term.ensures

pub unreachable-requires-in-None : goal.unreachable-requires-in-None
unreachable-requires-in-None c =
    let branches = c.in-Case.branches in
    let part = choose-branch c.node.result.now c.node-2.result.now _ _ _ _ _ branches c.args.whole.now c.args.injection.now c.in-Inj.is c.node.ensures c.in-Case.is c.node-2.ensures c.requires.injection c.requires.typed in
    no-field branches c.in-Inj.label (sym c.in-None.ensures) part.0 part.1
