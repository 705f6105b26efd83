use Rattle.omega_machine.proofs.Canonical.{no-test}
use Rattle.omega_machine.proofs.Reduced.{if-step-true, if-step-false}
use Rattle.omega_machine.proofs.redexes.branch.Goals as goal

pub unreachable-requires : goal.unreachable-requires
unreachable-requires c =
    no-test c.node.result.now c.args.test.now c.args.yes c.args.no c.node.ensures c.requires.typed c.requires.test c.in_default.not-Bool

pub returns-then-chosen : goal.returns-then-chosen
returns-then-chosen c = if-step-true c.node.result.now _ c.args.test.now c.args.yes c.args.no c.in-Bool.is c.node.ensures c.if-chosen.true

pub returns-else-chosen : goal.returns-else-chosen
returns-else-chosen c = if-step-false c.node.result.now _ c.args.test.now c.args.yes c.args.no c.in-Bool.is c.node.ensures c.if-chosen.false
