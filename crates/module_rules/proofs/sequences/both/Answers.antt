use Rattle.std.proofs.Common.{sym, ◌∙◌, append-nil}
use Rattle.omega_kinds.specs.View.{kind_tree}
use Rattle.module_rules.proofs.Own.{pushed-next, pushed-done}
use Rattle.module_rules.proofs.sequences.both.Goals as goal

pub loop-kind-init : goal.loop-kind-init
loop-kind-init c = c.in_ok-kinds.ensures ∙ sym (append-nil c.args.first.now)

pub loop-kind-preserved : goal.loop-kind-preserved
loop-kind-preserved c =
    pushed-next kind_tree c.args.first.now c.loop-kind.kinds c.push.new.self c.items-kind-items.result.now c.loop-kind.kind-index c.kind-item.result (kind_tree c.in_ok-shared.shared) c.loop-kind-test.true c.kind-item.is c.in_ok-shared.ensures c.loop-kind.invariant c.in_ok-push.ensures.ok

pub returns : goal.returns
returns c =
    pushed-done kind_tree c.args.first.now c.loop-kind.kinds c.args.rest.now c.items-kind-items.result.now c.loop-kind.kind-index c.loop-kind-test.false c.loop-kind.invariant c.items-kind-items.ensures
