use Rattle.sig_rules.proofs.Putting.{own-added}
use Rattle.sig_rules.proofs.hidden.with_own.Goals as goal

pub loop-kind-preserved : goal.loop-kind-preserved
loop-kind-preserved c = own-added c.args.later.now c.loop-kind.kind-index c.loop-kind.index c.kind-item.result c.args.first c.in_ok-own.own c.loop-kind.types c.push-in-loop-kind.new.self c.loop-kind-test.true c.kind-item.is c.in_ok-own.ensures c.in_ok-push-2.ensures.ok c.loop-kind.invariant
