use Rattle.packages.proofs.Steps.{push-taken}
use Rattle.packages.proofs.ordering.Order.take.Goals as goal

pub returns-clause-kinds : goal.returns-clause-kinds
returns-clause-kinds c =
    push-taken c.args.kinds.now c.args.self.now.kinds c.push.new.self c.items-kinds.result.now c.args.index c.index-kinds-kinds.result c.in_ok-kind.kind c.items-kinds.ensures c.requires.within c.index-kinds-kinds.is c.in_ok-kind.ensures c.in_ok-push.ensures.ok
