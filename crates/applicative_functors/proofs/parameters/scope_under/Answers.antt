use Rattle.std.proofs.Common.{◌∷◌, []}
use Rattle.omega_kinds.specs.View.{kind_tree}
use Rattle.applicative_functors.proofs.Loops.{scope-next}
use Rattle.applicative_functors.proofs.parameters.scope_under.Goals as goal

pub loop-kind-preserved : goal.loop-kind-preserved
loop-kind-preserved c =
    scope-next (kind_tree c.args.outermost ∷ []) c.items-kind-items.result.now c.loop-kind.scope.items c.push-in-loop-kind.new.self.items c.loop-kind.kind-index c.kind-item.result c.in_ok-share.field-0 c.loop-kind-test.true c.kind-item.is c.in_ok-share.ensures c.in_ok-push-2.ensures.items c.loop-kind.invariant
