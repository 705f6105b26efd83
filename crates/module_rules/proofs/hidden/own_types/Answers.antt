use Rattle.std.proofs.Common.{List, ◌++◌, map, ap, arith}
use Rattle.omega_kinds.specs.View.{kind_tree}
use Rattle.omega_types.specs.Binders.{vars}
use Rattle.omega_types.specs.Ty.{Ty}
use Rattle.module_rules.proofs.Own.{own-next, own-done}
use Rattle.module_rules.proofs.hidden.own_types.Goals as goal

pub loop-kind-init : goal.loop-kind-init
loop-kind-init c = record {
  left = omega arith;
  built = ap (λ (ts : List Ty). ts ++ vars (map kind_tree c.items-list.result.now)) c.new-types.ensures;
}

pub loop-kind-preserved : goal.loop-kind-preserved
loop-kind-preserved c = record {
  left = omega arith;
  built = own-next c.items-list.result.now c.loop-kind.kind-index c.loop-kind.inner c.kind-item.result c.in_ok-own.own c.loop-kind.types c.push.new.self (vars (map kind_tree c.items-list.result.now)) c.loop-kind-test.true c.kind-item.is c.loop-kind.invariant.left c.in_ok-own.ensures c.loop-kind.invariant.built c.in_ok-push.ensures.ok;
}

pub returns : goal.returns
returns c =
    own-done c.items-list.result.now c.args.kinds.now c.loop-kind.kind-index c.loop-kind.types c.items-list.ensures c.loop-kind-test.false c.loop-kind.invariant.built
