use Rattle.omega_kinds.specs.View.{kind_tree}
use Rattle.omega_node_laws.proofs.ScopeSteps.{packed-finds, packed-none}
use Rattle.omega_checker.proofs.scope.Scope.packed_type.Goals as goal

pub returns-in_ok-make : goal.returns-in_ok-make
returns-in_ok-make c =
    packed-finds (kind_tree c.in_ok-share.field-0)
    (kind_tree c.args.kind.now) c.in_ok-hidden.hidden c.in_ok-inner.inner c.in_ok-make.field-0 c.args.body c.args.hidden.now c.args.inner.now c.is_filled.result
    c.requires.kind c.in_ok-share.ensures c.requires.body c.in_ok-hidden.ensures c.in_ok-inner.ensures c.is_filled.ensures c.if-is_filled.true
    c.in_ok-make.ensures

pub returns-else-is_filled : goal.returns-else-is_filled
returns-else-is_filled c =
    packed-none (kind_tree c.args.kind.now) c.in_ok-hidden.hidden c.in_ok-inner.inner c.args.body c.args.hidden.now c.args.inner.now c.is_filled.result
    c.requires.kind c.requires.body c.in_ok-hidden.ensures c.in_ok-inner.ensures c.is_filled.ensures c.if-is_filled.false
