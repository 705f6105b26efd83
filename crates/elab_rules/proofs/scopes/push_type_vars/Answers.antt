use Rattle.std.proofs.Common.{ap, ◌∙◌}
use Rattle.sig_definitions.specs.Env.{type_vars}
use Rattle.elab_rules.proofs.Entering.{kinds-step, kinds-end}
use Rattle.elab_rules.proofs.scopes.push_type_vars.Goals as goal

pub loop-kind-preserved : goal.loop-kind-preserved
loop-kind-preserved c =
    kinds-step c.loop-kind.env c.push.new.self c.loop-kind.kind-index c.items-kind-items.result.now c.kind-item.result c.in_ok-share.field-0 _ c.loop-kind-test.true c.kind-item.is c.in_ok-share.ensures c.in_ok-push.ensures.ok c.loop-kind.invariant

pub returns : goal.returns
returns c =
    kinds-end c.loop-kind.env c.loop-kind.kind-index c.items-kind-items.result.now _ c.loop-kind-test.false c.loop-kind.invariant ∙ ap (type_vars c.args.env.now) c.items-kind-items.ensures
