use Rattle.std.proofs.Common.{ap, ◌∙◌}
use Rattle.sig_definitions.specs.Env.{named_fields}
use Rattle.semantic_sigs.specs.Inner.Fields.{sig_row}
use Rattle.elab_rules.proofs.Entering.{fields-step, fields-end}
use Rattle.elab_rules.proofs.scopes.push_fields.Goals as goal

pub loop-field-preserved : goal.loop-field-preserved
loop-field-preserved c =
    fields-step c.loop-field.env c.push.new.self c.loop-field.field-index c.items-field-items.result.now c.field-item.result c.in_ok-share.field-0 c.in_ok-share-2.field-0 _ c.loop-field-test.true c.field-item.is c.in_ok-share.ensures c.in_ok-share-2.ensures c.in_ok-push.ensures.ok c.loop-field.invariant

pub returns : goal.returns
returns c =
    fields-end c.loop-field.env c.loop-field.field-index c.items-field-items.result.now _ c.loop-field-test.false c.loop-field.invariant ∙ ap (λ f. named_fields c.args.env.now (sig_row f)) c.items-field-items.ensures.value
