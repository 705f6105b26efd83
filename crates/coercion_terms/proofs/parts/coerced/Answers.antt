use Rattle.std.proofs.Common.{arith}
use Rattle.std.proofs.lemmas.Grind.{common_steps}
use Rattle.coercion_terms.proofs.RowSteps.{row-coerced, coerced_follows}
use Rattle.coercion_terms.proofs.parts.coerced.Goals as goal

pub push-requires : goal.push-requires
push-requires c =
    coerced_follows c.items-field-items.result.now c.loop-field.coerced c.loop-field.field-index c.field-item.result c.in_ok-share.field-0 c.loop-field.invariant c.in_ok-share.ensures c.field-item.is c.loop-field-test.true c.items-field-items.ensures.rising

pub returns : goal.returns
returns c = grind (arith, common_steps, row-coerced)
