use Rattle.std.proofs.Common.{◌∙◌, arith}
use Rattle.semantic_sigs.proofs.EncodeSteps.{quantified-next}
use Rattle.semantic_sigs.proofs.encoding.quantify.Goals as goal

pub loop-left-preserved : goal.loop-left-preserved
loop-left-preserved c = (
  omega arith,
  quantified-next c.args.quantifier c.items-kinds.result.now c.loop-left.left c.index-kinds-left.result c.in_ok-share.field-0 c.loop-left.ty c.in_ok-ty.ty _ c.loop-left-test.true c.loop-left.invariant.0 c.loop-left.invariant.1 c.index-kinds-left.is c.in_ok-share.ensures (c.in_ok-ty.ensures ∙ c.bind.ensures),
)
