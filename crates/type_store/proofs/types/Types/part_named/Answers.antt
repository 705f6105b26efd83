use Rattle.type_store.proofs.TreeLaws.{part-below}
use Rattle.type_store.proofs.HintSteps.{part-there}
use Rattle.type_store.proofs.types.Types.part_named.Goals as goal

pub returns-then-same_label-clause-below : goal.returns-then-same_label-clause-below
returns-then-same_label-clause-below c =
    part-below c.args.whole c.parts-parts.result.now c.args.place c.index-parts-place.result c.parts-parts.ensures.below c.index-parts-place.is
    c.if-place-parts.false

pub returns-then-same_label-clause-value : goal.returns-then-same_label-clause-value
returns-then-same_label-clause-value c =
    part-there c.args.self.now c.parts-parts.result.now c.args.whole c.args.place c.index-parts-place.result c.args.label.now c.parts-parts.ensures.value
    c.index-parts-place.is c.if-place-parts.false (c.same_label.ensures.0 c.if-same_label.true)
