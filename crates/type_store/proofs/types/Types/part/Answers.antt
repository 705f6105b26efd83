use Rattle.type_store.proofs.TreeLaws.{part-below}
use Rattle.type_store.proofs.HintSteps.{part-type}
use Rattle.type_store.proofs.types.Types.part.Goals as goal

pub returns-clause-below : goal.returns-clause-below
returns-clause-below c =
    part-below c.args.whole c.parts-parts.result.now c.args.place c.index-parts-place.result c.parts-parts.ensures.below c.index-parts-place.is
    c.if-place-parts.false

pub returns-clause-value : goal.returns-clause-value
returns-clause-value c =
    λ t h. part-type c.args.self.now c.parts-parts.result.now c.args.whole c.args.place c.index-parts-place.result t c.parts-parts.ensures.value
    c.index-parts-place.is c.if-place-parts.false h
