use Rattle.std.proofs.Common.{arith}
use Rattle.type_store.proofs.PartSteps.{all-fields}
use Rattle.type_store.proofs.TreeLaws.{part-below}
use Rattle.type_store.proofs.types.Types.+tree.Goals as goal

pub tree_fields-tree-requires : goal.tree_fields-tree-requires
tree_fields-tree-requires t c =
    let low = part-below c.args.whole c.args.parts.now c.loop-part.part-index c.part-item.result c.requires.below c.part-item.is c.loop-part-test.true in
    (omega (arith, low), omega (arith, low, c.requires.within))

pub tree_fields-returns : goal.tree_fields-returns
tree_fields-returns t c =
    all-fields c.args.self.now c.args.parts.now c.loop-part.fields c.loop-part.part-index c.loop-part.invariant
    (omega (arith, c.loop-part.auto, c.loop-part-test.false))
