use Rattle.std.proofs.Common.{length}
use Rattle.type_store.proofs.TreeLaws.{part-below}
use Rattle.type_store.proofs.low.low_of_parts.Goals as goal

pub low_in-requires : goal.low_in-requires
low_in-requires c =
    part-below (length c.args.lows.now) c.args.parts.now c.loop-part.part-index c.part-item.result c.requires c.part-item.is c.loop-part-test.true
