use Rattle.std.proofs.Common.{◌≡◌, map, take}
use Rattle.semantic_sigs.specs.Inner.Items.{item_of}
use Rattle.sig_roots.proofs.walk.Walk.way.Given as goal

abbrev pub invariant-loop-item : goal.invariant-loop-item
invariant-loop-item l = l.path ≡ map item_of (take l.item-index l.item-items)
