use Rattle.std.proofs.Common.{◌≡◌, ◌++◌, map, take}
use Rattle.semantic_sigs.specs.Inner.Items.{item_of}
use Rattle.sig_match.proofs.refusing.append.Given as goal

abbrev pub invariant-loop-item : goal.invariant-loop-item
invariant-loop-item l = l.path ≡ l.initial.path ++ map item_of (take l.item-index l.items)
