use Rattle.std.proofs.Common.{◌≡◌, [], length}
use Rattle.packages.specs.Inner.Turns.{turns, untaken}
use Rattle.packages.proofs.ordering.order_by_turns.Given as goal

abbrev pub invariant-loop-left : goal.invariant-loop-left
invariant-loop-left l =
    (turns l.kinds l.body l.left l.order.kinds l.order.places.items ≡ turns l.kinds l.body (length l.kinds) [] (untaken l.kinds)) × (length l.order.places.items ≡ length l.kinds)

abbrev pub decreases-loop-left : goal.decreases-loop-left
decreases-loop-left l = l.left
