use Rattle.std.proofs.Common.{◌≡◌, ◌↔◌, ◌+◌, ◌*◌, drop}
use Rattle.type_store.specs.Inner.Memo.{filled_row}
use Rattle.type_store.specs.Trees.{at, row_at}
use Rattle.type_store.proofs.types.Types.+is_filled.Given as goal

abbrev pub decreases-is_filled : goal.decreases-is_filled
decreases-is_filled l = 2 * l.body + 1

abbrev pub decreases-are_filled : goal.decreases-are_filled
decreases-are_filled l = 2 * l.top

abbrev pub invariant-are_filled-loop-i : goal.invariant-are_filled-loop-i
invariant-are_filled-loop-i l =
    filled_row l.index (at l.self l.arg) (row_at l.self l.parts) ≡ row_at l.self l.wholes ↔
    filled_row l.index (at l.self l.arg) (row_at l.self (drop l.i l.parts)) ≡ row_at l.self (drop l.i l.wholes)
