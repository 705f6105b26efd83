use Rattle.std.proofs.Common.{◌≡◌, ℕ, ◌+◌, ◌-◌, length}
use Rattle.type_store.specs.Inner.Memo.{first_at}
use Rattle.type_store.proofs.memo.make_room.Given as goal

abbrev pub invariant-loop-firsts : goal.invariant-loop-firsts
invariant-loop-firsts l = (i : ℕ) → first_at l.firsts.items i ≡ first_at l.initial.firsts.items i

abbrev pub decreases-loop-firsts : goal.decreases-loop-firsts
decreases-loop-firsts l = l.number + 1 - length l.firsts.items
