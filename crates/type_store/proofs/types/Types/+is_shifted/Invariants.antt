use Rattle.std.proofs.Common.{◌≡◌, ◌↔◌, ◌+◌, ◌*◌, drop}
use Rattle.omega_types.specs.Index.{bump}
use Rattle.omega_types.specs.Substitution.{rename_row}
use Rattle.type_store.specs.Trees.{row_at}
use Rattle.type_store.proofs.types.Types.+is_shifted.Given as goal

abbrev pub decreases-is_shifted : goal.decreases-is_shifted
decreases-is_shifted l = 2 * l.number + 1

abbrev pub decreases-are_shifted : goal.decreases-are_shifted
decreases-are_shifted l = 2 * l.top

abbrev pub invariant-are_shifted-loop-i : goal.invariant-are_shifted-loop-i
invariant-are_shifted-loop-i l =
    rename_row (bump l.by l.from) (row_at l.self l.parts) ≡ row_at l.self l.wholes ↔
    rename_row (bump l.by l.from) (row_at l.self (drop l.i l.parts)) ≡ row_at l.self (drop l.i l.wholes)
