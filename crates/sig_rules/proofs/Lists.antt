-- Lists as the code walks over them.
-- Main results: tail-slice.
use Rattle.std.proofs.Common.{◌≡◌, ℕ, ◌+◌, ◌≤◌, List, length, take, drop, arith, length-drop, take_all}

-- the end of a list, as a slice
pub tail-slice : {A : Type 0} (xs : List A) (i n : ℕ) → length xs ≤ n + i → take n (drop i xs) ≡ drop i xs
tail-slice xs i n le =
    let l = length-drop i xs in
    take_all n (drop i xs) (omega arith)
