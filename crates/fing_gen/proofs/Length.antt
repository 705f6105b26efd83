-- A generated program is short.
-- Main results: short_source.
use Rattle.std.proofs.Common.{◌≡◌, ℕ, zero, suc, ◌+◌, ◌*◌, ◌≤◌, List, [], ◌∷◌, ◌++◌, length, lit≤, refl, ap, ◌∙◌, arith}
use Rattle.std.specs.Prelude.{codes, decimal}
use Rattle.std.proofs.lemmas.Fmt.{length-decimal-le}
use Rattle.std.proofs.lemmas.List.{length-append}
use Rattle.fing_gen.specs.Source.{joined, opening, sealed, sealed_from, closing, source_text}

-- the length of pieces together
abbrev total : List (List ℕ) → ℕ
total [] = 0
total (t ∷ ts) = length t + total ts

length-joined : (ts : List (List ℕ)) → length (joined ts) ≡ total ts
length-joined [] = refl
length-joined (t ∷ ts) = length-append t (joined ts) ∙ ap (λ n. length t + n) (length-joined ts)

short : (ts : List (List ℕ)) (n : ℕ) → total ts ≤ n → length (joined ts) ≤ n
short ts n h = omega (arith, h, length-joined ts)

short_sealed : (i : ℕ) → i ≤ 300 → length (sealed i) ≤ 69
short_sealed i h =
    let digits = length-decimal-le 3 i (omega arith) (omega arith) (omega arith) in
    let d = decimal i in
    short (codes "module M" ∷ d ∷ codes " = F M0\n" ∷ codes "val p" ∷ d ∷ codes " = pack M" ∷ d ∷ codes " : S\n" ∷ codes "val r" ∷ d ∷ codes " = M" ∷ d ∷ codes ".f M" ∷ d ∷ codes ".v\n" ∷ []) 69 (omega (arith, digits))

short_sealed_from : (i n : ℕ) → i + n ≤ 301 → length (sealed_from i n) ≤ 69 * n
short_sealed_from i zero h = omega arith
short_sealed_from i (suc n) h = omega (arith, length-append (sealed i) (sealed_from (suc i) n), short_sealed i (omega arith), short_sealed_from (suc i) n (omega arith))

ends : length opening + length closing ≤ 300
ends = lit≤ tt

-- the program of a size up to 300 is no longer than a source may be
pub short_source : (size : ℕ) → size ≤ 300 → length (source_text size) ≤ 1048576
short_source size h =
    omega (arith, length-append (opening ++ sealed_from 1 size) closing, length-append opening (sealed_from 1 size), ends, short_sealed_from 1 size (omega arith))
