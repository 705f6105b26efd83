-- The first line of bytes, as far as a loop has come.
use Rattle.std.proofs.Common.{◌≡◌, ℕ, zero, suc, ◌+◌, ◌<◌, ◌≤◌, Bool, true, false, List, [], ◌∷◌, length, get_or, take, drop, refl, arith}
use Rattle.std.specs.Prelude.{not, ◌==◌}
use Rattle.std.proofs.lemmas.Bool.Decides.{nat_tests}
use Rattle.omega_spelling.specs.Reading.{passes}
use Rattle.omega_spelling.specs.Refusals.{lines_cut}
use Rattle.omega_spelling.proofs.Steps.{and_ok}

-- a byte that does not end a line
abbrev pub no_end : ℕ → Bool
no_end b = not (b == 10)

not_true : (t : Bool) → not t ≡ true → t ≡ false
not_true true e = absurd cc
not_true false e = refl

ends : (b : ℕ) → b ≡ 10 → (b == 10) ≡ true
ends b e = grind (arith, nat_tests)

goes : (b : ℕ) → (b ≡ 10 → ⊥) → no_end b ≡ true
goes b e = grind (arith, nat_tests)

pub line_at : (bs : List ℕ) (i d : ℕ) → i < length bs → passes no_end (take i bs) ≡ true → get_or bs i d ≡ 10 → lines_cut bs ≡ (take (i + 1) bs, drop (i + 1) bs)
line_at [] i d lt h n = absurd (omega arith)
line_at (b ∷ bs) zero d lt h n = rw (ends b n) refl
line_at (b ∷ bs) (suc i) d lt h n =
    let q = and_ok (no_end b) (passes no_end (take i bs)) h in
    let e : suc i + 1 ≡ suc (i + 1) = omega arith in
    rw (e, not_true (b == 10) q.0, line_at bs i d (omega arith) q.1 n) refl

pub line_end : (bs : List ℕ) (i : ℕ) → length bs ≤ i → passes no_end (take i bs) ≡ true → lines_cut bs ≡ (take (length bs) bs, drop (length bs) bs)
line_end [] i le h = refl
line_end (b ∷ bs) zero le h = absurd (omega arith)
line_end (b ∷ bs) (suc i) le h =
    let q = and_ok (no_end b) (passes no_end (take i bs)) h in
    rw (not_true (b == 10) q.0, line_end bs i (omega arith) q.1) refl

pub line_more : (bs : List ℕ) (i d : ℕ) → i < length bs → passes no_end (take i bs) ≡ true → (get_or bs i d ≡ 10 → ⊥) → passes no_end (take (i + 1) bs) ≡ true
line_more [] i d lt h n = absurd (omega arith)
line_more (b ∷ bs) zero d lt h n = rw (goes b n) refl
line_more (b ∷ bs) (suc i) d lt h n =
    let q = and_ok (no_end b) (passes no_end (take i bs)) h in
    let e : suc i + 1 ≡ suc (i + 1) = omega arith in
    rw (e, q.0) (line_more bs i d (omega arith) q.1 n)

pub ruleset lines = (line_at, line_end, line_more)
