-- Whether one of the innermost variables is mentioned, looked for from the innermost one on.
-- Main results: some-found, none-found.
use Rattle.std.specs.Prelude.{ℕ, ◌+◌, ◌<◌, ◌≤◌, ◌≡◌, ◌↔◌, Bool, true, false, IsTrue}
use Rattle.std.proofs.Common.{arith, refl, below_more}

-- below n there is none
abbrev pub NoneBelow : (ℕ → Type 0) → ℕ → Type 0
NoneBelow M n = (i : ℕ) → i < n → M i → ⊥

abbrev pub SomeBelow : (ℕ → Type 0) → ℕ → Type 0
SomeBelow M n = (i : ℕ) × (i < n) × M i

-- below 0 none is mentioned
pub none-first : (M : ℕ → Type 0) → NoneBelow M 0
none-first M i lt m = absurd (omega (arith, lt))

-- where the next variable is not mentioned, none is up to it
pub none-next : (M : ℕ → Type 0) (n : ℕ) (found : Bool) → NoneBelow M n → found ≡ false → IsTrue found ↔ M n → NoneBelow M (n + 1)
none-next M n found below e h i lt m = below_more (λ j. M j → ⊥) n below (λ q. let t : found ≡ true = h.1 q in cc) i lt m

-- where a variable is found to be mentioned, some is
pub some-found : (M : ℕ → Type 0) (count n : ℕ) (found : Bool) → n < count → found ≡ true → IsTrue found ↔ M n → IsTrue true ↔ SomeBelow M count
some-found M count n found lt e h = (λ t. (n, lt, h.0 e), λ w. refl)

-- where all variables are looked for and none is found, none is mentioned
pub none-found : (M : ℕ → Type 0) (count n : ℕ) → count ≤ n → NoneBelow M n → IsTrue false ↔ SomeBelow M count
none-found M count n le below = (λ t. absurd (apart t), λ w. absurd (below w.0 (let lt : w.0 < count = w.1 in omega (arith, lt, le)) w.2))
  where
    apart : false ≡ true → ⊥
    apart e = cc

-- what the test says where it fails
pub none-below : (M : ℕ → Type 0) (count : ℕ) (found : Bool) → IsTrue found ↔ SomeBelow M count → found ≡ false → NoneBelow M count
none-below M count found h e i lt m = absurd (let t : found ≡ true = h.1 (i, lt, m) in apart (sym_of t))
  where
    apart : true ≡ found → ⊥
    apart t = cc

    sym_of : found ≡ true → true ≡ found
    sym_of t = cc
