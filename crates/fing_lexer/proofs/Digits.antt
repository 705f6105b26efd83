-- The value of digits, one after the other.
use Rattle.std.proofs.Common.{◌≡◌, ℕ, zero, suc, ◌+◌, ◌*◌, ◌-◌, ◌<◌, ◌≤◌, refl, sym, ◌∙◌, ap, List, [], ◌∷◌, length, drop, get_or, drop-cons, add-one, le_trans, arith}
use Rattle.fing_lexer.specs.Lexeme.{value_behind}

pub digits_step : (high : ℕ) (bytes : List ℕ) (i : ℕ) → i < length bytes → value_behind high (drop i bytes) ≡ value_behind (10 * high + (get_or bytes i 0 - 48)) (drop (i + 1) bytes)
digits_step high bytes i h = ap (value_behind high) (drop-cons bytes i 0 h) ∙ ap (λ k. value_behind (10 * high + (get_or bytes i 0 - 48)) (drop k bytes)) (sym (add-one i))

pub digits_end : (high : ℕ) (bytes : List ℕ) (i : ℕ) → length bytes ≤ i → value_behind high (drop i bytes) ≡ high
digits_end high [] zero h = refl
digits_end high [] (suc i) h = refl
digits_end high (b ∷ bs) zero h = absurd (omega arith)
digits_end high (b ∷ bs) (suc i) h = digits_end high bs i (omega arith)

pub digits_grow : (high : ℕ) (bytes : List ℕ) → high ≤ value_behind high bytes
digits_grow high [] = omega arith
digits_grow high (b ∷ bs) = le_trans (omega arith) (digits_grow (10 * high + (b - 48)) bs)
