-- The lines of one number more.
use Rattle.std.proofs.Common.{◌≡◌, ℕ, zero, suc, ◌+◌, [], ◌∷◌, ◌++◌, sym, ap, ◌∙◌, arith}
use Rattle.std.proofs.lemmas.List.{append_assoc, append-nil}
use Rattle.fing_gen.specs.Source.{sealed, sealed_from}

one-more : (first n : ℕ) → sealed_from first (suc n) ≡ sealed_from first n ++ sealed (n + first)
one-more first zero = append-nil (sealed first) ∙ ap sealed (none first)
  where
    none : (m : ℕ) → m ≡ 0 + m
    none m = omega arith
one-more first (suc n) =
    ap (λ t. sealed first ++ t) (one-more (suc first) n ∙ ap (λ m. sealed_from (suc first) n ++ sealed m) (place n first)) ∙ sym (append_assoc (sealed first) (sealed_from (suc first) n) (sealed (suc n + first)))
  where
    place : (n m : ℕ) → n + suc m ≡ suc n + m
    place n m = omega arith

-- after the lines of so many numbers, those of the next one
pub next_sealed : (n : ℕ) → sealed_from 1 n ++ sealed (n + 1) ≡ sealed_from 1 (n + 1)
next_sealed n = sym (one-more 1 n) ∙ ap (sealed_from 1) (next n)
  where
    next : (n : ℕ) → suc n ≡ n + 1
    next n = omega arith
