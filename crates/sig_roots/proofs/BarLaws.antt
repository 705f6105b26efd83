-- A type is barred exactly where it or a later one is mentioned.
-- Main results: open-none, none-open.
use Rattle.std.specs.Prelude.{ℕ, ◌<◌, ◌≤◌, ◌≡◌, Option, Some, None, true, false, Bool as Truth}
use Rattle.std.proofs.Common.{arith}
use Rattle.std.proofs.lemmas.Bool.Decides.{nat_tests}
use Rattle.std.proofs.Math.Path.{refl}
use Rattle.sig_laws.specs.Decide.{NoneUpTo}
use Rattle.semantic_sigs.proofs.LeastLaws.{IsLeast}
use Rattle.sig_roots.specs.Inner.Seek.{is_open}

-- a variable that is open by the least mention has no mention at or below it
pub open-none : (P : ℕ → Type 0) (own : ℕ) (bar : Option ℕ) → IsLeast P bar → is_open own bar ≡ true → NoneUpTo own P
open-none P own None h e = λ x le p. h x p
open-none P own (Some m) h e = let lt : own < m = grind (arith, nat_tests) in λ x le p. h.1 x (omega (arith, le, lt)) p

-- a variable with no mention at or below it is open by the least mention
pub none-open : (P : ℕ → Type 0) (own : ℕ) (bar : Option ℕ) → IsLeast P bar → NoneUpTo own P → is_open own bar ≡ true
none-open P own None h n = refl
none-open P own (Some m) h n = go (is_open own (Some m)) refl
  where
    go : (b : Truth) → is_open own (Some m) ≡ b → is_open own (Some m) ≡ true
    go true e = e
    go false e = let le : m ≤ own = grind (arith, nat_tests) in absurd (n m le h.0)
