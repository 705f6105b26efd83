-- Fronts of bytes, as the code tests them and as they are read from lists.
-- Main results: strip-tested.
use Rattle.std.proofs.Common.{◌≡◌, ℕ, zero, suc, ◌-◌, nat_lt, true, false, cond, List, [], ◌∷◌, length, take, drop, Some, None, refl, arith}
use Rattle.std.specs.Prelude.{◌&&◌, ◌==◌, codes}
use Rattle.std.specs.Cmp.Lexicographic.{pointwise}
use Rattle.std.proofs.lemmas.Bool.Decides.{nat_tests}
use Rattle.omega_kinds.specs.Kind.{Star, Arrow}
use Rattle.omega_spelling.specs.Reading.{strip, choose, two, kind_at}

-- a beginning is taken off bytes if their first ones, as many as it has, are the beginning
pub strip-tested : (p bs : List ℕ) → strip p bs ≡ cond (pointwise ◌==◌ (take (length p) bs) p) (Some (drop (length p) bs)) None
unfolding strip
strip-tested [] bs = refl
strip-tested (p ∷ ps) [] = refl
strip-tested (p ∷ ps) (b ∷ bs) =
    elim (b == p) as (λ t. cond t (strip ps bs) None ≡ cond (t && pointwise ◌==◌ (take (length ps) bs) ps) (Some (drop (length ps) bs)) None) [ true ↦ strip-tested ps bs | false ↦ refl ]

-- zero is less than a successor
pub below_zero : (d : ℕ) → nat_lt 0 (suc d) ≡ true
below_zero d = grind (arith, nat_tests)

pub kind_unfold : (d : ℕ) (bytes : List ℕ) → kind_at d bytes ≡ choose (strip (codes "*") bytes) (λ rest. Some (Star, rest)) (cond (nat_lt 0 d) (choose (strip (codes "(> ") bytes) (two Arrow (kind_at (d - 1)) (kind_at (d - 1))) None) None)
unfolding kind_at
kind_unfold zero bytes = refl
kind_unfold (suc d) bytes = let e : suc d - 1 ≡ d = omega arith in rw (e, below_zero d) refl
