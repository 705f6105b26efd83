-- New indexes that are all the same as the old ones.
-- Main results: still-all, still-next.
use Rattle.std.proofs.Common.{◌≡◌, ℕ, zero, suc, ◌+◌, ◌<◌, ◌≤◌, List, [], ◌∷◌, Option, get_or, length, refl, sym, ap, ◌∙◌, arith}
use Rattle.std.proofs.Math.Decide.{dec_lt}
use Rattle.type_normal.specs.Inner.Moved.{moved, or_stays, place_in}
use Rattle.type_normal.proofs.LiftedSteps.{place-past}

place-get : (ps : List (Option ℕ)) (i : ℕ) (d : Option ℕ) → i < length ps → place_in ps i ≡ get_or ps i d
place-get [] i d lt = absurd (omega (arith, lt))
place-get (p ∷ ps) zero d lt = refl
place-get (p ∷ ps) (suc i) d lt = place-get ps i d (omega (arith, lt))

-- the variable at a place gets what stands there
pub moved-at : (ps : List (Option ℕ)) (i : ℕ) (d : Option ℕ) → i < length ps → moved ps i ≡ or_stays i (get_or ps i d)
moved-at ps i d lt = ap (or_stays i) (place-get ps i d lt)

-- the first places leave each variable
abbrev pub StillBelow : List (Option ℕ) → ℕ → Type 0
StillBelow ps n = (i : ℕ) → i < n → moved ps i ≡ i

-- new indexes that are the old ones at each place leave every variable
pub still-all : (ps : List (Option ℕ)) (n : ℕ) → length ps ≤ n → StillBelow ps n → (i : ℕ) → moved ps i ≡ i
still-all ps n le h i = go (dec_lt i n)
  where
    go : Dec (i < n) → moved ps i ≡ i
    go (yes lt) = h i lt
    go (no ge) = ap (or_stays i) (sym (place-past ps i (omega (arith, le, ge))))

-- one more new index that is the old one
pub still-next : (ps : List (Option ℕ)) (n : ℕ) → StillBelow ps n → moved ps n ≡ n → StillBelow ps (n + 1)
still-next ps n h e i lt = go (dec_lt i n)
  where
    go : Dec (i < n) → moved ps i ≡ i
    go (yes le) = h i le
    go (no ge) = same (omega (arith, lt, ge))
      where
        same : n ≡ i → moved ps i ≡ i
        same m = ap (moved ps) (sym m) ∙ (e ∙ m)
