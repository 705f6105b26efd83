-- Variables with new indexes.
use Rattle.std.specs.Prelude.{ℕ, zero, suc, List, [], ◌∷◌, Option, Some, None}

-- the new index of a variable, the list beginning with the innermost one's; none where it is not listed
abbrev pub place_in : List (Option ℕ) → ℕ → Option ℕ
place_in [] i = None
place_in (o ∷ ps) zero = o
place_in (o ∷ ps) (suc i) = place_in ps i

abbrev pub or_stays : ℕ → Option ℕ → ℕ
or_stays i None = i
or_stays i (Some j) = j

-- what becomes of an index: a variable with a place gets it, each other one stays
abbrev pub moved : List (Option ℕ) → ℕ → ℕ
moved ps i = or_stays i (place_in ps i)
