-- Names of type variables by their levels, the outermost variable having level 0: a letter with a number.
use Rattle.std.specs.Prelude.{◌≡◌, ℕ, ◌/◌, ◌%◌}

-- the number of the letter
abbrev pub letter_of : ℕ → ℕ
letter_of level = level % 21

-- the number below the letter, 0 for none
abbrev pub round_of : ℕ → ℕ
round_of level = level / 21

-- two levels with one letter and one number are one
abbrev pub LevelNamesDiffer : Type 0
LevelNamesDiffer = (l m : ℕ) → letter_of l ≡ letter_of m → round_of l ≡ round_of m → l ≡ m
