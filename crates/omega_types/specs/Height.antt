-- How many forms of a type stand inside one another, those of kinds left out.
use Rattle.std.specs.Prelude.{ℕ, ◌+◌, max}
use Rattle.omega_types.specs.Ty.{Ty, Row}
use Rattle.omega_types.specs.Fields.{Pairs, row}

abbrev mutual
  pub height : Ty → ℕ
  height (Ty.Var i) = 1
  height Ty.Int = 1
  height Ty.Bool = 1
  height Ty.Text = 1
  height (Ty.Arrow a b) = max (height a) (height b) + 1
  height (Ty.Fields row) = height_row row + 1
  height (Ty.Sum row) = height_row row + 1
  height (Ty.All k b) = height b + 1
  height (Ty.Ex k b) = height b + 1
  height (Ty.Mu b) = height b + 1
  height (Ty.Lam k b) = height b + 1
  height (Ty.Apply f a) = max (height f) (height a) + 1

  pub height_row : Row → ℕ
  height_row Row.End = 0
  height_row (Row.More l t rest) = max (height t) (height_row rest)

abbrev pub height_pairs : Pairs → ℕ
height_pairs xs = height_row (row xs)
