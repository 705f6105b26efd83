-- The least number above all free indexes of a type: 0 for a closed one.
use Rattle.std.specs.Prelude.{ℕ, ◌+◌, ◌-◌, max}
use Rattle.omega_types.specs.Ty.{Ty, Row}
use Rattle.omega_types.specs.Fields.{Pairs, row}

abbrev mutual
  pub bound_of : Ty → ℕ
  bound_of (Ty.Var i) = i + 1
  bound_of Ty.Int = 0
  bound_of Ty.Bool = 0
  bound_of Ty.Text = 0
  bound_of (Ty.Arrow a b) = max (bound_of a) (bound_of b)
  bound_of (Ty.Fields row) = bound_row row
  bound_of (Ty.Sum row) = bound_row row
  bound_of (Ty.All k b) = bound_of b - 1
  bound_of (Ty.Ex k b) = bound_of b - 1
  bound_of (Ty.Mu b) = bound_of b - 1
  bound_of (Ty.Lam k b) = bound_of b - 1
  bound_of (Ty.Apply f a) = max (bound_of f) (bound_of a)

  pub bound_row : Row → ℕ
  bound_row Row.End = 0
  bound_row (Row.More l t rest) = max (bound_of t) (bound_row rest)

abbrev pub bound_pairs : Pairs → ℕ
bound_pairs xs = bound_row (row xs)
