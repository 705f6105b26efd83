-- How large a type is.
use Rattle.std.specs.Prelude.{ℕ, ◌+◌}
use Rattle.omega_types.specs.Ty.{Ty, Row}
use Rattle.omega_types.specs.Fields.{Pairs, row}

abbrev mutual
  pub nodes : Ty → ℕ
  nodes (Ty.Var i) = 1
  nodes Ty.Int = 1
  nodes Ty.Bool = 1
  nodes Ty.Text = 1
  nodes (Ty.Arrow a b) = nodes a + nodes b + 1
  nodes (Ty.Fields row) = nodes_row row + 1
  nodes (Ty.Sum row) = nodes_row row + 1
  nodes (Ty.All k b) = nodes b + 1
  nodes (Ty.Ex k b) = nodes b + 1
  nodes (Ty.Mu b) = nodes b + 1
  nodes (Ty.Lam k b) = nodes b + 1
  nodes (Ty.Apply f a) = nodes f + nodes a + 1

  pub nodes_row : Row → ℕ
  nodes_row Row.End = 0
  nodes_row (Row.More l t rest) = nodes t + nodes_row rest + 1

abbrev pub nodes_pairs : Pairs → ℕ
nodes_pairs xs = nodes_row (row xs)
