-- Whether an index is free in a type, found by recursion on it.
use Rattle.std.specs.Prelude.{ℕ, suc, Bool as Truth, false, ◌||◌, ◌==◌}
use Rattle.omega_types.specs.Ty.{Ty, Row}

abbrev mutual
  pub is_mentioned : ℕ → Ty → Truth
  is_mentioned i (Ty.Var n) = n == i
  is_mentioned i Ty.Int = false
  is_mentioned i Ty.Bool = false
  is_mentioned i Ty.Text = false
  is_mentioned i (Ty.Arrow a b) = is_mentioned i a || is_mentioned i b
  is_mentioned i (Ty.Fields row) = is_mentioned_row i row
  is_mentioned i (Ty.Sum row) = is_mentioned_row i row
  is_mentioned i (Ty.All k b) = is_mentioned (suc i) b
  is_mentioned i (Ty.Ex k b) = is_mentioned (suc i) b
  is_mentioned i (Ty.Mu b) = is_mentioned (suc i) b
  is_mentioned i (Ty.Lam k b) = is_mentioned (suc i) b
  is_mentioned i (Ty.Apply f a) = is_mentioned i f || is_mentioned i a

  pub is_mentioned_row : ℕ → Row → Truth
  is_mentioned_row i Row.End = false
  is_mentioned_row i (Row.More l t rest) = is_mentioned i t || is_mentioned_row i rest
