-- A walk over a type: f says what becomes of a variable below so many binders. For example, the walk with
-- f d n = Ty.Var (bump by d n) adds a number to the free indexes.
use Rattle.std.specs.Prelude.{ℕ, ◌+◌}
use Rattle.omega_types.specs.Ty.{Ty, Row}

abbrev mutual
  pub walked_ty : (ℕ → ℕ → Ty) → ℕ → Ty → Ty
  walked_ty f d (Ty.Var n) = f d n
  walked_ty f d Ty.Int = Ty.Int
  walked_ty f d Ty.Bool = Ty.Bool
  walked_ty f d Ty.Text = Ty.Text
  walked_ty f d (Ty.Arrow a b) = Ty.Arrow (walked_ty f d a) (walked_ty f d b)
  walked_ty f d (Ty.Fields row) = Ty.Fields (walked_row f d row)
  walked_ty f d (Ty.Sum row) = Ty.Sum (walked_row f d row)
  walked_ty f d (Ty.All k b) = Ty.All k (walked_ty f (d + 1) b)
  walked_ty f d (Ty.Ex k b) = Ty.Ex k (walked_ty f (d + 1) b)
  walked_ty f d (Ty.Mu b) = Ty.Mu (walked_ty f (d + 1) b)
  walked_ty f d (Ty.Lam k b) = Ty.Lam k (walked_ty f (d + 1) b)
  walked_ty f d (Ty.Apply t a) = Ty.Apply (walked_ty f d t) (walked_ty f d a)

  pub walked_row : (ℕ → ℕ → Ty) → ℕ → Row → Row
  walked_row f d Row.End = Row.End
  walked_row f d (Row.More l t rest) = Row.More l (walked_ty f d t) (walked_row f d rest)
