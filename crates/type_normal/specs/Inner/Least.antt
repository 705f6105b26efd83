-- How far above a number the least free index of a type is that is at least this number.
use Rattle.std.specs.Prelude.{ℕ, zero, suc, ◌-◌, min, Bool as Truth, true, false, Option, Some, None, nat_le, if◌then◌else◌}
use Rattle.omega_types.specs.Ty.{Ty, Row}

-- an index as it is written outside so many binders
abbrev pub outside : (count index : ℕ) → Option ℕ
outside count index = if nat_le count index then Some (index - count) else None

abbrev pub lesser : (a b : Option ℕ) → Option ℕ
lesser None b = b
lesser (Some i) None = Some i
lesser (Some i) (Some j) = Some (min i j)

-- whether the number itself is free
abbrev pub is_first : Option ℕ → Truth
is_first None = false
is_first (Some zero) = true
is_first (Some (suc i)) = false

abbrev mutual
  pub least_ty : (from : ℕ) → Ty → Option ℕ
  least_ty from (Ty.Var i) = outside from i
  least_ty from Ty.Int = None
  least_ty from Ty.Bool = None
  least_ty from Ty.Text = None
  least_ty from (Ty.Arrow a b) = lesser (least_ty from a) (least_ty from b)
  least_ty from (Ty.Fields row) = least_row from row
  least_ty from (Ty.Sum row) = least_row from row
  least_ty from (Ty.All k b) = least_ty (suc from) b
  least_ty from (Ty.Ex k b) = least_ty (suc from) b
  least_ty from (Ty.Mu b) = least_ty (suc from) b
  least_ty from (Ty.Lam k b) = least_ty (suc from) b
  least_ty from (Ty.Apply f a) = lesser (least_ty from f) (least_ty from a)

  pub least_row : (from : ℕ) → Row → Option ℕ
  least_row from Row.End = None
  least_row from (Row.More l t rest) = lesser (least_ty from t) (least_row from rest)
