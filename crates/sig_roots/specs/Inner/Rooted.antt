-- Which variable a type is, applied to exactly the variables of so many binders in order and eta-long.
use Rattle.std.specs.Prelude.{ℕ, zero, suc, Option, Some, None, nat_eq, if◌then◌else◌}
use Rattle.omega_types.specs.Ty.{Ty}
use Rattle.type_normal.specs.Inner.Least.{outside}

-- goes on where the variable is the one that is wanted
abbrev pub if_is : (wanted : ℕ) → (found rest : Option ℕ) → Option ℕ
if_is wanted None rest = None
if_is wanted (Some i) rest = if nat_eq i wanted then rest else None

abbrev mutual
  -- the variable, as it is written outside the binders
  pub rooted : (count : ℕ) → Ty → Option ℕ
  rooted count (Ty.Lam k b) = rooted (suc count) b
  rooted zero (Ty.Var i) = outside zero i
  rooted (suc left) (Ty.Apply f a) = if_is zero (rooted zero a) (spine (suc zero) left f)
  rooted count t = None

  -- the same below the last arguments, the one before them being this variable, and so many are left
  pub spine : (next left : ℕ) → Ty → Option ℕ
  spine next zero (Ty.Var i) = outside next i
  spine next (suc left) (Ty.Apply f a) = if_is next (rooted zero a) (spine (suc next) left f)
  spine next left t = None
