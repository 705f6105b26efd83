-- Numbers that the free indexes of types are not below.
use Rattle.std.specs.Prelude.{◌≡◌, ℕ, zero, suc, ◌-◌, ◌<◌, ◌≤◌, ◌==◌, List, if◌then◌else◌, fold, get_or, length, max, min}
use Rattle.omega_kinds.specs.declared.label.Label.{Label}
use Rattle.omega_types.specs.Ty.{Ty, Row}
use Rattle.type_store.specs.declared.low.Low.{Low}
use Rattle.type_store.specs.Shape.{Shape}
use Rattle.type_store.specs.Trees.{at}

-- what is said of the free indexes, said of those below one more binder
abbrev pub lifted : (ℕ → Type 0) → ℕ → Type 0
lifted P zero = Unit {0}
lifted P (suc i) = P i

abbrev mutual
  -- P holds of each free index
  pub EachFree : (ℕ → Type 0) → Ty → Type 0
  EachFree P (Ty.Var i) = P i
  EachFree P Ty.Int = Unit {0}
  EachFree P Ty.Bool = Unit {0}
  EachFree P Ty.Text = Unit {0}
  EachFree P (Ty.Arrow a b) = EachFree P a × EachFree P b
  EachFree P (Ty.Fields row) = EachFreeRow P row
  EachFree P (Ty.Sum row) = EachFreeRow P row
  EachFree P (Ty.All k b) = EachFree (lifted P) b
  EachFree P (Ty.Ex k b) = EachFree (lifted P) b
  EachFree P (Ty.Mu b) = EachFree (lifted P) b
  EachFree P (Ty.Lam k b) = EachFree (lifted P) b
  EachFree P (Ty.Apply f a) = EachFree P f × EachFree P a

  pub EachFreeRow : (ℕ → Type 0) → Row → Type 0
  EachFreeRow P Row.End = Unit {0}
  EachFreeRow P (Row.More l t rest) = EachFree P t × EachFreeRow P rest

-- an index is not below the numbers
abbrev pub IsAbove : Low → ℕ → Type 0
IsAbove low i = (low.least ≤ i) × (0 < i → low.next ≤ i)

abbrev pub IsLow : Low → Ty → Type 0
IsLow low t = EachFree (IsAbove low) t

-- the numbers of no free index, of one, of two types together and of a type below a binder
abbrev pub highest : Low
highest = record { least = 0xffff_ffff_ffff_ffff; next = 0xffff_ffff_ffff_ffff }

abbrev pub of_index : ℕ → Low
of_index i = record { least = i; next = if i == 0 then 0xffff_ffff_ffff_ffff else i }

abbrev pub both : Low → Low → Low
both p q = record { least = min p.least q.least; next = min p.next q.next }

abbrev pub outside : Low → Low
outside p = record { least = p.next - 1; next = max (p.next - 1) 1 }

-- the numbers of the type that a shape makes, from those of the types that it numbers
abbrev pub low_in : List Low → ℕ → Low
low_in lows i = get_or lows i (record { least = 0; next = 0 })

abbrev pub with_part : List Low → Low → Label × ℕ → Low
with_part lows low x = both low (low_in lows x.1)

abbrev pub low_at : List Low → Shape → Low
low_at lows (Shape.Var i) = of_index i
low_at lows Shape.Int = highest
low_at lows Shape.Bool = highest
low_at lows Shape.Text = highest
low_at lows (Shape.Arrow a b) = both (low_in lows a) (low_in lows b)
low_at lows (Shape.Fields parts) = fold (with_part lows) highest parts
low_at lows (Shape.Sum parts) = fold (with_part lows) highest parts
low_at lows (Shape.All k b) = outside (low_in lows b)
low_at lows (Shape.Ex k b) = outside (low_in lows b)
low_at lows (Shape.Mu b) = outside (low_in lows b)
low_at lows (Shape.Lam k b) = outside (low_in lows b)
low_at lows (Shape.Apply f a) = both (low_in lows f) (low_in lows a)

-- each type has its numbers
pub record AreLows (ts : List Ty) (lows : List Low) : Type 0 where
  pub as_long : length lows ≡ length ts
  pub each : (i : ℕ) → IsLow (low_in lows i) (at ts i)
