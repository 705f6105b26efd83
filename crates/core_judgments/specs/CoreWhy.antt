-- Why a rule of types or of expressions is refused.
use Rattle.omega_kinds.specs.Kind.{Kind}
use Rattle.omega_kinds.specs.Name.{Name}
use Rattle.omega_types.specs.Ty.{Ty}

pub data CoreWhy : Type 0 where
  -- what is applied, asked for a field, injected into or taken apart by cases has this other type
  NotArrow NotAll NotRecord NotSum : (found : Ty) → CoreWhy
  -- the record type has no such field, or the sum type no such label
  NoField : (name : Name) → CoreWhy
  -- a case has no branch for this label of the sum
  NoBranch : (name : Name) → CoreWhy
  Differ : (found needed : Ty) → CoreWhy
  KindDiffer : (found needed : Kind) → CoreWhy
  -- an applied type has kind *
  NotOperator : CoreWhy
  -- a record names a field again, a sum a label, or a case has two branches for one label
  DuplicateField : (name : Name) → CoreWhy

-- a normal type that is no function type, no polymorphic type, no record type, no sum type
abbrev pub IsNoArrow : Ty → Type 0
IsNoArrow (Ty.Arrow t u) = ⊥
IsNoArrow t = Unit {0}

abbrev pub IsNoAll : Ty → Type 0
IsNoAll (Ty.All k t) = ⊥
IsNoAll t = Unit {0}

abbrev pub IsNoRecord : Ty → Type 0
IsNoRecord (Ty.Fields row) = ⊥
IsNoRecord t = Unit {0}

abbrev pub IsNoSum : Ty → Type 0
IsNoSum (Ty.Sum row) = ⊥
IsNoSum t = Unit {0}
