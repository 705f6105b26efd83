-- Semantic signatures (Rossberg, Russo, Dreyer, F-ing modules, section 4), as plain trees.
use Rattle.std.specs.Prelude.{List, ◌≢◌}
use Rattle.omega_kinds.specs.Kind.{Kind}
use Rattle.omega_kinds.specs.declared.effect.Effect.{Effect}
use Rattle.omega_kinds.specs.Name.{Name}
use Rattle.omega_types.specs.Ty.{Ty}
use Rattle.omega_terms.specs.Term.{Term}

mutual
  -- a value of a type, a type of a kind, a signature, a structure, or a functor; the functor's type variables
  -- bind in its parameter and in its result
  pub data Sig : Type 0 where
    Val : (type : Ty) → Sig
    Typ : (type : Ty) (kind : Kind) → Sig
    Meta : (sig : Abs) → Sig
    Str : (fields : SigRow) → Sig
    Fun : (effect : Effect) (kinds : List Kind) (param : Sig) (result : Abs) → Sig
    deriving Discrete as Sig-discrete

  -- a signature that hides types of these kinds, the outermost variable first
  pub data Abs : Type 0 where
    Ex : (kinds : List Kind) (body : Sig) → Abs
    deriving Discrete as Abs-discrete

  pub data SigRow : Type 0 where
    End : SigRow
    More : (name : Name) (part : Sig) (rest : SigRow) → SigRow
    deriving Discrete as SigRow-discrete

-- the fields have the part at the name
pub data HasField : SigRow → Name → Sig → Type 0 where
  here : {l : Name} {s : Sig} {rest : SigRow} → HasField (SigRow.More l s rest) l s
  there : {l m : Name} {s t : Sig} {rest : SigRow} → l ≢ m → HasField rest l s → HasField (SigRow.More m t rest) l s

-- the fields have no part at the name
abbrev pub NoField : Name → SigRow → Type 0
NoField l SigRow.End = Unit {0}
NoField l (SigRow.More m s rest) = (l ≢ m) × NoField l rest

-- What elaboration makes of a module. A pure one keeps the types that its signature hides beside its term.
pub data Module : Type 0 where
  made : (effect : Effect) (sig : Abs) (types : List Ty) (term : Term) → Module
