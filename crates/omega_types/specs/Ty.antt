-- Types of System Fω, as plain trees with de Bruijn indexes, 0 being the innermost.
use Rattle.std.specs.Prelude.{ℕ, zero, suc}
use Rattle.omega_kinds.specs.Kind.{Kind}
use Rattle.omega_kinds.specs.declared.label.Label.{Label}

mutual
  pub data Ty : Type 0 where
    Var : (index : ℕ) → Ty
    Int Bool Text : Ty
    Arrow : (from to : Ty) → Ty
    Fields Sum : (fields : Row) → Ty
    All Ex : (kind : Kind) (body : Ty) → Ty
    Mu : (body : Ty) → Ty
    Lam : (kind : Kind) (body : Ty) → Ty
    Apply : (operator arg : Ty) → Ty
    deriving Discrete as Ty-discrete

  pub data Row : Type 0 where
    End : Row
    More : (label : Label) (part : Ty) (rest : Row) → Row
    deriving Discrete as Row-discrete

-- what an index becomes below one more binder
abbrev pub lift : (ℕ → ℕ) → ℕ → ℕ
lift r zero = zero
lift r (suc n) = suc (r n)
