-- Types and terms whose variables are in scope, and have levels that are numbers of 64 bits.
use Rattle.std.specs.Prelude.{ℕ, ◌+◌, ◌-◌, ◌^◌, ◌<◌}
use Rattle.omega_types.specs.Ty.{Ty, Row}
use Rattle.omega_terms.specs.Term.{Term, TermRow}

-- a variable is one of the n in scope, and its level is below 2^64
abbrev pub IndexInScope : (n index : ℕ) → Type 0
IndexInScope n index = (index < n) × (n - (index + 1) < 2 ^ 64)

-- a type with n type variables in scope
abbrev mutual
  pub TyInScope : ℕ → Ty → Type 0
  TyInScope n (Ty.Var i) = IndexInScope n i
  TyInScope n Ty.Int = Unit {0}
  TyInScope n Ty.Bool = Unit {0}
  TyInScope n Ty.Text = Unit {0}
  TyInScope n (Ty.Arrow a b) = TyInScope n a × TyInScope n b
  TyInScope n (Ty.Fields row) = RowInScope n row
  TyInScope n (Ty.Sum row) = RowInScope n row
  TyInScope n (Ty.All k b) = TyInScope (n + 1) b
  TyInScope n (Ty.Ex k b) = TyInScope (n + 1) b
  TyInScope n (Ty.Mu b) = TyInScope (n + 1) b
  TyInScope n (Ty.Lam k b) = TyInScope (n + 1) b
  TyInScope n (Ty.Apply f a) = TyInScope n f × TyInScope n a

  pub RowInScope : ℕ → Row → Type 0
  RowInScope n Row.End = Unit {0}
  RowInScope n (Row.More l t rest) = TyInScope n t × RowInScope n rest

-- a term with n type variables and m term variables in scope
abbrev mutual
  pub TermInScope : (n m : ℕ) → Term → Type 0
  TermInScope n m (Term.Var i) = IndexInScope m i
  TermInScope n m (Term.Int z) = Unit {0}
  TermInScope n m (Term.Bool b) = Unit {0}
  TermInScope n m (Term.Text s) = Unit {0}
  TermInScope n m (Term.Lam t e) = TyInScope n t × TermInScope n (m + 1) e
  TermInScope n m (Term.Call f a) = TermInScope n m f × TermInScope n m a
  TermInScope n m (Term.TyLam k e) = TermInScope (n + 1) m e
  TermInScope n m (Term.Inst e t) = TermInScope n m e × TyInScope n t
  TermInScope n m (Term.Fields row) = TermRowInScope n m row
  TermInScope n m (Term.Get e l) = TermInScope n m e
  TermInScope n m (Term.Pack t e u) = TyInScope n t × TermInScope n m e × TyInScope n u
  TermInScope n m (Term.Unpack p e) = TermInScope n m p × TermInScope (n + 1) (m + 1) e
  TermInScope n m (Term.If a b c) = TermInScope n m a × TermInScope n m b × TermInScope n m c
  TermInScope n m (Term.Arith op a b) = TermInScope n m a × TermInScope n m b
  TermInScope n m (Term.Fix t u e) = TyInScope n t × TyInScope n u × TermInScope n (m + 2) e
  TermInScope n m (Term.Inj l e t) = TermInScope n m e × TyInScope n t
  TermInScope n m (Term.Case e t row) = TermInScope n m e × TyInScope n t × TermRowInScope n (m + 1) row
  TermInScope n m (Term.Roll e t) = TermInScope n m e × TyInScope n t
  TermInScope n m (Term.Unroll e) = TermInScope n m e

  pub TermRowInScope : (n m : ℕ) → TermRow → Type 0
  TermRowInScope n m TermRow.End = Unit {0}
  TermRowInScope n m (TermRow.More l e rest) = TermInScope n m e × TermRowInScope n m rest
