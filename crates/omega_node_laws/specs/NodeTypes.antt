-- That a list of types has the normal form of the type of each node of a term.
--
-- A node is the term or a term in it. It has its type in its own context: that of the binders round it.
-- The identity (tfn * (fn a0 x0)) has the type (all * (-> a0 a0)); its body has (-> a0 a0) under the type variable, and
-- the variable in it has a0 under both. So a list with these three types in any order holds the types of its nodes.
use Rattle.std.specs.Prelude.{ℕ, List, ◌∷◌}
use Rattle.omega_kinds.specs.Kind.{Kind}
use Rattle.omega_types.specs.Normalises.{NormalForm}
use Rattle.omega_types.specs.Ty.{Ty, Row}
use Rattle.omega_terms.specs.Term.{Term, TermRow}
use Rattle.omega_terms.specs.Typing.{HasType, shift_all}
use Rattle.type_store.specs.Trees.{Holds}

-- the list has the normal form of each type that the typing rules give the term in the contexts
abbrev pub HoldsType : List Ty → List Kind → List Ty → Term → Type 0
HoldsType ts ctx vars e = (t n : Ty) → HasType ctx vars e t → NormalForm ctx t Kind.Star n → (i : ℕ) × Holds ts i n

abbrev mutual
  -- the same of the term and of each term in it. A term under a binder has the context that the typing rules give it there:
  -- so the second part of an unpack has it for each type of the package, and a branch for each sum type of the whole
  pub HoldsNodeTypes : List Ty → List Kind → List Ty → Term → Type 0
  HoldsNodeTypes ts ctx vars (Term.Lam t e) = HoldsType ts ctx vars (Term.Lam t e) × HoldsNodeTypes ts ctx (t ∷ vars) e
  HoldsNodeTypes ts ctx vars (Term.Call f a) = HoldsType ts ctx vars (Term.Call f a) × HoldsNodeTypes ts ctx vars f × HoldsNodeTypes ts ctx vars a
  HoldsNodeTypes ts ctx vars (Term.TyLam k e) = HoldsType ts ctx vars (Term.TyLam k e) × HoldsNodeTypes ts (k ∷ ctx) (shift_all vars) e
  HoldsNodeTypes ts ctx vars (Term.Inst e t) = HoldsType ts ctx vars (Term.Inst e t) × HoldsNodeTypes ts ctx vars e
  HoldsNodeTypes ts ctx vars (Term.Fields row) = HoldsType ts ctx vars (Term.Fields row) × HoldsFieldTypes ts ctx vars row
  HoldsNodeTypes ts ctx vars (Term.Get e l) = HoldsType ts ctx vars (Term.Get e l) × HoldsNodeTypes ts ctx vars e
  HoldsNodeTypes ts ctx vars (Term.Pack t e u) = HoldsType ts ctx vars (Term.Pack t e u) × HoldsNodeTypes ts ctx vars e
  HoldsNodeTypes ts ctx vars (Term.Unpack p e) =
      HoldsType ts ctx vars (Term.Unpack p e) × HoldsNodeTypes ts ctx vars p × ((k : Kind) (b : Ty) → HasType ctx vars p (Ty.Ex k b) → HoldsNodeTypes ts (k ∷ ctx) (b ∷ shift_all vars) e)
  HoldsNodeTypes ts ctx vars (Term.If a b c) =
      HoldsType ts ctx vars (Term.If a b c) × HoldsNodeTypes ts ctx vars a × HoldsNodeTypes ts ctx vars b × HoldsNodeTypes ts ctx vars c
  HoldsNodeTypes ts ctx vars (Term.Arith op a b) = HoldsType ts ctx vars (Term.Arith op a b) × HoldsNodeTypes ts ctx vars a × HoldsNodeTypes ts ctx vars b
  HoldsNodeTypes ts ctx vars (Term.Fix t u e) = HoldsType ts ctx vars (Term.Fix t u e) × HoldsNodeTypes ts ctx (t ∷ (Ty.Arrow t u ∷ vars)) e
  HoldsNodeTypes ts ctx vars (Term.Inj l e t) = HoldsType ts ctx vars (Term.Inj l e t) × HoldsNodeTypes ts ctx vars e
  HoldsNodeTypes ts ctx vars (Term.Case e t row) =
      HoldsType ts ctx vars (Term.Case e t row) × HoldsNodeTypes ts ctx vars e × ((r : Row) → HasType ctx vars e (Ty.Sum r) → HoldsBranchTypes ts ctx vars row r)
  HoldsNodeTypes ts ctx vars (Term.Roll e t) = HoldsType ts ctx vars (Term.Roll e t) × HoldsNodeTypes ts ctx vars e
  HoldsNodeTypes ts ctx vars (Term.Unroll e) = HoldsType ts ctx vars (Term.Unroll e) × HoldsNodeTypes ts ctx vars e
  HoldsNodeTypes ts ctx vars e = HoldsType ts ctx vars e

  -- the same of each field
  pub HoldsFieldTypes : List Ty → List Kind → List Ty → TermRow → Type 0
  HoldsFieldTypes ts ctx vars TermRow.End = Unit {0}
  HoldsFieldTypes ts ctx vars (TermRow.More l e rest) = HoldsNodeTypes ts ctx vars e × HoldsFieldTypes ts ctx vars rest

  -- the same of each branch, under a variable of the type that the row has for it
  pub HoldsBranchTypes : List Ty → List Kind → List Ty → TermRow → Row → Type 0
  HoldsBranchTypes ts ctx vars (TermRow.More l e rest) (Row.More m u r) = HoldsNodeTypes ts ctx (u ∷ vars) e × HoldsBranchTypes ts ctx vars rest r
  HoldsBranchTypes ts ctx vars _ _ = Unit {0}
