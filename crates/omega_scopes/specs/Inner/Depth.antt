-- How many binders stand one in another, at most, in a type and in a term.
use Rattle.std.specs.Prelude.{ℕ, ◌+◌, max}
use Rattle.omega_types.specs.Ty.{Ty, Row}
use Rattle.omega_terms.specs.Term.{Term, TermRow}

abbrev mutual
  pub ty_depth : Ty → ℕ
  ty_depth (Ty.Var i) = 0
  ty_depth Ty.Int = 0
  ty_depth Ty.Bool = 0
  ty_depth Ty.Text = 0
  ty_depth (Ty.Arrow a b) = max (ty_depth a) (ty_depth b)
  ty_depth (Ty.Fields row) = row_depth row
  ty_depth (Ty.Sum row) = row_depth row
  ty_depth (Ty.All k b) = ty_depth b + 1
  ty_depth (Ty.Ex k b) = ty_depth b + 1
  ty_depth (Ty.Mu b) = ty_depth b + 1
  ty_depth (Ty.Lam k b) = ty_depth b + 1
  ty_depth (Ty.Apply f a) = max (ty_depth f) (ty_depth a)

  pub row_depth : Row → ℕ
  row_depth Row.End = 0
  row_depth (Row.More l t rest) = max (ty_depth t) (row_depth rest)

-- the binders of type variables in a term
abbrev mutual
  pub type_depth : Term → ℕ
  type_depth (Term.Var i) = 0
  type_depth (Term.Int z) = 0
  type_depth (Term.Bool b) = 0
  type_depth (Term.Text s) = 0
  type_depth (Term.Lam t e) = max (ty_depth t) (type_depth e)
  type_depth (Term.Call f a) = max (type_depth f) (type_depth a)
  type_depth (Term.TyLam k e) = type_depth e + 1
  type_depth (Term.Inst e t) = max (type_depth e) (ty_depth t)
  type_depth (Term.Fields row) = row_type_depth row
  type_depth (Term.Get e l) = type_depth e
  type_depth (Term.Pack t e u) = max (ty_depth t) (max (type_depth e) (ty_depth u))
  type_depth (Term.Unpack p e) = max (type_depth p) (type_depth e + 1)
  type_depth (Term.If a b c) = max (type_depth a) (max (type_depth b) (type_depth c))
  type_depth (Term.Arith op a b) = max (type_depth a) (type_depth b)
  type_depth (Term.Fix t u e) = max (ty_depth t) (max (ty_depth u) (type_depth e))
  type_depth (Term.Inj l e t) = max (type_depth e) (ty_depth t)
  type_depth (Term.Case e t row) = max (type_depth e) (max (ty_depth t) (row_type_depth row))
  type_depth (Term.Roll e t) = max (type_depth e) (ty_depth t)
  type_depth (Term.Unroll e) = type_depth e

  pub row_type_depth : TermRow → ℕ
  row_type_depth TermRow.End = 0
  row_type_depth (TermRow.More l e rest) = max (type_depth e) (row_type_depth rest)

-- the binders of term variables in it
abbrev mutual
  pub term_depth : Term → ℕ
  term_depth (Term.Var i) = 0
  term_depth (Term.Int z) = 0
  term_depth (Term.Bool b) = 0
  term_depth (Term.Text s) = 0
  term_depth (Term.Lam t e) = term_depth e + 1
  term_depth (Term.Call f a) = max (term_depth f) (term_depth a)
  term_depth (Term.TyLam k e) = term_depth e
  term_depth (Term.Inst e t) = term_depth e
  term_depth (Term.Fields row) = row_term_depth row
  term_depth (Term.Get e l) = term_depth e
  term_depth (Term.Pack t e u) = term_depth e
  term_depth (Term.Unpack p e) = max (term_depth p) (term_depth e + 1)
  term_depth (Term.If a b c) = max (term_depth a) (max (term_depth b) (term_depth c))
  term_depth (Term.Arith op a b) = max (term_depth a) (term_depth b)
  term_depth (Term.Fix t u e) = term_depth e + 2
  term_depth (Term.Inj l e t) = term_depth e
  term_depth (Term.Case e t row) = max (term_depth e) (row_term_depth row + 1)
  term_depth (Term.Roll e t) = term_depth e
  term_depth (Term.Unroll e) = term_depth e

  pub row_term_depth : TermRow → ℕ
  row_term_depth TermRow.End = 0
  row_term_depth (TermRow.More l e rest) = max (term_depth e) (row_term_depth rest)
