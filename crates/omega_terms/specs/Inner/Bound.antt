-- The least numbers above all free type indexes and above all free term indexes of a term: 0 where there are none.
use Rattle.std.specs.Prelude.{ℕ, ◌+◌, ◌-◌, max}
use Rattle.omega_types.specs.Inner.Bound.{bound_of}
use Rattle.omega_terms.specs.Term.{Term, TermRow}
use Rattle.omega_terms.specs.Fields.{TermPairs, term_row}

abbrev mutual
  pub type_bound : Term → ℕ
  type_bound (Term.Var i) = 0
  type_bound (Term.Int z) = 0
  type_bound (Term.Bool b) = 0
  type_bound (Term.Text s) = 0
  type_bound (Term.Lam t e) = max (bound_of t) (type_bound e)
  type_bound (Term.Call f a) = max (type_bound f) (type_bound a)
  type_bound (Term.TyLam k e) = type_bound e - 1
  type_bound (Term.Inst e t) = max (type_bound e) (bound_of t)
  type_bound (Term.Fields row) = row_type_bound row
  type_bound (Term.Get e l) = type_bound e
  type_bound (Term.Pack t e u) = max (max (bound_of t) (type_bound e)) (bound_of u)
  type_bound (Term.Unpack p e) = max (type_bound p) (type_bound e - 1)
  type_bound (Term.If a b c) = max (max (type_bound a) (type_bound b)) (type_bound c)
  type_bound (Term.Arith op a b) = max (type_bound a) (type_bound b)
  type_bound (Term.Fix t u e) = max (max (bound_of t) (bound_of u)) (type_bound e)
  type_bound (Term.Inj l e t) = max (type_bound e) (bound_of t)
  type_bound (Term.Case e t row) = max (max (type_bound e) (bound_of t)) (row_type_bound row)
  type_bound (Term.Roll e t) = max (type_bound e) (bound_of t)
  type_bound (Term.Unroll e) = type_bound e

  pub row_type_bound : TermRow → ℕ
  row_type_bound TermRow.End = 0
  row_type_bound (TermRow.More l e rest) = max (type_bound e) (row_type_bound rest)

abbrev mutual
  pub term_bound : Term → ℕ
  term_bound (Term.Var i) = i + 1
  term_bound (Term.Int z) = 0
  term_bound (Term.Bool b) = 0
  term_bound (Term.Text s) = 0
  term_bound (Term.Lam t e) = term_bound e - 1
  term_bound (Term.Call f a) = max (term_bound f) (term_bound a)
  term_bound (Term.TyLam k e) = term_bound e
  term_bound (Term.Inst e t) = term_bound e
  term_bound (Term.Fields row) = row_term_bound row
  term_bound (Term.Get e l) = term_bound e
  term_bound (Term.Pack t e u) = term_bound e
  term_bound (Term.Unpack p e) = max (term_bound p) (term_bound e - 1)
  term_bound (Term.If a b c) = max (max (term_bound a) (term_bound b)) (term_bound c)
  term_bound (Term.Arith op a b) = max (term_bound a) (term_bound b)
  term_bound (Term.Fix t u e) = term_bound e - 2
  term_bound (Term.Inj l e t) = term_bound e
  term_bound (Term.Case e t row) = max (term_bound e) (row_term_bound row - 1)
  term_bound (Term.Roll e t) = term_bound e
  term_bound (Term.Unroll e) = term_bound e

  pub row_term_bound : TermRow → ℕ
  row_term_bound TermRow.End = 0
  row_term_bound (TermRow.More l e rest) = max (term_bound e) (row_term_bound rest)

abbrev pub pairs_type_bound : TermPairs → ℕ
pairs_type_bound xs = row_type_bound (term_row xs)

abbrev pub pairs_term_bound : TermPairs → ℕ
pairs_term_bound xs = row_term_bound (term_row xs)
