-- Whether the variables of a type and of a term are in scope, and below each binder the number in scope is one of 64 bits.
use Rattle.std.specs.Prelude.{ℕ, ◌+◌, ◌^◌, Bool as Truth, true, ◌&&◌, nat_lt}
use Rattle.omega_types.specs.Ty.{Ty, Row}
use Rattle.omega_terms.specs.Term.{Term, TermRow}

-- so many are a number of 64 bits
abbrev pub fits : ℕ → Truth
fits n = nat_lt n (2 ^ 64)

abbrev mutual
  pub ty_scoped : ℕ → Ty → Truth
  ty_scoped n (Ty.Var i) = nat_lt i n
  ty_scoped n Ty.Int = true
  ty_scoped n Ty.Bool = true
  ty_scoped n Ty.Text = true
  ty_scoped n (Ty.Arrow a b) = ty_scoped n a && ty_scoped n b
  ty_scoped n (Ty.Fields row) = row_scoped n row
  ty_scoped n (Ty.Sum row) = row_scoped n row
  ty_scoped n (Ty.All k b) = fits (n + 1) && ty_scoped (n + 1) b
  ty_scoped n (Ty.Ex k b) = fits (n + 1) && ty_scoped (n + 1) b
  ty_scoped n (Ty.Mu b) = fits (n + 1) && ty_scoped (n + 1) b
  ty_scoped n (Ty.Lam k b) = fits (n + 1) && ty_scoped (n + 1) b
  ty_scoped n (Ty.Apply f a) = ty_scoped n f && ty_scoped n a

  pub row_scoped : ℕ → Row → Truth
  row_scoped n Row.End = true
  row_scoped n (Row.More l t rest) = ty_scoped n t && row_scoped n rest

abbrev mutual
  pub term_scoped : (n m : ℕ) → Term → Truth
  term_scoped n m (Term.Var i) = nat_lt i m
  term_scoped n m (Term.Int z) = true
  term_scoped n m (Term.Bool b) = true
  term_scoped n m (Term.Text s) = true
  term_scoped n m (Term.Lam t e) = ty_scoped n t && (fits (m + 1) && term_scoped n (m + 1) e)
  term_scoped n m (Term.Call f a) = term_scoped n m f && term_scoped n m a
  term_scoped n m (Term.TyLam k e) = fits (n + 1) && term_scoped (n + 1) m e
  term_scoped n m (Term.Inst e t) = term_scoped n m e && ty_scoped n t
  term_scoped n m (Term.Fields row) = term_row_scoped n m row
  term_scoped n m (Term.Get e l) = term_scoped n m e
  term_scoped n m (Term.Pack t e u) = ty_scoped n t && (term_scoped n m e && ty_scoped n u)
  term_scoped n m (Term.Unpack p e) = term_scoped n m p && (fits (n + 1) && (fits (m + 1) && term_scoped (n + 1) (m + 1) e))
  term_scoped n m (Term.If a b c) = term_scoped n m a && (term_scoped n m b && term_scoped n m c)
  term_scoped n m (Term.Arith op a b) = term_scoped n m a && term_scoped n m b
  term_scoped n m (Term.Fix t u e) = ty_scoped n t && (ty_scoped n u && (fits (m + 2) && term_scoped n (m + 2) e))
  term_scoped n m (Term.Inj l e t) = term_scoped n m e && ty_scoped n t
  term_scoped n m (Term.Case e t row) = term_scoped n m e && (ty_scoped n t && (fits (m + 1) && term_row_scoped n (m + 1) row))
  term_scoped n m (Term.Roll e t) = term_scoped n m e && ty_scoped n t
  term_scoped n m (Term.Unroll e) = term_scoped n m e

  pub term_row_scoped : (n m : ℕ) → TermRow → Truth
  term_row_scoped n m TermRow.End = true
  term_row_scoped n m (TermRow.More l e rest) = term_scoped n m e && term_row_scoped n m rest
