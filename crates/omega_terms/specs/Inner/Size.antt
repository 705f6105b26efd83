-- How large a term is, its fields and branches counted, and no types inside it.
use Rattle.std.specs.Prelude.{ℕ, ◌+◌}
use Rattle.omega_terms.specs.Term.{Term, TermRow}
use Rattle.omega_terms.specs.Fields.{TermPairs, term_row}

abbrev mutual
  pub term_size : Term → ℕ
  term_size (Term.Var i) = 1
  term_size (Term.Int z) = 1
  term_size (Term.Bool b) = 1
  term_size (Term.Text s) = 1
  term_size (Term.Lam t e) = term_size e + 1
  term_size (Term.Call f a) = term_size f + term_size a + 1
  term_size (Term.TyLam k e) = term_size e + 1
  term_size (Term.Inst e t) = term_size e + 1
  term_size (Term.Fields row) = row_size row + 1
  term_size (Term.Get e l) = term_size e + 1
  term_size (Term.Pack t e u) = term_size e + 1
  term_size (Term.Unpack p e) = term_size p + term_size e + 1
  term_size (Term.If a b c) = term_size a + term_size b + term_size c + 1
  term_size (Term.Arith op a b) = term_size a + term_size b + 1
  term_size (Term.Fix t u e) = term_size e + 1
  term_size (Term.Inj l e t) = term_size e + 1
  term_size (Term.Case e t row) = term_size e + row_size row + 1
  term_size (Term.Roll e t) = term_size e + 1
  term_size (Term.Unroll e) = term_size e + 1

  pub row_size : TermRow → ℕ
  row_size TermRow.End = 0
  row_size (TermRow.More l e rest) = term_size e + row_size rest + 1

abbrev pub pairs_size : TermPairs → ℕ
pairs_size xs = row_size (term_row xs)
