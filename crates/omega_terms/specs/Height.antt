-- How many forms of a term stand inside one another, those of its types counted too, and those of kinds left out.
use Rattle.std.specs.Prelude.{ℕ, ◌+◌, max}
use Rattle.omega_types.specs.Height.{height}
use Rattle.omega_terms.specs.Term.{Term, TermRow}
use Rattle.omega_terms.specs.Fields.{TermPairs, term_row}

abbrev mutual
  pub term_height : Term → ℕ
  term_height (Term.Var i) = 1
  term_height (Term.Int z) = 1
  term_height (Term.Bool b) = 1
  term_height (Term.Text s) = 1
  term_height (Term.Lam t e) = max (height t) (term_height e) + 1
  term_height (Term.Call f a) = max (term_height f) (term_height a) + 1
  term_height (Term.TyLam k e) = term_height e + 1
  term_height (Term.Inst e t) = max (term_height e) (height t) + 1
  term_height (Term.Fields row) = row_height row + 1
  term_height (Term.Get e l) = term_height e + 1
  term_height (Term.Pack t e u) = max (max (height t) (term_height e)) (height u) + 1
  term_height (Term.Unpack p e) = max (term_height p) (term_height e) + 1
  term_height (Term.If a b c) = max (max (term_height a) (term_height b)) (term_height c) + 1
  term_height (Term.Arith op a b) = max (term_height a) (term_height b) + 1
  term_height (Term.Fix t u e) = max (max (height t) (height u)) (term_height e) + 1
  term_height (Term.Inj l e t) = max (term_height e) (height t) + 1
  term_height (Term.Case e t row) = max (max (term_height e) (height t)) (row_height row) + 1
  term_height (Term.Roll e t) = max (term_height e) (height t) + 1
  term_height (Term.Unroll e) = term_height e + 1

  pub row_height : TermRow → ℕ
  row_height TermRow.End = 0
  row_height (TermRow.More l e rest) = max (term_height e) (row_height rest)

abbrev pub pairs_height : TermPairs → ℕ
pairs_height xs = row_height (term_row xs)
