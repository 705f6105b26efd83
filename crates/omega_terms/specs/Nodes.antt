-- How many nodes a term has: each form is one, a record's fields and a case's branches are the terms in them, and types are not counted.
use Rattle.std.specs.Prelude.{ℕ, ◌+◌}
use Rattle.omega_terms.specs.Term.{Term, TermRow}

abbrev mutual
  pub nodes : Term → ℕ
  nodes (Term.Var i) = 1
  nodes (Term.Int z) = 1
  nodes (Term.Bool b) = 1
  nodes (Term.Text s) = 1
  nodes (Term.Lam t e) = nodes e + 1
  nodes (Term.Call f a) = nodes f + nodes a + 1
  nodes (Term.TyLam k e) = nodes e + 1
  nodes (Term.Inst e t) = nodes e + 1
  nodes (Term.Fields row) = row_nodes row + 1
  nodes (Term.Get e l) = nodes e + 1
  nodes (Term.Pack t e u) = nodes e + 1
  nodes (Term.Unpack p e) = nodes p + nodes e + 1
  nodes (Term.If a b c) = nodes a + nodes b + nodes c + 1
  nodes (Term.Arith op a b) = nodes a + nodes b + 1
  nodes (Term.Fix t u e) = nodes e + 1
  nodes (Term.Inj l e t) = nodes e + 1
  nodes (Term.Case e t row) = nodes e + row_nodes row + 1
  nodes (Term.Roll e t) = nodes e + 1
  nodes (Term.Unroll e) = nodes e + 1

  pub row_nodes : TermRow → ℕ
  row_nodes TermRow.End = 0
  row_nodes (TermRow.More l e rest) = nodes e + row_nodes rest
