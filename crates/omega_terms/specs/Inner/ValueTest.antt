-- Whether a term is a value, as a truth value.
use Rattle.std.specs.Prelude.{Bool as Truth, true, false, ◌&&◌}
use Rattle.omega_terms.specs.Term.{Term, TermRow}

abbrev mutual
  pub value_test : Term → Truth
  value_test (Term.Var i) = false
  value_test (Term.Int z) = true
  value_test (Term.Bool b) = true
  value_test (Term.Text s) = true
  value_test (Term.Lam t e) = true
  value_test (Term.Call f a) = false
  value_test (Term.TyLam k e) = true
  value_test (Term.Inst e t) = false
  value_test (Term.Fields row) = values_test row
  value_test (Term.Get e l) = false
  value_test (Term.Pack t e u) = value_test e
  value_test (Term.Unpack p e) = false
  value_test (Term.If a b c) = false
  value_test (Term.Arith op a b) = false
  value_test (Term.Fix t u e) = true
  value_test (Term.Inj l e t) = value_test e
  value_test (Term.Case e t row) = false
  value_test (Term.Roll e t) = value_test e
  value_test (Term.Unroll e) = false

  pub values_test : TermRow → Truth
  values_test TermRow.End = true
  values_test (TermRow.More l e rest) = value_test e && values_test rest
