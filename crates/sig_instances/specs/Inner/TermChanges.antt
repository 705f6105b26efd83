-- Types put in for variables in parallel, in each type of a term, the normal form of the result being taken at once.
use Rattle.std.specs.Prelude.{ℕ}
use Rattle.omega_terms.specs.Term.{Term, TermRow}
use Rattle.semantic_sigs.specs.Inner.Changes.{Head, ty_in, under_head}

abbrev mutual
  pub term_in : (ℕ → Head) → Term → Term
  term_in h (Term.Var n) = Term.Var n
  term_in h (Term.Int z) = Term.Int z
  term_in h (Term.Bool b) = Term.Bool b
  term_in h (Term.Text x) = Term.Text x
  term_in h (Term.Lam t e) = Term.Lam (ty_in h t) (term_in h e)
  term_in h (Term.Call f a) = Term.Call (term_in h f) (term_in h a)
  term_in h (Term.TyLam k e) = Term.TyLam k (term_in (under_head h) e)
  term_in h (Term.Inst e t) = Term.Inst (term_in h e) (ty_in h t)
  term_in h (Term.Fields row) = Term.Fields (fields_in h row)
  term_in h (Term.Get e l) = Term.Get (term_in h e) l
  term_in h (Term.Pack t e u) = Term.Pack (ty_in h t) (term_in h e) (ty_in h u)
  term_in h (Term.Unpack p e) = Term.Unpack (term_in h p) (term_in (under_head h) e)
  term_in h (Term.If a b c) = Term.If (term_in h a) (term_in h b) (term_in h c)
  term_in h (Term.Arith o a b) = Term.Arith o (term_in h a) (term_in h b)
  term_in h (Term.Fix t u e) = Term.Fix (ty_in h t) (ty_in h u) (term_in h e)
  term_in h (Term.Inj l e t) = Term.Inj l (term_in h e) (ty_in h t)
  term_in h (Term.Case e t row) = Term.Case (term_in h e) (ty_in h t) (fields_in h row)
  term_in h (Term.Roll e t) = Term.Roll (term_in h e) (ty_in h t)
  term_in h (Term.Unroll e) = Term.Unroll (term_in h e)

  pub fields_in : (ℕ → Head) → TermRow → TermRow
  fields_in h TermRow.End = TermRow.End
  fields_in h (TermRow.More l e rest) = TermRow.More l (term_in h e) (fields_in h rest)
