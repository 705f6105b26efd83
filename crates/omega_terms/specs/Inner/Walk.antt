-- A walk over a term: f changes a type below so many binders of types, and g a variable below so many binders of types
-- and so many of terms. For example, the walk in which f i t = t, g i j n = Term.Var (n + 1) where j ≤ n, and g i j n = Term.Var n
-- elsewhere, raises the free variables by one.
use Rattle.std.specs.Prelude.{ℕ, ◌+◌}
use Rattle.omega_types.specs.Ty.{Ty}
use Rattle.omega_terms.specs.Term.{Term, TermRow}

abbrev mutual
  pub walked : (ℕ → Ty → Ty) → (ℕ → ℕ → ℕ → Term) → ℕ → ℕ → Term → Term
  walked f g i j (Term.Var n) = g i j n
  walked f g i j (Term.Int z) = Term.Int z
  walked f g i j (Term.Bool b) = Term.Bool b
  walked f g i j (Term.Text x) = Term.Text x
  walked f g i j (Term.Lam t e) = Term.Lam (f i t) (walked f g i (j + 1) e)
  walked f g i j (Term.Call d a) = Term.Call (walked f g i j d) (walked f g i j a)
  walked f g i j (Term.TyLam k e) = Term.TyLam k (walked f g (i + 1) j e)
  walked f g i j (Term.Inst e t) = Term.Inst (walked f g i j e) (f i t)
  walked f g i j (Term.Fields row) = Term.Fields (walked_row f g i j row)
  walked f g i j (Term.Get e l) = Term.Get (walked f g i j e) l
  walked f g i j (Term.Pack t e u) = Term.Pack (f i t) (walked f g i j e) (f i u)
  walked f g i j (Term.Unpack p e) = Term.Unpack (walked f g i j p) (walked f g (i + 1) (j + 1) e)
  walked f g i j (Term.If a b c) = Term.If (walked f g i j a) (walked f g i j b) (walked f g i j c)
  walked f g i j (Term.Arith o a b) = Term.Arith o (walked f g i j a) (walked f g i j b)
  walked f g i j (Term.Fix t u e) = Term.Fix (f i t) (f i u) (walked f g i (j + 1 + 1) e)
  walked f g i j (Term.Inj l e t) = Term.Inj l (walked f g i j e) (f i t)
  walked f g i j (Term.Case e t row) = Term.Case (walked f g i j e) (f i t) (walked_row f g i (j + 1) row)
  walked f g i j (Term.Roll e t) = Term.Roll (walked f g i j e) (f i t)
  walked f g i j (Term.Unroll e) = Term.Unroll (walked f g i j e)

  pub walked_row : (ℕ → Ty → Ty) → (ℕ → ℕ → ℕ → Term) → ℕ → ℕ → TermRow → TermRow
  walked_row f g i j TermRow.End = TermRow.End
  walked_row f g i j (TermRow.More l e rest) = TermRow.More l (walked f g i j e) (walked_row f g i j rest)
