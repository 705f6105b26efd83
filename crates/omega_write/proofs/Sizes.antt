-- How much there is to write.
use Rattle.std.specs.Prelude.{ℕ, ◌+◌, ◌*◌, List, [], ◌∷◌}
use Rattle.omega_kinds.specs.Kind.{Kind}
use Rattle.omega_kinds.specs.View.{kind_tree}
use Rattle.omega_types.specs.Ty.{Ty, Row}
use Rattle.omega_types.specs.Fields.{row}
use Rattle.omega_terms.specs.Term.{Term, TermRow}
use Rattle.omega_terms.specs.Fields.{term_row}
use Rattle.omega_write.specs.declared.trees.Piece.{Piece}
use Rattle.omega_write.specs.declared.trees.Piece.TheVariants as piece

-- the size of a kind
abbrev pub kind_size : Kind → ℕ
kind_size Kind.Star = 1
kind_size (Kind.Arrow a b) = kind_size a + kind_size b + 1

abbrev mutual
  -- the size of a type, as the writer counts it
  pub ty_size : Ty → ℕ
  ty_size (Ty.Var i) = 1
  ty_size Ty.Int = 1
  ty_size Ty.Bool = 1
  ty_size Ty.Text = 1
  ty_size (Ty.Arrow a b) = ty_size a + ty_size b + 1
  ty_size (Ty.Fields row) = row_size row + 1
  ty_size (Ty.Sum row) = row_size row + 1
  ty_size (Ty.All k b) = kind_size k + ty_size b + 1
  ty_size (Ty.Ex k b) = kind_size k + ty_size b + 1
  ty_size (Ty.Mu b) = ty_size b + 1
  ty_size (Ty.Lam k b) = kind_size k + ty_size b + 1
  ty_size (Ty.Apply f a) = ty_size f + ty_size a + 1

  -- the size of a row of types
  pub row_size : Row → ℕ
  row_size Row.End = 0
  row_size (Row.More l t rest) = ty_size t + row_size rest + 1

abbrev mutual
  -- the size of a term, as the writer counts it
  pub term_size : Term → ℕ
  term_size (Term.Var i) = 1
  term_size (Term.Int z) = 1
  term_size (Term.Bool b) = 1
  term_size (Term.Text s) = 1
  term_size (Term.Lam t e) = ty_size t + term_size e + 1
  term_size (Term.Call f a) = term_size f + term_size a + 1
  term_size (Term.TyLam k e) = kind_size k + term_size e + 1
  term_size (Term.Inst e t) = term_size e + ty_size t + 1
  term_size (Term.Fields row) = term_row_size row + 1
  term_size (Term.Get e l) = term_size e + 1
  term_size (Term.Pack t e u) = ty_size t + term_size e + ty_size u + 1
  term_size (Term.Unpack p e) = term_size p + term_size e + 1
  term_size (Term.If a b c) = term_size a + term_size b + term_size c + 1
  term_size (Term.Arith op a b) = term_size a + term_size b + 1
  term_size (Term.Fix t u e) = ty_size t + ty_size u + term_size e + 1
  term_size (Term.Inj l e t) = term_size e + ty_size t + 1
  term_size (Term.Case e t row) = term_size e + ty_size t + term_row_size row + 1
  term_size (Term.Roll e t) = term_size e + ty_size t + 1
  term_size (Term.Unroll e) = term_size e + 1

  -- the size of a row of terms
  pub term_row_size : TermRow → ℕ
  term_row_size TermRow.End = 0
  term_row_size (TermRow.More l e rest) = term_size e + term_row_size rest + 1

-- how much is in a piece yet: eight for each node, and one for the call of the piece
abbrev pub weight : Piece → ℕ
weight (piece.Bytes b) = 0
weight (piece.Number n) = 0
weight (piece.Text b) = 0
weight (piece.Label l) = 0
weight (piece.Kind k) = 8 * kind_size (kind_tree k.now) + 1
weight (piece.Ty n t) = 8 * ty_size t.now + 1
weight (piece.TyFields n f) = 8 * row_size (row f.now) + 1
weight (piece.Term here e) = 8 * term_size e.now + 1
weight (piece.TermFields here f) = 8 * term_row_size (term_row f.now) + 1

-- the weight of pieces that are still to be written
abbrev pub weights : List Piece → ℕ
weights [] = 0
weights (p ∷ ps) = weight p + weights ps
