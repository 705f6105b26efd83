-- Where all variables are in scope, counting them modulo 2^64 gives the texts.
-- Main results: ty-counted, term-counted.
use Rattle.std.proofs.Common.{◌≡◌, ℕ, ◌+◌, ◌-◌, ◌%◌, ◌^◌, List, true, false, refl, ap, ap₂, arith}
use Rattle.std.specs.Prelude.{codes, decimal}
use Rattle.omega_kinds.specs.Text.{◌then◌}
use Rattle.omega_types.specs.Ty.{Ty, Row}
use Rattle.omega_terms.specs.Term.{Term, TermRow}
use Rattle.omega_terms.specs.InScope.{IndexInScope, TyInScope, RowInScope, TermInScope, TermRowInScope}
use Rattle.omega_terms.specs.KindText.{kind_text, label_text}
use Rattle.omega_terms.specs.TypeText.{level_text, ty_text, row_text}
use Rattle.omega_terms.specs.TermText.{op_front, term_text, term_row_text}
use Rattle.omega_write.specs.Inner.Counted.{level_in, next_in, counted_ty, counted_row, counted_term, counted_term_row}
use Rattle.omega_write.specs.Inner.Pieces.{one_text, two_text, three_text, case_text}

-- c counts n modulo 2^64
abbrev pub Counts : (c n : ℕ) → Type 0
Counts c n = c ≡ n % 2 ^ 64

level-exact : (c n i : ℕ) → Counts c n → IndexInScope n i → level_in c i ≡ n - (i + 1)
level-exact c n i e s = let a = s.0 in let b = s.1 in omega arith

next-counts : (c n : ℕ) → Counts c n → Counts (next_in c) (n + 1)
next-counts c n e = omega arith

level-text : (c n i : ℕ) → Counts c n → IndexInScope n i → decimal (level_in c i) ≡ level_text n i
level-text c n i e s = ap decimal (level-exact c n i e s)

mutual
  -- a type in scope, written by counting binders, is its text
  pub ty-counted : (c n : ℕ) (t : Ty) → Counts c n → TyInScope n t → counted_ty c t ≡ ty_text n t
  ty-counted c n (Ty.Var i) e s = ap (λ (w : List ℕ). codes "a" then w) (level-text c n i e s)
  ty-counted c n Ty.Int e s = refl
  ty-counted c n Ty.Bool e s = refl
  ty-counted c n Ty.Text e s = refl
  ty-counted c n (Ty.Arrow a b) e s = ap₂ (two_text (codes "(-> ")) (ty-counted c n a e s.0) (ty-counted c n b e s.1)
  ty-counted c n (Ty.Fields row) e s = ap (one_text (codes "(rec")) (row-counted c n row e s)
  ty-counted c n (Ty.Sum row) e s = ap (one_text (codes "(sum")) (row-counted c n row e s)
  ty-counted c n (Ty.All k b) e s =
      ap (two_text (codes "(all ") (kind_text k)) (ty-counted (next_in c) (n + 1) b (next-counts c n e) s)
  ty-counted c n (Ty.Ex k b) e s =
      ap (two_text (codes "(some ") (kind_text k)) (ty-counted (next_in c) (n + 1) b (next-counts c n e) s)
  ty-counted c n (Ty.Mu b) e s = ap (one_text (codes "(mu ")) (ty-counted (next_in c) (n + 1) b (next-counts c n e) s)
  ty-counted c n (Ty.Lam k b) e s =
      ap (two_text (codes "(lam ") (kind_text k)) (ty-counted (next_in c) (n + 1) b (next-counts c n e) s)
  ty-counted c n (Ty.Apply f a) e s = ap₂ (two_text (codes "(@ ")) (ty-counted c n f e s.0) (ty-counted c n a e s.1)

  row-counted : (c n : ℕ) (row : Row) → Counts c n → RowInScope n row → counted_row c row ≡ row_text n row
  row-counted c n Row.End e s = refl
  row-counted c n (Row.More l t rest) e s =
      ap₂ (λ (v w : List ℕ). codes " (" then label_text l then codes " " then v then codes ")" then w) (ty-counted c n t e s.0) (row-counted c n rest e s.1)

three : (front : List ℕ) {a b p q x y : List ℕ} → a ≡ b → p ≡ q → x ≡ y → three_text front a p x ≡ three_text front b q y
three front d e f = λ i. three_text front (d i) (e i) (f i)

case : {a b p q x y : List ℕ} → a ≡ b → p ≡ q → x ≡ y → case_text a p x ≡ case_text b q y
case d e f = λ i. case_text (d i) (e i) (f i)

mutual
  -- a term in scope, written by counting binders, is its text
  pub term-counted : (c d n m : ℕ) (e : Term) → Counts c n → Counts d m → TermInScope n m e → counted_term c d e ≡ term_text n m e
  term-counted c d n m (Term.Var i) u v s = ap (λ (w : List ℕ). codes "x" then w) (level-text d m i v s)
  term-counted c d n m (Term.Int z) u v s = refl
  term-counted c d n m (Term.Bool true) u v s = refl
  term-counted c d n m (Term.Bool false) u v s = refl
  term-counted c d n m (Term.Text x) u v s = refl
  term-counted c d n m (Term.Lam t e) u v s =
      ap₂ (two_text (codes "(fn ")) (ty-counted c n t u s.0) (term-counted c (next_in d) n (m + 1) e u (next-counts d m v) s.1)
  term-counted c d n m (Term.Call f a) u v s =
      ap₂ (two_text (codes "(call ")) (term-counted c d n m f u v s.0) (term-counted c d n m a u v s.1)
  term-counted c d n m (Term.TyLam k e) u v s =
      ap (two_text (codes "(tfn ") (kind_text k)) (term-counted (next_in c) d (n + 1) m e (next-counts c n u) v s)
  term-counted c d n m (Term.Inst e t) u v s =
      ap₂ (two_text (codes "(inst ")) (term-counted c d n m e u v s.0) (ty-counted c n t u s.1)
  term-counted c d n m (Term.Fields row) u v s =
      ap (one_text (codes "(rec")) (term_row-counted c d n m row u v s)
  term-counted c d n m (Term.Get e l) u v s =
      ap (λ (w : List ℕ). two_text (codes "(get ") w (label_text l)) (term-counted c d n m e u v s)
  term-counted c d n m (Term.Pack t e w) u v s =
      three (codes "(pack ") (ty-counted c n t u s.0) (term-counted c d n m e u v s.1) (ty-counted c n w u s.2)
  term-counted c d n m (Term.Unpack p e) u v s =
      ap₂ (two_text (codes "(open ")) (term-counted c d n m p u v s.0) (term-counted (next_in c) (next_in d) (n + 1) (m + 1) e (next-counts c n u) (next-counts d m v) s.1)
  term-counted c d n m (Term.If x y z) u v s =
      three (codes "(if ") (term-counted c d n m x u v s.0) (term-counted c d n m y u v s.1) (term-counted c d n m z u v s.2)
  term-counted c d n m (Term.Arith op a b) u v s =
      ap₂ (two_text (op_front op)) (term-counted c d n m a u v s.0) (term-counted c d n m b u v s.1)
  term-counted c d n m (Term.Fix t w e) u v s =
      three (codes "(fix ") (ty-counted c n t u s.0) (ty-counted c n w u s.1) (term-counted c (next_in (next_in d)) n (m + 2) e u (twice d m v) s.2)
    where
      twice : (d m : ℕ) → Counts d m → Counts (next_in (next_in d)) (m + 2)
      twice d m v = omega arith
  term-counted c d n m (Term.Inj l e t) u v s =
      ap₂ (three_text (codes "(inj ") (label_text l)) (term-counted c d n m e u v s.0) (ty-counted c n t u s.1)
  term-counted c d n m (Term.Case e t row) u v s =
      case (term-counted c d n m e u v s.0) (ty-counted c n t u s.1) (term_row-counted c (next_in d) n (m + 1) row u (next-counts d m v) s.2)
  term-counted c d n m (Term.Roll e t) u v s =
      ap₂ (two_text (codes "(roll ")) (term-counted c d n m e u v s.0) (ty-counted c n t u s.1)
  term-counted c d n m (Term.Unroll e) u v s = ap (one_text (codes "(unroll ")) (term-counted c d n m e u v s)

  term_row-counted : (c d n m : ℕ) (row : TermRow) → Counts c n → Counts d m → TermRowInScope n m row → counted_term_row c d row ≡ term_row_text n m row
  term_row-counted c d n m TermRow.End u v s = refl
  term_row-counted c d n m (TermRow.More l e rest) u v s =
      ap₂ (λ (x y : List ℕ). codes " (" then label_text l then codes " " then x then codes ")" then y) (term-counted c d n m e u v s.0) (term_row-counted c d n m rest u v s.1)
