-- The code of a term's tree: a tree of numbers that gives it back.
use Rattle.std.specs.Prelude.{◌≡◌, ℕ, zero, suc, List, true, false, pos, negsuc, refl}
use base.Stored.{Gv, gnil, gnum, gcons}
use denote.Struct.Codes.{itself}
use Rattle.std.specs.Coded.{Coded, code_by, coded_list, coded×}
use Rattle.omega_kinds.specs.declared.label.Label.{Label}
use Rattle.omega_kinds.specs.Inner.Code.{stored_kind, restored_kind, restored-stored_kind, stored_bytes, restored_bytes, restored-stored_bytes, stored_label, restored_label, restored-stored_label, label_code}
use Rattle.omega_types.specs.Inner.Code.{stored as stored_ty, restored as restored_ty, restored-stored as restored-stored_ty}
use Rattle.omega_terms.specs.declared.op.Op.{Op}
use Rattle.omega_terms.specs.Term.{Term, TermRow}

-- A number alone is a variable. Any other term is a pair, and the first half of the pair tells the forms apart.
-- Where it is a number, a literal's number or two parts stand behind it.
-- Where it is empty, a text, fields or one part stand behind it.
-- Where it is a pair, two parts stand behind it. That pair is a number with a part, nothing with a label,
-- or two of nothing with a part.
abbrev mutual
  pub stored : Term → Gv
  stored (Term.Var i) = gnum i
  stored (Term.Int (pos n)) = gcons (gnum 0) (gnum n)
  stored (Term.Int (negsuc n)) = gcons (gnum 1) (gnum n)
  stored (Term.Bool false) = gcons (gnum 2) (gnum 0)
  stored (Term.Bool true) = gcons (gnum 3) (gnum 0)
  stored (Term.Text s) = gcons gnil (gcons gnil (stored_bytes s))
  stored (Term.Fields row) = gcons gnil (gcons (gnum 0) (stored_row row))
  stored (Term.Lam t e) = gcons (gnum 0) (gcons (stored_ty t) (stored e))
  stored (Term.Call f a) = gcons (gnum 1) (gcons (stored f) (stored a))
  stored (Term.TyLam k e) = gcons (gnum 2) (gcons (stored_kind k) (stored e))
  stored (Term.Inst e t) = gcons (gnum 3) (gcons (stored e) (stored_ty t))
  stored (Term.Get e l) = gcons (gnum 4) (gcons (stored e) (stored_label l))
  stored (Term.Unpack p e) = gcons (gnum 5) (gcons (stored p) (stored e))
  stored (Term.Pack t e u) = gcons (gcons (gnum 0) (stored_ty t)) (gcons (stored e) (stored_ty u))
  stored (Term.If a b c) = gcons (gcons (gnum 1) (stored a)) (gcons (stored b) (stored c))
  stored (Term.Fix t u e) = gcons (gcons (gnum 2) (stored_ty t)) (gcons (stored_ty u) (stored e))
  stored (Term.Arith Op.Add a b) = gcons (gcons (gnum 3) gnil) (gcons (stored a) (stored b))
  stored (Term.Arith Op.Sub a b) = gcons (gcons (gnum 4) gnil) (gcons (stored a) (stored b))
  stored (Term.Arith Op.Mul a b) = gcons (gcons (gnum 5) gnil) (gcons (stored a) (stored b))
  stored (Term.Arith Op.Div a b) = gcons (gcons (gnum 6) gnil) (gcons (stored a) (stored b))
  stored (Term.Arith Op.Rem a b) = gcons (gcons (gnum 7) gnil) (gcons (stored a) (stored b))
  stored (Term.Arith Op.Less a b) = gcons (gcons (gnum 8) gnil) (gcons (stored a) (stored b))
  stored (Term.Arith Op.Equal a b) = gcons (gcons (gnum 9) gnil) (gcons (stored a) (stored b))
  stored (Term.Inj l e t) = gcons (gcons gnil (stored_label l)) (gcons (stored e) (stored_ty t))
  stored (Term.Case e t row) = gcons (gcons (gcons gnil gnil) (stored e)) (gcons (stored_ty t) (stored_row row))
  stored (Term.Roll e t) = gcons (gnum 6) (gcons (stored e) (stored_ty t))
  stored (Term.Unroll e) = gcons gnil (gcons (gcons gnil gnil) (stored e))

  pub stored_row : TermRow → Gv
  stored_row TermRow.End = gnil
  stored_row (TermRow.More l e rest) = gcons (stored_label l) (gcons (stored e) (stored_row rest))

abbrev pub restored_literal : (tag n : ℕ) → Term
restored_literal zero n = Term.Int (pos n)
restored_literal (suc zero) n = Term.Int (negsuc n)
restored_literal (suc (suc zero)) n = Term.Bool false
restored_literal (suc (suc (suc m))) n = Term.Bool true

abbrev pub restored_two : ℕ → (lam call ty_lam inst get unpack roll : Term) → Term
restored_two zero a b c d e f g = a
restored_two (suc zero) a b c d e f g = b
restored_two (suc (suc zero)) a b c d e f g = c
restored_two (suc (suc (suc zero))) a b c d e f g = d
restored_two (suc (suc (suc (suc zero)))) a b c d e f g = e
restored_two (suc (suc (suc (suc (suc zero))))) a b c d e f g = f
restored_two (suc (suc (suc (suc (suc (suc n)))))) a b c d e f g = g

abbrev pub restored_op : ℕ → Op
restored_op zero = Op.Add
restored_op (suc zero) = Op.Sub
restored_op (suc (suc zero)) = Op.Mul
restored_op (suc (suc (suc zero))) = Op.Div
restored_op (suc (suc (suc (suc zero)))) = Op.Rem
restored_op (suc (suc (suc (suc (suc zero))))) = Op.Less
restored_op (suc (suc (suc (suc (suc (suc n)))))) = Op.Equal

abbrev pub restored_three : ℕ → (pack if_ fix : Term) → (left right : Term) → Term
restored_three zero a b c l r = a
restored_three (suc zero) a b c l r = b
restored_three (suc (suc zero)) a b c l r = c
restored_three (suc (suc (suc n))) a b c l r = Term.Arith (restored_op n) l r

-- any term where the tree is no code
abbrev mutual
  pub restored : Gv → Term
  restored gnil = Term.Var 0
  restored (gnum n) = Term.Var n
  restored (gcons gnil gnil) = Term.Var 0
  restored (gcons gnil (gnum n)) = Term.Var 0
  restored (gcons gnil (gcons gnil bytes)) = Term.Text (restored_bytes bytes)
  restored (gcons gnil (gcons (gnum n) row)) = Term.Fields (restored_row row)
  restored (gcons gnil (gcons (gcons a b) part)) = Term.Unroll (restored part)
  restored (gcons (gnum tag) gnil) = Term.Var 0
  restored (gcons (gnum tag) (gnum n)) = restored_literal tag n
  restored (gcons (gnum tag) (gcons a b)) =
      restored_two tag (Term.Lam (restored_ty a) (restored b)) (Term.Call (restored a) (restored b)) (Term.TyLam (restored_kind a) (restored b)) (Term.Inst (restored a) (restored_ty b)) (Term.Get (restored a) (restored_label b)) (Term.Unpack (restored a) (restored b)) (Term.Roll (restored a) (restored_ty b))
  restored (gcons (gcons gnil a) gnil) = Term.Var 0
  restored (gcons (gcons gnil a) (gnum n)) = Term.Var 0
  restored (gcons (gcons gnil a) (gcons b c)) = Term.Inj (restored_label a) (restored b) (restored_ty c)
  restored (gcons (gcons (gcons x y) a) gnil) = Term.Var 0
  restored (gcons (gcons (gcons x y) a) (gnum n)) = Term.Var 0
  restored (gcons (gcons (gcons x y) a) (gcons b c)) = Term.Case (restored a) (restored_ty b) (restored_row c)
  restored (gcons (gcons (gnum tag) a) gnil) = Term.Var 0
  restored (gcons (gcons (gnum tag) a) (gnum n)) = Term.Var 0
  restored (gcons (gcons (gnum tag) a) (gcons b c)) =
      restored_three tag (Term.Pack (restored_ty a) (restored b) (restored_ty c)) (Term.If (restored a) (restored b) (restored c)) (Term.Fix (restored_ty a) (restored_ty b) (restored c)) (restored b) (restored c)

  pub restored_row : Gv → TermRow
  restored_row gnil = TermRow.End
  restored_row (gnum n) = TermRow.End
  restored_row (gcons a gnil) = TermRow.End
  restored_row (gcons a (gnum n)) = TermRow.End
  restored_row (gcons a (gcons b c)) = TermRow.More (restored_label a) (restored b) (restored_row c)

mutual
  pub restored-stored : (e : Term) → restored (stored e) ≡ e
  restored-stored (Term.Var i) = refl
  restored-stored (Term.Int (pos n)) = refl
  restored-stored (Term.Int (negsuc n)) = refl
  restored-stored (Term.Bool false) = refl
  restored-stored (Term.Bool true) = refl
  restored-stored (Term.Text s) = λ i. Term.Text (restored-stored_bytes s i)
  restored-stored (Term.Fields row) = λ i. Term.Fields (restored-stored_row row i)
  restored-stored (Term.Lam t e) = λ i. Term.Lam (restored-stored_ty t i) (restored-stored e i)
  restored-stored (Term.Call f a) = λ i. Term.Call (restored-stored f i) (restored-stored a i)
  restored-stored (Term.TyLam k e) = λ i. Term.TyLam (restored-stored_kind k i) (restored-stored e i)
  restored-stored (Term.Inst e t) = λ i. Term.Inst (restored-stored e i) (restored-stored_ty t i)
  restored-stored (Term.Get e l) = λ i. Term.Get (restored-stored e i) (restored-stored_label l i)
  restored-stored (Term.Unpack p e) = λ i. Term.Unpack (restored-stored p i) (restored-stored e i)
  restored-stored (Term.Pack t e u) =
      λ i. Term.Pack (restored-stored_ty t i) (restored-stored e i) (restored-stored_ty u i)
  restored-stored (Term.If a b c) = λ i. Term.If (restored-stored a i) (restored-stored b i) (restored-stored c i)
  restored-stored (Term.Fix t u e) =
      λ i. Term.Fix (restored-stored_ty t i) (restored-stored_ty u i) (restored-stored e i)
  restored-stored (Term.Arith Op.Add a b) = λ i. Term.Arith Op.Add (restored-stored a i) (restored-stored b i)
  restored-stored (Term.Arith Op.Sub a b) = λ i. Term.Arith Op.Sub (restored-stored a i) (restored-stored b i)
  restored-stored (Term.Arith Op.Mul a b) = λ i. Term.Arith Op.Mul (restored-stored a i) (restored-stored b i)
  restored-stored (Term.Arith Op.Div a b) = λ i. Term.Arith Op.Div (restored-stored a i) (restored-stored b i)
  restored-stored (Term.Arith Op.Rem a b) = λ i. Term.Arith Op.Rem (restored-stored a i) (restored-stored b i)
  restored-stored (Term.Arith Op.Less a b) = λ i. Term.Arith Op.Less (restored-stored a i) (restored-stored b i)
  restored-stored (Term.Arith Op.Equal a b) = λ i. Term.Arith Op.Equal (restored-stored a i) (restored-stored b i)
  restored-stored (Term.Inj l e t) =
      λ i. Term.Inj (restored-stored_label l i) (restored-stored e i) (restored-stored_ty t i)
  restored-stored (Term.Case e t row) =
      λ i. Term.Case (restored-stored e i) (restored-stored_ty t i) (restored-stored_row row i)
  restored-stored (Term.Roll e t) = λ i. Term.Roll (restored-stored e i) (restored-stored_ty t i)
  restored-stored (Term.Unroll e) = λ i. Term.Unroll (restored-stored e i)

  pub restored-stored_row : (row : TermRow) → restored_row (stored_row row) ≡ row
  restored-stored_row TermRow.End = refl
  restored-stored_row (TermRow.More l e rest) =
      λ i. TermRow.More (restored-stored_label l i) (restored-stored e i) (restored-stored_row rest i)

abbrev pub term_code : Coded Term
term_code = code_by Gv itself stored restored restored-stored

abbrev pub term_pairs_code : Coded (List (Label × Term))
term_pairs_code = coded_list (coded× label_code term_code)
