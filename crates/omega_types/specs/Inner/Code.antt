-- The code of a type's tree: a tree of numbers that gives it back.
use Rattle.std.specs.Prelude.{◌≡◌, ℕ, zero, suc, List, refl}
use base.Stored.{Gv, gnil, gnum, gcons}
use denote.Struct.Codes.{itself}
use Rattle.std.specs.Coded.{Coded, code_by, coded_list, coded×}
use Rattle.omega_kinds.specs.declared.label.Label.{Label}
use Rattle.omega_kinds.specs.Inner.Code.{stored_kind, restored_kind, restored-stored_kind, stored_label, restored_label, restored-stored_label, label_code}
use Rattle.omega_types.specs.Ty.{Ty, Row}

abbrev mutual
  pub stored : Ty → Gv
  stored (Ty.Var n) = gnum (suc (suc (suc n)))
  stored Ty.Int = gnum 0
  stored Ty.Bool = gnum 1
  stored Ty.Text = gnum 2
  stored (Ty.Arrow a b) = gcons (gnum 0) (gcons (stored a) (stored b))
  stored (Ty.Fields r) = gcons (gnum 1) (stored_row r)
  stored (Ty.Sum r) = gcons (gnum 6) (stored_row r)
  stored (Ty.All k b) = gcons (gnum 2) (gcons (stored_kind k) (stored b))
  stored (Ty.Ex k b) = gcons (gnum 3) (gcons (stored_kind k) (stored b))
  stored (Ty.Mu b) = gcons (gnum 7) (gcons gnil (stored b))
  stored (Ty.Lam k b) = gcons (gnum 4) (gcons (stored_kind k) (stored b))
  stored (Ty.Apply f a) = gcons (gnum 5) (gcons (stored f) (stored a))

  pub stored_row : Row → Gv
  stored_row Row.End = gnil
  stored_row (Row.More l t r) = gcons (stored_label l) (gcons (stored t) (stored_row r))

abbrev pub leaf : ℕ → Ty
leaf zero = Ty.Int
leaf (suc zero) = Ty.Bool
leaf (suc (suc zero)) = Ty.Text
leaf (suc (suc (suc n))) = Ty.Var n

abbrev pub pick : ℕ → Ty → Ty → Ty → Ty → Ty → Ty → Ty → Ty → Ty
pick zero a b c d e f g h = a
pick (suc zero) a b c d e f g h = b
pick (suc (suc zero)) a b c d e f g h = c
pick (suc (suc (suc zero))) a b c d e f g h = d
pick (suc (suc (suc (suc zero)))) a b c d e f g h = e
pick (suc (suc (suc (suc (suc zero))))) a b c d e f g h = f
pick (suc (suc (suc (suc (suc (suc zero)))))) a b c d e f g h = g
pick (suc (suc (suc (suc (suc (suc (suc n))))))) a b c d e f g h = h

-- a former over no fields
abbrev pub pick_empty : ℕ → Ty
pick_empty n = pick n Ty.Int (Ty.Fields Row.End) Ty.Int Ty.Int Ty.Int Ty.Int (Ty.Sum Row.End) Ty.Int

-- restored tells the form by the number in front
abbrev mutual
  pub restored : Gv → Ty
  restored gnil = Ty.Int
  restored (gnum n) = leaf n
  restored (gcons gnil b) = Ty.Int
  restored (gcons (gcons a c) b) = Ty.Int
  restored (gcons (gnum n) gnil) = pick_empty n
  restored (gcons (gnum n) (gnum m)) = Ty.Int
  restored (gcons (gnum n) (gcons a b)) =
      pick n (Ty.Arrow (restored a) (restored b)) (Ty.Fields (restored_row (gcons a b))) (Ty.All (restored_kind a) (restored b)) (Ty.Ex (restored_kind a) (restored b)) (Ty.Lam (restored_kind a) (restored b)) (Ty.Apply (restored a) (restored b)) (Ty.Sum (restored_row (gcons a b))) (Ty.Mu (restored b))

  pub restored_row : Gv → Row
  restored_row gnil = Row.End
  restored_row (gnum n) = Row.End
  restored_row (gcons a gnil) = Row.End
  restored_row (gcons a (gnum n)) = Row.End
  restored_row (gcons a (gcons b c)) = Row.More (restored_label a) (restored b) (restored_row c)

mutual
  pub restored-stored : (t : Ty) → restored (stored t) ≡ t
  restored-stored (Ty.Var n) = refl
  restored-stored Ty.Int = refl
  restored-stored Ty.Bool = refl
  restored-stored Ty.Text = refl
  restored-stored (Ty.Arrow a b) = λ i. Ty.Arrow (restored-stored a i) (restored-stored b i)
  restored-stored (Ty.Fields Row.End) = refl
  restored-stored (Ty.Fields (Row.More l t r)) = λ i. Ty.Fields (restored-stored_row (Row.More l t r) i)
  restored-stored (Ty.Sum Row.End) = refl
  restored-stored (Ty.Sum (Row.More l t r)) = λ i. Ty.Sum (restored-stored_row (Row.More l t r) i)
  restored-stored (Ty.All k b) = λ i. Ty.All (restored-stored_kind k i) (restored-stored b i)
  restored-stored (Ty.Ex k b) = λ i. Ty.Ex (restored-stored_kind k i) (restored-stored b i)
  restored-stored (Ty.Mu b) = λ i. Ty.Mu (restored-stored b i)
  restored-stored (Ty.Lam k b) = λ i. Ty.Lam (restored-stored_kind k i) (restored-stored b i)
  restored-stored (Ty.Apply f a) = λ i. Ty.Apply (restored-stored f i) (restored-stored a i)

  pub restored-stored_row : (r : Row) → restored_row (stored_row r) ≡ r
  restored-stored_row Row.End = refl
  restored-stored_row (Row.More l t r) =
      λ i. Row.More (restored-stored_label l i) (restored-stored t i) (restored-stored_row r i)

abbrev pub ty_code : Coded Ty
ty_code = code_by Gv itself stored restored restored-stored

abbrev pub pairs_code : Coded (List (Label × Ty))
pairs_code = coded_list (coded× label_code ty_code)
