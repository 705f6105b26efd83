-- Equality of types is decided by comparing them form by form.
-- Main results: same_ty-yes, same_ty-self, test-is.
use Rattle.std.proofs.Common.{◌≡◌, ◌↔◌, Bool as Truth, true, ◌&&◌, IsTrue, refl, ap, ap₂, subst, eqb-true, eq-eqb}
use Rattle.std.proofs.lemmas.Bool.{and_parts, and_from}
use Rattle.std.specs.Ordering.{is_eq}
use Rattle.omega_kinds.specs.Kind.{kind_eq}
use Rattle.omega_kinds.specs.LabelOrder.{label_cmp}
use Rattle.omega_kinds.proofs.LabelLaws.{label-yes, label-self}
use Rattle.omega_types.specs.Ty.{Ty, Row}
use Rattle.type_store.specs.Inner.ShapeLaws.{kind_eq-yes, kind_eq-self, no, truths}
use Rattle.omega_node_laws.specs.SameTy.{same_ty, same_row}

mutual
  -- types that the test takes for the same are the same
  pub same_ty-yes : (s t : Ty) → same_ty s t ≡ true → s ≡ t
  same_ty-yes (Ty.Var i) (Ty.Var j) e = ap Ty.Var (eqb-true i j e)
  same_ty-yes Ty.Int Ty.Int e = refl
  same_ty-yes Ty.Bool Ty.Bool e = refl
  same_ty-yes Ty.Text Ty.Text e = refl
  same_ty-yes (Ty.Arrow a b) (Ty.Arrow c d) e =
      let p = and_parts (same_ty a c) (same_ty b d) e in ap₂ Ty.Arrow (same_ty-yes a c p.0) (same_ty-yes b d p.1)
  same_ty-yes (Ty.Fields r) (Ty.Fields q) e = ap Ty.Fields (same_row-yes r q e)
  same_ty-yes (Ty.Sum r) (Ty.Sum q) e = ap Ty.Sum (same_row-yes r q e)
  same_ty-yes (Ty.All j a) (Ty.All k b) e =
      let p = and_parts (kind_eq j k) (same_ty a b) e in ap₂ Ty.All (kind_eq-yes j k p.0) (same_ty-yes a b p.1)
  same_ty-yes (Ty.Ex j a) (Ty.Ex k b) e =
      let p = and_parts (kind_eq j k) (same_ty a b) e in ap₂ Ty.Ex (kind_eq-yes j k p.0) (same_ty-yes a b p.1)
  same_ty-yes (Ty.Mu a) (Ty.Mu b) e = ap Ty.Mu (same_ty-yes a b e)
  same_ty-yes (Ty.Lam j a) (Ty.Lam k b) e =
      let p = and_parts (kind_eq j k) (same_ty a b) e in ap₂ Ty.Lam (kind_eq-yes j k p.0) (same_ty-yes a b p.1)
  same_ty-yes (Ty.Apply a b) (Ty.Apply c d) e =
      let p = and_parts (same_ty a c) (same_ty b d) e in ap₂ Ty.Apply (same_ty-yes a c p.0) (same_ty-yes b d p.1)
  same_ty-yes _ _ e = no e

  same_row-yes : (r q : Row) → same_row r q ≡ true → r ≡ q
  same_row-yes Row.End Row.End e = refl
  same_row-yes (Row.More l t r) (Row.More m u q) e =
      let p = and_parts (is_eq (label_cmp l m)) (same_ty t u && same_row r q) e in
      let o = and_parts (same_ty t u) (same_row r q) p.1 in
      λ i. Row.More (label-yes l m p.0 i) (same_ty-yes t u o.0 i) (same_row-yes r q o.1 i)
  same_row-yes _ _ e = no e

mutual
  -- the test takes each type for the same as itself
  pub same_ty-self : (t : Ty) → same_ty t t ≡ true
  same_ty-self (Ty.Var i) = eq-eqb i i refl
  same_ty-self Ty.Int = refl
  same_ty-self Ty.Bool = refl
  same_ty-self Ty.Text = refl
  same_ty-self (Ty.Arrow a b) = and_from (same_ty a a) (same_ty b b) (same_ty-self a) (same_ty-self b)
  same_ty-self (Ty.Fields r) = same_row-self r
  same_ty-self (Ty.Sum r) = same_row-self r
  same_ty-self (Ty.All k b) = and_from (kind_eq k k) (same_ty b b) (kind_eq-self k) (same_ty-self b)
  same_ty-self (Ty.Ex k b) = and_from (kind_eq k k) (same_ty b b) (kind_eq-self k) (same_ty-self b)
  same_ty-self (Ty.Mu b) = same_ty-self b
  same_ty-self (Ty.Lam k b) = and_from (kind_eq k k) (same_ty b b) (kind_eq-self k) (same_ty-self b)
  same_ty-self (Ty.Apply f a) = and_from (same_ty f f) (same_ty a a) (same_ty-self f) (same_ty-self a)

  same_row-self : (r : Row) → same_row r r ≡ true
  same_row-self Row.End = refl
  same_row-self (Row.More l t r) =
      and_from (is_eq (label_cmp l l)) (same_ty t t && same_row r r) (label-self l) (and_from (same_ty t t) (same_row r r) (same_ty-self t) (same_row-self r))

pub same_ty-of : (s t : Ty) → s ≡ t → same_ty s t ≡ true
same_ty-of s t e = subst (λ u. same_ty s u ≡ true) e (same_ty-self s)

-- a test that is exact is this one
pub test-is : (b : Truth) (s t : Ty) → (IsTrue b ↔ s ≡ t) → b ≡ same_ty s t
test-is b s t e = truths b (same_ty s t) (λ p. same_ty-of s t (e.0 p)) (λ p. e.1 (same_ty-yes s t p))
