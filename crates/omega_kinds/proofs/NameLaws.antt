-- The order and the equality of names, from the order of labels.
-- Main results: name-irreflexive, name-transitive, name-total, dec_name.
use Rattle.std.specs.Prelude.{[], ◌∷◌, ◌≡◌, ◌⊎◌, ◌==◌, true, IsTrue}
use Rattle.std.proofs.Math.Logic.{inl, inr}
use Rattle.std.proofs.Math.Path.{refl, ap, ap₂, subst}
use Rattle.std.proofs.lemmas.Bool.{eqb-true, eq-eqb, and_parts, and_from, false≢true}
use Rattle.omega_kinds.specs.declared.label.Label.{Label}
use Rattle.omega_kinds.specs.Name.{Name, same_name}
use Rattle.omega_kinds.specs.LabelOrder.{LabelBefore, name_before, spelling}
use Rattle.omega_kinds.proofs.LabelLaws.{irreflexive, transitive, total_order}

-- no name comes before itself
pub name-irreflexive : (l : Name) → IsTrue (name_before l l) → ⊥
name-irreflexive l h = irreflexive (Label.Name l) h

-- a name before one that comes before a third comes before the third
pub name-transitive : (l m n : Name) → IsTrue (name_before l m) → IsTrue (name_before m n) → IsTrue (name_before l n)
name-transitive l m n g h = transitive (Label.Name l) (Label.Name m) (Label.Name n) g h

-- two names are the same, or one comes before the other
pub name-total : (l m : Name) → (l ≡ m) ⊎ (IsTrue (name_before l m) ⊎ IsTrue (name_before m l))
name-total l m = go (total_order (Label.Name l) (Label.Name m))
  where
    go : (Label.Name l ≡ Label.Name m) ⊎ (IsTrue (name_before l m) ⊎ IsTrue (name_before m l)) → (l ≡ m) ⊎ (IsTrue (name_before l m) ⊎ IsTrue (name_before m l))
    go (inl e) = inl (ap spelling e)
    go (inr h) = inr h

-- equality

-- whether two labels are the same is decided
pub dec_label : (l m : Label) → Dec (l ≡ m)
dec_label l m = go (total_order l m)
  where
    go : (l ≡ m) ⊎ (LabelBefore l m ⊎ LabelBefore m l) → Dec (l ≡ m)
    go (inl e) = yes e
    go (inr (inl h)) = no (λ e. irreflexive m (subst (λ x. LabelBefore x m) e h))
    go (inr (inr h)) = no (λ e. irreflexive m (subst (λ x. LabelBefore m x) e h))

-- whether two names are the same is decided
pub dec_name : (l m : Name) → Dec (l ≡ m)
dec_name l m = go (dec_label (Label.Name l) (Label.Name m))
  where
    go : Dec (Label.Name l ≡ Label.Name m) → Dec (l ≡ m)
    go (yes e) = yes (ap spelling e)
    go (no n) = no (λ e. n (ap Label.Name e))

-- names that pass the test for sameness are the same
pub same_name-true : (x y : Name) → same_name x y ≡ true → x ≡ y
same_name-true [] [] e = refl
same_name-true [] (b ∷ bs) e = absurd (false≢true e)
same_name-true (a ∷ xs) [] e = absurd (false≢true e)
same_name-true (a ∷ xs) (b ∷ bs) e = let p = and_parts (a == b) (same_name xs bs) e in ap₂ ◌∷◌ (eqb-true a b p.0) (same_name-true xs bs p.1)

-- a name passes the test for sameness with itself
pub same_name-itself : (x : Name) → same_name x x ≡ true
same_name-itself [] = refl
same_name-itself (a ∷ xs) = and_from (a == a) (same_name xs xs) (eq-eqb a a refl) (same_name-itself xs)
