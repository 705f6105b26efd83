-- A field sought by halving among fields that rise.
-- Main results: sought-found, sought-none.
use Rattle.std.proofs.Common.{◌≡◌, ℕ, zero, suc, ◌+◌, ◌<◌, ◌≤◌, [], ◌∷◌, length, get_or, take, drop, IsTrue, sym, subst, arith}
use Rattle.std.specs.Prelude.{◌⊎◌}
use Rattle.std.proofs.Math.Logic.{inl, inr}
use Rattle.omega_kinds.specs.LabelOrder.{name_before}
use Rattle.omega_kinds.specs.Name.{Name}
use Rattle.omega_kinds.proofs.NameLaws.{name-irreflexive, name-transitive, name-total}
use Rattle.sig_definitions.specs.Signatures.Sig.{Sig, HasField, NoField, here, there}
use Rattle.semantic_sigs.specs.Inner.Fields.{SigPairs, sig_row, Rises}

rise-tail : (x : Name × Sig) (xs : SigPairs) → Rises (x ∷ xs) → Rises xs
rise-tail x [] r = tt
rise-tail x (y ∷ ys) r = r.1

first-before : (x : Name × Sig) (xs : SigPairs) (i : ℕ) (d : Name × Sig) → Rises (x ∷ xs) → i < length xs → IsTrue (name_before x.0 (get_or xs i d).0)
first-before x [] i d r lt = absurd (omega (arith, lt))
first-before x (y ∷ ys) zero d r lt = r.0
first-before x (y ∷ ys) (suc i) d r lt = name-transitive x.0 y.0 (get_or ys i d).0 r.0 (first-before y ys i d r.1 (omega (arith, lt)))

has-at : (xs : SigPairs) (i : ℕ) (d : Name × Sig) → Rises xs → i < length xs → HasField (sig_row xs) (get_or xs i d).0 (get_or xs i d).1
has-at [] i d r lt = absurd (omega (arith, lt))
has-at (x ∷ xs) zero d r lt = here
has-at (x ∷ xs) (suc i) d r lt =
    there (λ e. name-irreflexive x.0 (subst (λ z. IsTrue (name_before x.0 z)) e (first-before x xs i d r (omega (arith, lt))))) (has-at xs i d (rise-tail x xs r) (omega (arith, lt)))

none-from : (x : Name × Sig) (xs : SigPairs) (l : Name) → Rises (x ∷ xs) → IsTrue (name_before l x.0) → NoField l (sig_row (x ∷ xs))
none-from x [] l r b = (λ e. name-irreflexive x.0 (subst (λ z. IsTrue (name_before z x.0)) e b), tt)
none-from x (y ∷ ys) l r b = (λ e. name-irreflexive x.0 (subst (λ z. IsTrue (name_before z x.0)) e b), none-from y ys l r.1 (name-transitive l x.0 y.0 b r.0))

none-after : (xs : SigPairs) (i : ℕ) (d : Name × Sig) (l : Name) → Rises xs → i < length xs → IsTrue (name_before l (get_or xs i d).0) → NoField l (sig_row (drop i xs))
none-after [] i d l r lt b = absurd (omega (arith, lt))
none-after (x ∷ xs) zero d l r lt b = none-from x xs l r b
none-after (x ∷ xs) (suc i) d l r lt b = none-after xs i d l (rise-tail x xs r) (omega (arith, lt)) b

none-before : (xs : SigPairs) (i : ℕ) (d : Name × Sig) (l : Name) → Rises xs → i < length xs → IsTrue (name_before (get_or xs i d).0 l) → NoField l (sig_row (take (suc i) xs))
none-before [] i d l r lt b = absurd (omega (arith, lt))
none-before (x ∷ xs) zero d l r lt b = (λ e. name-irreflexive x.0 (subst (λ z. IsTrue (name_before x.0 z)) e b), tt)
none-before (x ∷ xs) (suc i) d l r lt b =
    (λ e. name-irreflexive x.0 (subst (λ z. IsTrue (name_before x.0 z)) e (name-transitive x.0 (get_or xs i d).0 l (first-before x xs i d r (omega (arith, lt))) b)), none-before xs i d l (rise-tail x xs r) (omega (arith, lt)) b)

none-all : (xs : SigPairs) (i : ℕ) (l : Name) → NoField l (sig_row (take i xs)) → NoField l (sig_row (drop i xs)) → NoField l (sig_row xs)
none-all [] i l a b = tt
none-all (x ∷ xs) zero l a b = b
none-all (x ∷ xs) (suc i) l a b = (a.0, none-all xs i l a.1 b)

-- what each turn keeps: the name is not below low and not from high on
abbrev pub Sought : SigPairs → Name → (low high : ℕ) → Type 0
Sought xs l low high = (low ≤ high) × (high ≤ length xs) × NoField l (sig_row (take low xs)) × NoField l (sig_row (drop high xs))

-- the field at a place, if it has the name sought, is the field of the name
pub sought-found : (xs : SigPairs) (i : ℕ) (x : Name × Sig) (l : Name) → Rises xs → i < length xs → x ≡ get_or xs i x → l ≡ x.0 → HasField (sig_row xs) l x.1
sought-found xs i x l r lt e el = subst (λ m. HasField (sig_row xs) m x.1) (sym el) (subst (λ y. HasField (sig_row xs) y.0 y.1) (sym e) (has-at xs i x r lt))

-- a name before that of a field is not from this field on
pub sought-below : (xs : SigPairs) (i : ℕ) (x : Name × Sig) (l : Name) (low high : ℕ) → Rises xs → i < length xs → x ≡ get_or xs i x → low ≤ i → IsTrue (name_before l x.0) → Sought xs l low high → Sought xs l low i
sought-below xs i x l low high r lt e le b s = (le, omega (arith, lt), s.2, none-after xs i x l r lt (subst (λ y. IsTrue (name_before l y.0)) e b))

-- a name after that of a field is not up to this field
pub sought-above : (xs : SigPairs) (i : ℕ) (x : Name × Sig) (l : Name) (low high : ℕ) → Rises xs → i < length xs → x ≡ get_or xs i x → i < high → (l ≡ x.0 → ⊥) → (IsTrue (name_before l x.0) → ⊥) → Sought xs l low high → Sought xs l (i + 1) high
sought-above xs i x l low high r lt e le n b s =
    (omega (arith, le), s.1, subst (λ k. NoField l (sig_row (take k xs))) (sym (one i)) (none-before xs i x l r lt (subst (λ y. IsTrue (name_before y.0 l)) e (other (name-total l x.0)))), s.3)
  where
    one : (i : ℕ) → i + 1 ≡ suc i
    one i = omega arith

    other : (l ≡ x.0) ⊎ (IsTrue (name_before l x.0) ⊎ IsTrue (name_before x.0 l)) → IsTrue (name_before x.0 l)
    other (inl f) = absurd (n f)
    other (inr (inl f)) = absurd (b f)
    other (inr (inr f)) = f

-- where nothing is left between the bounds, the name has no field
pub sought-none : (xs : SigPairs) (l : Name) (low high : ℕ) → high ≤ low → Sought xs l low high → NoField l (sig_row xs)
sought-none xs l low high le s = none-all xs low l s.2 (subst (λ k. NoField l (sig_row (drop k xs))) (omega (arith, le, s.0)) s.3)
