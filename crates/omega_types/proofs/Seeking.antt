-- A field sought by halving among fields whose labels rise.
-- Main results: sought-at, sought-not.
use Rattle.std.proofs.Common.{◌≡◌, ℕ, zero, suc, ◌+◌, ◌<◌, List, [], ◌∷◌, false, if◌then◌else◌, Some, None, length, get_or, refl, ap, subst, ◌∙◌, arith}
use Rattle.std.specs.Ordering.{is_eq, is_lt, ordering_index, ordering_reverse}
use Rattle.std.specs.declared.cmp.Ordering.TheVariants.{Less, Equal, Greater}
use Rattle.std.specs.List.{HoldsAt}
use Rattle.std.specs.List.Sorted.{IsNonDecreasingBy, IsPartitionPoint}
use Rattle.std.proofs.Math.Logic.{inl, inr}
use Rattle.std.proofs.lemmas.Bool.{cases_lt}
use Rattle.std.proofs.lemmas.List.Sorted.{searchable_from_sorted}
use Rattle.omega_kinds.specs.declared.label.Label.{Label}
use Rattle.omega_kinds.specs.LabelOrder.{LabelBefore, label_cmp}
use Rattle.omega_kinds.proofs.LabelLaws.{label_exact, label_total, label-self, less_from_is_lt, transitive}
use Rattle.omega_types.specs.Fields.{Rises, at_label}

rises-tail : {T : Type 0} (x : Label × T) (xs : List (Label × T)) → Rises (x ∷ xs) → Rises xs
rises-tail x [] r = tt
rises-tail x (y ∷ ys) r = r.1

first-before : {T : Type 0} (x : Label × T) (xs : List (Label × T)) (i : ℕ) (d : Label × T) → Rises (x ∷ xs) → i < length xs → LabelBefore x.0 (get_or xs i d).0
first-before x [] i d r lt = absurd (omega arith)
first-before x (y ∷ ys) zero d r lt = r.0
first-before x (y ∷ ys) (suc i) d r lt = transitive x.0 y.0 (get_or ys i d).0 r.0 (first-before y ys i d r.1 (omega arith))

next-before : {T : Type 0} (xs : List (Label × T)) (i : ℕ) (d : Label × T) → Rises xs → suc i < length xs → LabelBefore (get_or xs i d).0 (get_or xs (suc i) d).0
next-before [] i d r lt = absurd (omega arith)
next-before (x ∷ xs) zero d r lt = first-before x xs zero d r (omega arith)
next-before (x ∷ xs) (suc i) d r lt = next-before xs i d (rises-tail x xs r) (omega arith)

not-after : (l m : Label) → LabelBefore l m → is_lt (label_cmp m l) ≡ false
not-after l m h = ap is_lt (label_total.antisymm m l ∙ ap ordering_reverse (less_from_is_lt (label_cmp l m) h))

-- along fields that rise, the comparisons with a label rise too
compared-rise : {T : Type 0} (xs : List (Label × T)) (l : Label) → Rises xs → IsNonDecreasingBy (λ (x : Label × T). ordering_index (label_cmp x.0 l)) xs
compared-rise xs l r =
    searchable_from_sorted label_total (λ x. x.0) xs l (λ k d low high.
    let next : suc k ≡ k + 1 = omega arith in
    not-after (get_or xs k d).0 (get_or xs (k + 1) d).0 (subst (λ n. LabelBefore (get_or xs k d).0 (get_or xs n d).0) next (next-before xs k d r (omega (arith, high)))))

other-label : (l m : Label) → LabelBefore l m → is_eq (label_cmp l m) ≡ false
other-label l m h = ap is_eq (less_from_is_lt (label_cmp l m) h)

at-place : {T : Type 0} (xs : List (Label × T)) (i : ℕ) (d : Label × T) → Rises xs → i < length xs → at_label xs (get_or xs i d).0 ≡ Some (get_or xs i d).1
at-place [] i d r lt = absurd (omega arith)
at-place (x ∷ xs) zero d r lt = ap (λ b. if b then Some x.1 else at_label xs x.0) (label-self x.0)
at-place (x ∷ xs) (suc i) d r lt =
    ap (λ b. if b then Some x.1 else at_label xs (get_or xs i d).0) (other-label x.0 (get_or xs i d).0 (first-before x xs i d r (omega arith)))
    ∙ at-place xs i d (rises-tail x xs r) (omega arith)

-- no field compares as equal
nowhere : {T : Type 0} (xs : List (Label × T)) (l : Label) → ((i : ℕ) (d : Label × T) → i < length xs → is_eq (label_cmp (get_or xs i d).0 l) ≡ false) → at_label xs l ≡ None
nowhere [] l h = refl
nowhere (x ∷ xs) l h =
    ap (λ b. if b then Some x.1 else at_label xs l) (h 0 x (omega arith)) ∙ nowhere xs l (λ i d lt. h (suc i) d (omega arith))

-- what a search by halving comes to
pub sought-at : {T : Type 0} (xs : List (Label × T)) (l : Label) (i : ℕ) → Rises xs → i < length xs → HoldsAt (λ (x : Label × T). label_cmp x.0 l ≡ Equal) xs i → (d : Label × T) → at_label xs l ≡ Some (get_or xs i d).1
sought-at xs l i rises lt found d = subst (λ m. at_label xs m ≡ Some (get_or xs i d).1) (label_exact (get_or xs i d).0 l (found d)) (at-place xs i d rises lt)

-- no field has the label where the search by halving ends between smaller and greater labels
pub sought-not : {T : Type 0} (xs : List (Label × T)) (l : Label) (i : ℕ) → Rises xs
    → (IsNonDecreasingBy (λ (x : Label × T). ordering_index (label_cmp x.0 l)) xs → IsPartitionPoint (λ x. label_cmp x.0 l ≡ Less) (λ x. label_cmp x.0 l ≡ Greater) xs i)
    → at_label xs l ≡ None
sought-not {T} xs l i rises parted = nowhere xs l differs
  where
    differs : (k : ℕ) (d : Label × T) → k < length xs → is_eq (label_cmp (get_or xs k d).0 l) ≡ false
    differs k d lt = elim (cases_lt k i) [
      | inl below ↦ ap is_eq ((parted (compared-rise xs l rises)).0 k d (omega arith) below)
      | inr above ↦ ap is_eq ((parted (compared-rise xs l rises)).1 k d above lt)
    ]
