-- The part of a numbered record or sum at a label, and parts beside the fields of a tree.
-- Main results: field-number, variant-number, must-be, all-same, all-fields.
use Rattle.std.proofs.Common.{◌≡◌, ◌<◌, ◌≤◌, ◌↔◌, ℕ, zero, suc, ◌+◌, List, [], ◌∷◌, Option, Some, Bool as Truth, true, false, IsTrue, if◌then◌else◌, length}
use Rattle.std.proofs.Common.{map, get_or, take, drop, refl, sym, ap, subst, ◌∙◌, arith, drop-cons}
use Rattle.std.proofs.lemmas.List.{drop_all}
use Rattle.std.proofs.Math.Seq.{take-length}
use Rattle.std.specs.Ordering.{is_eq}
use Rattle.omega_kinds.specs.LabelOrder.{label_cmp}
use Rattle.omega_kinds.specs.declared.label.Label.{Label}
use Rattle.omega_types.specs.Fields.{MayFollow, Pairs, Rises, row, at_label}
use Rattle.omega_types.specs.Inner.Size.{nodes, nodes_pairs}
use Rattle.omega_types.specs.Ty.{Ty, Row}
use Rattle.type_store.specs.Numbers.{NumberOf, part_at, field_type, variant_type}
use Rattle.type_store.specs.Shape.{Parts, Shape}
use Rattle.type_store.specs.Trees.{ArePartsBelow, IsBelow, at, row_at, tree_at}
use Rattle.type_store.proofs.TreeLaws.{parts_below-more}

-- ---- the part at a label

pub part-number : (ts : List Ty) (parts : Parts) (l : Label) → ArePartsBelow (length ts) parts → NumberOf ts (at_label parts l) (part_at (row_at ts parts) l)
part-number ts [] l h = tt
part-number ts (x ∷ xs) l h = by (is_eq (label_cmp x.0 l)) (part-number ts xs l h.1)
  where
    by : (b : Truth) → NumberOf ts (at_label xs l) (part_at (row_at ts xs) l)
        → NumberOf ts (if b then Some x.1 else at_label xs l) (if b then Some (at ts x.1) else part_at (row_at ts xs) l)
    by true rest = record { within = h.0; value = refl }
    by false rest = rest

-- the field of a record of which the number and the form are known
pub field-number : (ts : List Ty) (n : ℕ) (parts : Parts) (l : Label) (o : Option ℕ) → n < length ts → IsBelow n (Shape.Fields parts)
    → tree_at ts (Shape.Fields parts) ≡ at ts n → o ≡ at_label parts l
    → NumberOf ts o (field_type (at ts n) l)
field-number ts n parts l o w h e f =
    subst (λ p. NumberOf ts p (field_type (at ts n) l)) (sym f)
    (subst (λ t. NumberOf ts (at_label parts l) (field_type t l)) e (part-number ts parts l (parts_below-more n (length ts) parts (omega (arith, w)) h.0)))

-- the part of a sum of which the number and the form are known
pub variant-number : (ts : List Ty) (n : ℕ) (parts : Parts) (l : Label) (o : Option ℕ) → n < length ts → IsBelow n (Shape.Sum parts)
    → tree_at ts (Shape.Sum parts) ≡ at ts n → o ≡ at_label parts l
    → NumberOf ts o (variant_type (at ts n) l)
variant-number ts n parts l o w h e f =
    subst (λ p. NumberOf ts p (variant_type (at ts n) l)) (sym f)
    (subst (λ t. NumberOf ts (at_label parts l) (variant_type t l)) e (part-number ts parts l (parts_below-more n (length ts) parts (omega (arith, w)) h.0)))

-- ---- parts beside the fields of a tree, from one place on

-- the same row is made of as many parts
pub row_at-length : (ts : List Ty) (parts : Parts) (xs : Pairs) → row_at ts parts ≡ row xs → length parts ≡ length xs
row_at-length ts [] [] e = refl
row_at-length ts [] (y ∷ ys) e = absurd (cc)
row_at-length ts (x ∷ xs) [] e = absurd (cc)
row_at-length ts (x ∷ xs) (y ∷ ys) e = let rest : row_at ts xs ≡ row ys = cc in ap suc (row_at-length ts xs ys rest)

-- what is left of a list from a place on is the element there and what is left after it
pub after : {A : Type 0} (xs : List A) (i : ℕ) (x : A) → x ≡ get_or xs i x → i < length xs → drop i xs ≡ x ∷ drop (i + 1) xs
after xs i x e w =
    let next : suc i ≡ i + 1 = omega arith in
    drop-cons xs i x w ∙ (λ j. sym e j ∷ drop (next j) xs)

-- rows are the same only if their first labels, their first types and their rests are
pub tops : {l m : Label} {t u : Ty} {r q : Row} → Row.More l t r ≡ Row.More m u q → (l ≡ m) × (t ≡ u) × (r ≡ q)
tops e = (cc, cc, cc)

-- the rows from this place on, by the part and the field there
module _ (ts : List Ty) (parts : Parts) (xs : Pairs) (i : ℕ) (x : Label × ℕ) (y : Label × Ty) (e : x ≡ get_or parts i x) (f : y ≡ get_or xs i y)
    (w : i < length parts) (long : length parts ≡ length xs) where
  here : row_at ts (drop i parts) ≡ Row.More x.0 (at ts x.1) (row_at ts (drop (i + 1) parts))
  here = ap (row_at ts) (after parts i x e w)

  there : row (drop i xs) ≡ Row.More y.0 y.1 (row (drop (i + 1) xs))
  there = ap row (after xs i y f (omega (arith, w, long)))

  pub same-there : row_at ts (drop i parts) ≡ row (drop i xs) → (x.0 ≡ y.0) × (at ts x.1 ≡ y.1) × (row_at ts (drop (i + 1) parts) ≡ row (drop (i + 1) xs))
  same-there h = tops (sym here ∙ (h ∙ there))

  -- where a part is the field at its place, the rows are the same if and only if what comes after it is
  pub same-step : (row_at ts parts ≡ row xs ↔ row_at ts (drop i parts) ≡ row (drop i xs)) → x.0 ≡ y.0 → at ts x.1 ≡ y.1
      → (row_at ts parts ≡ row xs ↔ row_at ts (drop (i + 1) parts) ≡ row (drop (i + 1) xs))
  same-step h p q = (λ a. (same-there (h.0 a)).2, λ r. h.1 (here ∙ ((λ j. Row.More (p j) (q j) (r j)) ∙ sym there)))

  -- where the rows are the same, the part at a place has the label and the type of the field there
  pub must-be : (ys : Pairs) → xs ≡ ys → (row_at ts parts ≡ row xs ↔ row_at ts (drop i parts) ≡ row (drop i xs)) → row_at ts parts ≡ row ys
      → (x.0 ≡ y.0) × (at ts x.1 ≡ y.1)
  must-be ys g h a = let s = same-there (h.0 (a ∙ ap row (sym g))) in (s.0, s.1)

-- rows of one length that are the same up to their ends are the same
pub all-same : (ts : List Ty) (parts : Parts) (xs ys : Pairs) (i : ℕ) → xs ≡ ys → length parts ≤ i → length parts ≡ length xs
    → (row_at ts parts ≡ row xs ↔ row_at ts (drop i parts) ≡ row (drop i xs)) → (IsTrue true ↔ row_at ts parts ≡ row ys)
all-same ts parts xs ys i g w long h =
    let ends : row_at ts (drop i parts) ≡ row (drop i xs) = ap (row_at ts) (drop_all i parts w) ∙ sym (ap row (drop_all i xs (omega (arith, w, long)))) in
    (λ t. h.1 ends ∙ ap row g, λ a. refl)

-- a field is smaller than all fields
pub field-smaller : (xs ys : Pairs) (i : ℕ) (y : Label × Ty) → xs ≡ ys → y ≡ get_or xs i y → i < length xs → nodes_pairs (drop i xs) ≤ nodes_pairs xs
    → nodes y.1 < nodes_pairs ys
field-smaller xs ys i y g f w h =
    let m : nodes_pairs (drop i xs) ≡ nodes y.1 + nodes_pairs (drop (i + 1) xs) + 1 = ap nodes_pairs (after xs i y f w) in
    let n : nodes_pairs xs ≡ nodes_pairs ys = ap nodes_pairs g in
    omega (arith, m, n, h)

-- ---- the parts as fields of trees

-- the fields that parts make: the label of each, and the type at its number
abbrev pub pairs_at : List Ty → Parts → Pairs
pairs_at ts parts = map (λ x. (x.0, at ts x.1)) parts

pub row-pairs : (ts : List Ty) (parts : Parts) → row (pairs_at ts parts) ≡ row_at ts parts
row-pairs ts [] = refl
row-pairs ts (x ∷ xs) = ap (Row.More x.0 (at ts x.1)) (row-pairs ts xs)

-- all parts have become fields
pub all-fields : (ts : List Ty) (parts : Parts) (fields : Pairs) (i : ℕ) → fields ≡ pairs_at ts (take i parts) → i ≡ length parts → row fields ≡ row_at ts parts
all-fields ts parts fields i h w = ap row (h ∙ ap (pairs_at ts) (ap (λ n. take n parts) w ∙ take-length parts)) ∙ row-pairs ts parts

-- the label at a place may follow the fields before it
pub part-follows : (ts : List Ty) (xs : Parts) (i : ℕ) (d : Label × ℕ) → i < length xs → Rises xs → MayFollow (pairs_at ts (take i xs)) (get_or xs i d).0
part-follows ts [] i d p r = absurd (omega (arith, p))
part-follows ts (x ∷ xs) zero d p r = tt
part-follows ts (x ∷ []) (suc i) d p r = absurd (omega (arith, p))
part-follows ts (x ∷ y ∷ xs) (suc zero) d p r = r.0
part-follows ts (x ∷ y ∷ xs) (suc (suc i)) d p r = part-follows ts (y ∷ xs) (suc i) d (omega (arith, p)) r.1

pub ruleset part_steps = (row-pairs, part-follows)
