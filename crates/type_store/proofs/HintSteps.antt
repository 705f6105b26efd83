-- What putting a type where one is expected needs: the expected type where its parts are the ones that were put, and the
-- first fields of a record that are the expected ones.
-- Main results: alike-more, alike-whole, whole-row, part-type.
use Rattle.std.proofs.Common.{◌≡◌, ℕ, zero, suc, ◌+◌, ◌<◌, ◌≤◌, List, [], ◌∷◌, Some, None, length, get_or, slice_get, refl, sym, ap, ◌∙◌, arith, below_more}
use Rattle.std.proofs.lemmas.Option.{same_Some, slice_get_read, slice_get_past}
use Rattle.omega_kinds.specs.declared.label.Label.{Label}
use Rattle.omega_types.specs.Fields.{Pairs, row}
use Rattle.omega_types.specs.Ty.{Ty, Row}
use Rattle.type_store.specs.declared.hinting.Alike.{Alike}
use Rattle.type_store.specs.Inner.Places.{HasPart, IsAlike, field_at, fields_of, how_many}
use Rattle.type_store.specs.Shape.{Parts}
use Rattle.type_store.specs.Trees.{at, row_at, Begins, Holds}
use Rattle.type_store.proofs.StoreSteps.{makes-var, makes-int, makes-bool, makes-text, makes-arrow, makes-even, makes-apply, makes-all, makes-ex, makes-lam, makes-mu}
use Rattle.type_store.proofs.StoreSteps.{makes-fields, makes-sum}
use Rattle.type_store.proofs.TreeLaws.{begins-itself, begins-then, begins-at, begins-length, holds-more}

-- ---- fields by their places

pub field_at-row : (xs : Pairs) (i : ℕ) → field_at (row xs) i ≡ slice_get xs i
field_at-row [] i = refl
field_at-row (x ∷ xs) zero = refl
field_at-row (x ∷ xs) (suc i) = field_at-row xs i

pub field_at-parts : (ts : List Ty) (parts : Parts) (i : ℕ) (x : Label × ℕ) → x ≡ get_or parts i x → i < length parts
    → field_at (row_at ts parts) i ≡ Some (x.0, at ts x.1)
field_at-parts ts [] i x e w = absurd (omega arith)
field_at-parts ts (y ∷ ys) zero x e w = let g : x ≡ y = e in ap (λ z. Some (z.0, at ts z.1)) (sym g)
field_at-parts ts (y ∷ ys) (suc i) x e w = field_at-parts ts ys i x e (omega (arith, w))

-- parts make as many fields as they are
pub how_many-parts : (ts : List Ty) (parts : Parts) → how_many (row_at ts parts) ≡ length parts
how_many-parts ts [] = refl
how_many-parts ts (x ∷ xs) = ap suc (how_many-parts ts xs)

pub how_many-row : (xs : Pairs) → how_many (row xs) ≡ length xs
how_many-row [] = refl
how_many-row (x ∷ xs) = ap suc (how_many-row xs)

-- rows of one length with the same field at each place are the same
pub same-rows : (r q : Row) → how_many r ≡ how_many q → ((i : ℕ) → i < how_many q → field_at r i ≡ field_at q i) → r ≡ q
same-rows Row.End Row.End e h = refl
same-rows Row.End (Row.More m u q) e h = absurd (omega arith)
same-rows (Row.More l t r) Row.End e h = absurd (omega arith)
same-rows (Row.More l t r) (Row.More m u q) e h =
    let first : (l, t) ≡ (m, u) = same_Some _ _ (h 0 (omega arith)) in
    let rest : r ≡ q = same-rows r q (omega (arith, e)) (λ i w. h (suc i) (omega (arith, w))) in
    λ i. Row.More ((first i).0) ((first i).1) (rest i)

-- all fields are those of the type at a number, and that has no others
pub whole-row : (ts : List Ty) (hint : ℕ) (xs ys : Pairs) (parts : Parts) (alike : Alike) → IsAlike ts hint xs alike → xs ≡ ys → alike.count ≡ length ys
    → length parts ≡ length ys → row_at ts parts ≡ fields_of (at ts hint)
    → fields_of (at ts hint) ≡ row xs
whole-row ts hint xs ys parts alike h g all long e =
    let many : how_many (fields_of (at ts hint)) ≡ how_many (row xs) =
    ap how_many (sym e) ∙ (how_many-parts ts parts ∙ (long ∙ (sym (ap length g) ∙ sym (how_many-row xs)))) in
    let count : alike.count ≡ how_many (row xs) = all ∙ (sym (ap length g) ∙ sym (how_many-row xs)) in
    same-rows (fields_of (at ts hint)) (row xs) many (λ i w. h.same i (omega (arith, w, count)) ∙ sym (field_at-row xs i))

-- ---- the first fields that are alike, one after another

-- the first n fields are those of the type at a number
pub record AreAlike (ts : List Ty) (whole : ℕ) (xs : Pairs) (n : ℕ) : Type 0 where
  pub same : (i : ℕ) → i < n → field_at (fields_of (at ts whole)) i ≡ slice_get xs i

pub alike-later : (ts us : List Ty) (whole : ℕ) (xs : Pairs) (n : ℕ) → whole < length ts → Begins ts us → AreAlike ts whole xs n → AreAlike us whole xs n
alike-later ts us whole xs n w b h = record { same = λ i l. ap (λ t. field_at (fields_of t) i) (begins-at ts us whole b w) ∙ h.same i l }

-- one more field is the part at its place
pub alike-more : (old ts us : List Ty) (whole : ℕ) (xs : Pairs) (i part next : ℕ) (x : Label × Ty) (l : Label)
    → Begins old ts → whole < length old → AreAlike ts whole xs i → field_at (fields_of (at ts whole)) i ≡ Some (l, at ts part) → l ≡ x.0 → part < whole
    → Begins ts us → Holds us next x.1 → next ≡ part
    → x ≡ get_or xs i x → i < length xs → AreAlike us whole xs (i + 1)
alike-more old ts us whole xs i part next x l p w h there e low b k g f v =
    let long = begins-length old ts p in
    let type : at ts part ≡ x.1 = sym (begins-at ts us part b (omega (arith, w, long, low))) ∙ (ap (at us) (sym g) ∙ k.value) in
    let now : field_at (fields_of (at us whole)) i ≡ slice_get xs i =
    ap (λ t. field_at (fields_of t) i) (begins-at ts us whole b (omega (arith, w, long))) ∙
    (there ∙ ((λ j. Some (e j, type j)) ∙ sym (slice_get_read xs (length xs) i x refl v f))) in
    let before = alike-later ts us whole xs i (omega (arith, w, long)) b h in
    record { same = below_more (λ j. field_at (fields_of (at us whole)) j ≡ slice_get xs j) i before.same now }

-- all fields are alike
pub alike-whole : (us : List Ty) (whole : ℕ) (xs : Pairs) (i n next : ℕ) → AreAlike us whole xs i → i ≡ n → length xs ≤ n
    → IsAlike us whole xs (record { count = n; next = next })
alike-whole us whole xs i n next h e w = record {
  same = λ j l. h.same j (omega (arith, l, e));
  next = λ y g. absurd (let none : slice_get xs n ≡ None = slice_get_past xs n w in cc);
}

-- what is known of the field at a place
pub next-known : (old ts : List Ty) (hint : ℕ) (xs : Pairs) (alike : Alike) (i : ℕ) (x : Label × Ty) → IsAlike old hint xs alike → Begins old ts
    → hint < length old → x ≡ get_or xs i x → i < length xs
    → (i ≡ alike.count → Holds ts alike.next x.1) × (i < alike.count → HasPart ts hint i x.1)
next-known old ts hint xs alike i x h b w f v =
    let here : slice_get xs i ≡ Some x = slice_get_read xs (length xs) i x refl v f in (
      λ e. holds-more old ts alike.next x.1 b (h.next x (ap (slice_get xs) (sym e) ∙ here)),
      λ l. record { label = x.0; there = ap (λ t. field_at (fields_of t) i) (begins-at old ts hint b w) ∙ (h.same i l ∙ here) },
    )

-- the part at a place has the type that stands there
pub part-type : (ts : List Ty) (parts : Parts) (whole i : ℕ) (x : Label × ℕ) (t : Ty) → row_at ts parts ≡ fields_of (at ts whole) → x ≡ get_or parts i x
    → i < length parts → HasPart ts whole i t → at ts x.1 ≡ t
part-type ts parts whole i x t e f w h =
    let same : (x.0, at ts x.1) ≡ (h.label, t) = same_Some _ _ (sym (field_at-parts ts parts i x f w) ∙ (ap (λ r. field_at r i) e ∙ h.there)) in
    ap (λ p. p.1) same

-- at the place of a part, the type that is made of the parts has a field of its label and its type
pub part-there : (ts : List Ty) (parts : Parts) (whole i : ℕ) (x : Label × ℕ) (l : Label) → row_at ts parts ≡ fields_of (at ts whole) → x ≡ get_or parts i x
    → i < length parts → x.0 ≡ l
    → field_at (fields_of (at ts whole)) i ≡ Some (l, at ts x.1)
part-there ts parts whole i x l e f w g = ap (λ r. field_at r i) (sym e) ∙ (field_at-parts ts parts i x f w ∙ ap (λ m. Some (m, at ts x.1)) g)

pub ruleset hint_steps = (
  makes-var,
  makes-int,
  makes-bool,
  makes-text,
  makes-arrow,
  makes-even,
  makes-apply,
  makes-all,
  makes-ex,
  makes-lam,
  makes-mu,
  makes-fields,
  makes-sum,
  begins-itself,
  begins-then,
  begins-length,
)
