-- The types of a list of shapes: one more shape, and one number for each type.
-- Main results: extends-new, holds-new, placed, bound-is.
use Rattle.std.proofs.Common.{◌≡◌, ℕ, ◌+◌, ◌<◌, ◌≤◌, ◌⊎◌, inl, inr, List, [], ◌∷◌, ◌++◌, Some, Bool as Truth, true, false, if◌then◌else◌, not, zero, suc}
use Rattle.std.proofs.Common.{length, map, max, ◌-◌, get_or, slice_get, refl, sym, ap, ap₂, ◌∙◌, subst, arith, length-append, append_assoc}
use Rattle.std.proofs.lemmas.List.{append-nil}
use Rattle.std.proofs.Math.ListN.{get_or-append, get_or-map}
use Rattle.std.proofs.lemmas.List.{map-append}
use Rattle.std.proofs.Math.Seq.{get_or-append_seam}
use Rattle.std.proofs.lemmas.Bool.{cases_lt, false≢true, not-true}
use Rattle.std.proofs.lemmas.List.Folds.{list_any_at}
use Rattle.std.proofs.lemmas.List.Sums.{fold-append}
use Rattle.std.proofs.lemmas.Option.{slice_get_within, slice_get-get_or, get_or_from_slice_get}
use Rattle.std.proofs.lemmas.List.Quantifiers.{position-Some}
use Rattle.std.specs.List.{list_any, position}
use Rattle.indexmap.specs.IndexSet.{insert_key}
use Rattle.omega_kinds.specs.declared.label.Label.{Label}
use Rattle.omega_types.specs.Ty.{Ty, Row}
use Rattle.type_store.specs.Shape.{Shape, Parts, shape_eq}
use Rattle.type_store.specs.Inner.ShapeLaws.{shape_eq-yes, shape_eq-of}
use Rattle.type_store.specs.Trees.{at, row_at, tree_at, ArePartsBelow, IsBelow, with_shape, trees, AreDistinct, Begins, Holds, IsStore, AreBounds, Extends}
use Rattle.type_store.specs.Trees.{bound_at, bound_parts}
use Rattle.omega_types.specs.Inner.Bound.{bound_of, bound_row}

-- ---- more types at the end

pub at-append : (ts us : List Ty) (i : ℕ) → i < length ts → at (ts ++ us) i ≡ at ts i
at-append ts us i h = get_or-append ts us Ty.Int i h

-- parts make the same fields when types are added at the end
pub row_at-append : (ts us : List Ty) (parts : Parts) → ArePartsBelow (length ts) parts → row_at (ts ++ us) parts ≡ row_at ts parts
row_at-append ts us [] h = refl
row_at-append ts us (x ∷ xs) h = ap₂ (Row.More x.0) (at-append ts us x.1 h.0) (row_at-append ts us xs h.1)

pub tree_at-append : (ts us : List Ty) (s : Shape) → IsBelow (length ts) s → tree_at (ts ++ us) s ≡ tree_at ts s
tree_at-append ts us (Shape.Var i) h = refl
tree_at-append ts us Shape.Int h = refl
tree_at-append ts us Shape.Bool h = refl
tree_at-append ts us Shape.Text h = refl
tree_at-append ts us (Shape.Arrow a b) h = ap₂ Ty.Arrow (at-append ts us a h.0) (at-append ts us b h.1)
tree_at-append ts us (Shape.Fields parts) h = ap Ty.Fields (row_at-append ts us parts h.0)
tree_at-append ts us (Shape.Sum parts) h = ap Ty.Sum (row_at-append ts us parts h.0)
tree_at-append ts us (Shape.All k b) h = ap (Ty.All k) (at-append ts us b h)
tree_at-append ts us (Shape.Ex k b) h = ap (Ty.Ex k) (at-append ts us b h)
tree_at-append ts us (Shape.Mu b) h = ap Ty.Mu (at-append ts us b h)
tree_at-append ts us (Shape.Lam k b) h = ap (Ty.Lam k) (at-append ts us b h)
tree_at-append ts us (Shape.Apply f a) h = ap₂ Ty.Apply (at-append ts us f h.0) (at-append ts us a h.1)

-- parts whose numbers are below one bound have them below each greater bound
pub parts_below-more : (m n : ℕ) (parts : Parts) → m ≤ n → ArePartsBelow m parts → ArePartsBelow n parts
parts_below-more m n [] le h = tt
parts_below-more m n (x ∷ xs) le h = (omega (arith, h.0), parts_below-more m n xs le h.1)

pub below-more : (m n : ℕ) (s : Shape) → m ≤ n → IsBelow m s → IsBelow n s
below-more m n (Shape.Var i) le h = tt
below-more m n Shape.Int le h = tt
below-more m n Shape.Bool le h = tt
below-more m n Shape.Text le h = tt
below-more m n (Shape.Arrow a b) le h = (omega (arith, h.0), omega (arith, h.1))
below-more m n (Shape.Fields parts) le h = (parts_below-more m n parts le h.0, h.1)
below-more m n (Shape.Sum parts) le h = (parts_below-more m n parts le h.0, h.1)
below-more m n (Shape.All k b) le h = omega arith
below-more m n (Shape.Ex k b) le h = omega arith
below-more m n (Shape.Mu b) le h = omega arith
below-more m n (Shape.Lam k b) le h = omega arith
below-more m n (Shape.Apply f a) le h = (omega (arith, h.0), omega (arith, h.1))

-- ---- one list begins with another

-- each list begins with itself
pub begins-itself : (ts : List Ty) → Begins ts ts
begins-itself ts = record { rest = []; whole_is = sym (append-nil ts) }

-- a list begins with what its beginning begins with
pub begins-then : (ts us vs : List Ty) → Begins ts us → Begins us vs → Begins ts vs
begins-then ts us vs p q = record { rest = p.rest ++ q.rest; whole_is = q.whole_is ∙ (ap (λ xs. xs ++ q.rest) p.whole_is ∙ append_assoc ts p.rest q.rest) }

-- a list is at least as long as its beginning
pub begins-length : (ts us : List Ty) → Begins ts us → length ts ≤ length us
begins-length ts us p = let e : length us ≡ length ts + length p.rest = ap length p.whole_is ∙ length-append ts p.rest in omega (arith, e)

-- a type of the beginning stands at the same number of the whole list
pub begins-at : (ts us : List Ty) (i : ℕ) → Begins ts us → i < length ts → at us i ≡ at ts i
begins-at ts us i p h = ap (λ xs. at xs i) p.whole_is ∙ at-append ts p.rest i h

pub begins-tree : (ts us : List Ty) (s : Shape) → Begins ts us → IsBelow (length ts) s → tree_at us s ≡ tree_at ts s
begins-tree ts us s p h = ap (λ xs. tree_at xs s) p.whole_is ∙ tree_at-append ts p.rest s h

-- a type that stands at a number still stands there when types are added at the end
pub holds-more : (ts us : List Ty) (i : ℕ) (t : Ty) → Begins ts us → Holds ts i t → Holds us i t
holds-more ts us i t p h = record { within = let l = begins-length ts us p in omega (arith, l, h.within); value = begins-at ts us i p h.within ∙ h.value }

-- ---- shapes that make one type are the same

parts-one : (ts : List Ty) → AreDistinct ts → (r q : Parts) → ArePartsBelow (length ts) r → ArePartsBelow (length ts) q → row_at ts r ≡ row_at ts q → r ≡ q
parts-one ts d [] [] h k e = refl
parts-one ts d [] (y ∷ ys) h k e = absurd (cc)
parts-one ts d (x ∷ xs) [] h k e = absurd (cc)
parts-one ts d (x ∷ xs) (y ∷ ys) h k e =
    let l : x.0 ≡ y.0 = cc in
    let p : at ts x.1 ≡ at ts y.1 = cc in
    let m : row_at ts xs ≡ row_at ts ys = cc in
    λ i. (l i, d.same_number x.1 y.1 h.0 k.0 p i) ∷ parts-one ts d xs ys h.1 k.1 m i

module _ (ts : List Ty) (d : AreDistinct ts) where
  one : (a b : ℕ) → a < length ts → b < length ts → at ts a ≡ at ts b → a ≡ b
  one a b h k e = d.same_number a b h k e

  pub shape-one : (s t : Shape) → IsBelow (length ts) s → IsBelow (length ts) t → tree_at ts s ≡ tree_at ts t → s ≡ t
  shape-one (Shape.Var i) (Shape.Var j) h k e = let p : i ≡ j = cc in ap Shape.Var p
  shape-one Shape.Int Shape.Int h k e = refl
  shape-one Shape.Bool Shape.Bool h k e = refl
  shape-one Shape.Text Shape.Text h k e = refl
  shape-one (Shape.Arrow a b) (Shape.Arrow a' b') h k e =
      let p : at ts a ≡ at ts a' = cc in
      let q : at ts b ≡ at ts b' = cc in
      ap₂ Shape.Arrow (one a a' h.0 k.0 p) (one b b' h.1 k.1 q)
  shape-one (Shape.Fields r) (Shape.Fields q) h k e = let p : row_at ts r ≡ row_at ts q = cc in ap Shape.Fields (parts-one ts d r q h.0 k.0 p)
  shape-one (Shape.Sum r) (Shape.Sum q) h k e = let p : row_at ts r ≡ row_at ts q = cc in ap Shape.Sum (parts-one ts d r q h.0 k.0 p)
  shape-one (Shape.All j b) (Shape.All j' b') h k e =
      let p : j ≡ j' = cc in
      let q : at ts b ≡ at ts b' = cc in
      ap₂ Shape.All p (one b b' h k q)
  shape-one (Shape.Ex j b) (Shape.Ex j' b') h k e =
      let p : j ≡ j' = cc in
      let q : at ts b ≡ at ts b' = cc in
      ap₂ Shape.Ex p (one b b' h k q)
  shape-one (Shape.Mu b) (Shape.Mu b') h k e =
      let q : at ts b ≡ at ts b' = cc in
      ap Shape.Mu (one b b' h k q)
  shape-one (Shape.Lam j b) (Shape.Lam j' b') h k e =
      let p : j ≡ j' = cc in
      let q : at ts b ≡ at ts b' = cc in
      ap₂ Shape.Lam p (one b b' h k q)
  shape-one (Shape.Apply a b) (Shape.Apply a' b') h k e =
      let p : at ts a ≡ at ts a' = cc in
      let q : at ts b ≡ at ts b' = cc in
      ap₂ Shape.Apply (one a a' h.0 k.0 p) (one b b' h.1 k.1 q)
  shape-one s t h k e = absurd (cc)

-- ---- one more shape

last-or-before : {A : Type 0} (xs : List A) (x : A) (i : ℕ) (y : A) → slice_get (xs ++ x ∷ []) i ≡ Some y
    → ((i < length xs) × (slice_get xs i ≡ Some y)) ⊎ ((i ≡ length xs) × (y ≡ x))
last-or-before xs x i y e = by (cases_lt i (length xs))
  where
    found : get_or (xs ++ x ∷ []) i y ≡ y
    found = get_or_from_slice_get (xs ++ x ∷ []) i y y e

    by : (i < length xs) ⊎ (length xs ≤ i) → ((i < length xs) × (slice_get xs i ≡ Some y)) ⊎ ((i ≡ length xs) × (y ≡ x))
    by (inl h) = inl (h, slice_get-get_or xs i y h ∙ ap Some (sym (get_or-append xs (x ∷ []) y i h) ∙ found))
    by (inr h) =
        let w : i < length (xs ++ x ∷ []) = slice_get_within (xs ++ x ∷ []) i y e in
        let l : length (xs ++ x ∷ []) ≡ length xs + 1 = length-append xs (x ∷ []) in
        let at_end : i ≡ length xs = omega (arith, w, l, h) in
        inr (at_end, sym found ∙ (ap (λ n. get_or (xs ++ x ∷ []) n y) at_end ∙ get_or-append_seam xs x [] y))

-- one more shape adds, at the end, the type that it makes of those before
pub trees-push : (shapes : List Shape) (s : Shape) → trees (shapes ++ s ∷ []) ≡ trees shapes ++ tree_at (trees shapes) s ∷ []
unfolding trees with_shape
trees-push shapes s = fold-append with_shape [] shapes (s ∷ [])

pub begins-push : (shapes : List Shape) (s : Shape) → Begins (trees shapes) (trees (shapes ++ s ∷ []))
begins-push shapes s = record { rest = tree_at (trees shapes) s ∷ []; whole_is = trees-push shapes s }

-- a type at a number is that of a shape there
shape-at : (shapes : List Shape) → IsStore shapes → (i : ℕ) → i < length (trees shapes) → (s : Shape) × (slice_get shapes i ≡ Some s)
shape-at shapes h i l = let w : i < length shapes = omega (arith, l, h.as_long) in (get_or shapes i Shape.Int, slice_get-get_or shapes i Shape.Int w)

-- each number of a shape is below the number of types
below-all : (shapes : List Shape) → IsStore shapes → (i : ℕ) (s : Shape) → slice_get shapes i ≡ Some s → IsBelow (length (trees shapes)) s
below-all shapes h i s e =
    let w : i < length shapes = slice_get_within shapes i s e in below-more i (length (trees shapes)) s (omega (arith, w, h.as_long)) (h.below i s e)

module _ (shapes : List Shape) (h : IsStore shapes) (s : Shape) (below : IsBelow (length (trees shapes)) s) where
  -- a shape that is new makes a new type
  new-type : list_any (shape_eq s) shapes ≡ false → (i : ℕ) → i < length (trees shapes) → at (trees shapes) i ≡ tree_at (trees shapes) s → ⊥
  new-type none i l e =
      let m = shape-at shapes h i l in
      let same : m.0 ≡ s = shape-one (trees shapes) h.distinct m.0 s (below-all shapes h i m.0 m.1) below (sym (h.stands i m.0 m.1) ∙ e) in
      let w : i < length shapes = omega (arith, l, h.as_long) in
      let found : shape_eq s (get_or shapes i s) ≡ true = shape_eq-of s (get_or shapes i s) (sym same ∙ sym (get_or_from_slice_get shapes i m.0 s m.1)) in
      false≢true (sym none ∙ list_any_at (shape_eq s) shapes i s w found)

  length-push : length (trees (shapes ++ s ∷ [])) ≡ length (trees shapes) + 1
  length-push = ap length (trees-push shapes s) ∙ length-append (trees shapes) (tree_at (trees shapes) s ∷ [])

  at-before : (i : ℕ) → i < length (trees shapes) → at (trees (shapes ++ s ∷ [])) i ≡ at (trees shapes) i
  at-before i l = begins-at (trees shapes) (trees (shapes ++ s ∷ [])) i (begins-push shapes s) l

  at-last : at (trees (shapes ++ s ∷ [])) (length (trees shapes)) ≡ tree_at (trees shapes) s
  at-last = ap (λ xs. at xs (length (trees shapes))) (trees-push shapes s) ∙ get_or-append_seam (trees shapes) (tree_at (trees shapes) s) [] Ty.Int

  below-push : (i : ℕ) (r : Shape) → slice_get (shapes ++ s ∷ []) i ≡ Some r → IsBelow i r
  below-push i r e = by (last-or-before shapes s i r e)
    where
      by : ((i < length shapes) × (slice_get shapes i ≡ Some r)) ⊎ ((i ≡ length shapes) × (r ≡ s)) → IsBelow i r
      by (inl p) = h.below i r p.1
      by (inr p) = subst (λ x. IsBelow i x) (sym p.1) (subst (λ n. IsBelow n s) (h.as_long ∙ sym p.0) below)

  stands-push : (i : ℕ) (r : Shape) → slice_get (shapes ++ s ∷ []) i ≡ Some r → at (trees (shapes ++ s ∷ [])) i ≡ tree_at (trees (shapes ++ s ∷ [])) r
  stands-push i r e = by (last-or-before shapes s i r e)
    where
      by : ((i < length shapes) × (slice_get shapes i ≡ Some r)) ⊎ ((i ≡ length shapes) × (r ≡ s))
          → at (trees (shapes ++ s ∷ [])) i ≡ tree_at (trees (shapes ++ s ∷ [])) r
      by (inl p) =
          at-before i (omega (arith, p.0, h.as_long)) ∙
          (h.stands i r p.1 ∙
          sym (begins-tree (trees shapes) (trees (shapes ++ s ∷ [])) r (begins-push shapes s) (below-all shapes h i r p.1)))
      by (inr p) =
          ap (at (trees (shapes ++ s ∷ []))) (p.0 ∙ sym h.as_long) ∙
          (at-last ∙
          (sym (begins-tree (trees shapes) (trees (shapes ++ s ∷ [])) s (begins-push shapes s) below) ∙
          ap (tree_at (trees (shapes ++ s ∷ []))) (sym p.1)))

  distinct-push : list_any (shape_eq s) shapes ≡ false → AreDistinct (trees (shapes ++ s ∷ []))
  distinct-push none = record { same_number = λ i j l m e. by i j (cases_lt i (length (trees shapes))) (cases_lt j (length (trees shapes))) l m e }
    where
      by : (i j : ℕ) → (i < length (trees shapes)) ⊎ (length (trees shapes) ≤ i) → (j < length (trees shapes)) ⊎ (length (trees shapes) ≤ j)
          → i < length (trees (shapes ++ s ∷ [])) → j < length (trees (shapes ++ s ∷ []))
          → at (trees (shapes ++ s ∷ [])) i ≡ at (trees (shapes ++ s ∷ [])) j → i ≡ j
      by i j (inl p) (inl q) l m e = h.distinct.same_number i j p q (sym (at-before i p) ∙ (e ∙ at-before j q))
      by i j (inl p) (inr q) l m e =
          let last : j ≡ length (trees shapes) = omega (arith, m, q, length-push) in
          absurd (new-type none i p (sym (at-before i p) ∙ (e ∙ (ap (at (trees (shapes ++ s ∷ []))) last ∙ at-last))))
      by i j (inr p) (inl q) l m e =
          let last : i ≡ length (trees shapes) = omega (arith, l, p, length-push) in
          absurd (new-type none j q (sym (at-before j q) ∙ (sym e ∙ (ap (at (trees (shapes ++ s ∷ []))) last ∙ at-last))))
      by i j (inr p) (inr q) l m e = omega (arith, l, m, p, q, length-push)

  pub store-push : list_any (shape_eq s) shapes ≡ false → IsStore (shapes ++ s ∷ [])
  store-push none = record {
    as_long = length-push ∙ (ap (λ n. n + 1) h.as_long ∙ sym (length-append shapes (s ∷ [])));
    below = below-push;
    stands = stands-push;
    distinct = distinct-push none;
  }

  -- what `insert_full` leaves
  pub store-inserted : IsStore (insert_key shape_eq shapes s)
  store-inserted = by (list_any (shape_eq s) shapes) refl
    where
      by : (b : Truth) → list_any (shape_eq s) shapes ≡ b → IsStore (if b then shapes else shapes ++ s ∷ [])
      by true e = h
      by false e = store-push e

  pub begins-inserted : Begins (trees shapes) (trees (insert_key shape_eq shapes s))
  begins-inserted = by (list_any (shape_eq s) shapes)
    where
      by : (b : Truth) → Begins (trees shapes) (trees (if b then shapes else shapes ++ s ∷ []))
      by true = begins-itself (trees shapes)
      by false = begins-push shapes s

  pub holds-inserted : (i : ℕ) (r : Shape) → slice_get (insert_key shape_eq shapes s) i ≡ Some r → shape_eq s r ≡ true
      → Holds (trees (insert_key shape_eq shapes s)) i (tree_at (trees shapes) s)
  holds-inserted i r e same =
      let new : List Shape = insert_key shape_eq shapes s in
      let st : IsStore (insert_key shape_eq shapes s) = store-inserted in
      let w : i < length (insert_key shape_eq shapes s) = slice_get_within (insert_key shape_eq shapes s) i r e in
      record {
        within = omega (arith, w, st.as_long);
        value =
            st.stands i r e ∙
            (ap (tree_at (trees (insert_key shape_eq shapes s))) (sym (shape_eq-yes s r same)) ∙
            begins-tree (trees shapes) (trees (insert_key shape_eq shapes s)) s begins-inserted below);
      }

-- the empty list of shapes is a store
pub store-none : IsStore []
unfolding trees
store-none = record {
  as_long = refl;
  below = λ i s e. absurd (cc);
  stands = λ i s e. absurd (cc);
  distinct = record { same_number = λ i j l m e. absurd (omega arith) };
}

-- the empty list of shapes makes no types
pub trees-none : trees [] ≡ []
unfolding trees
trees-none = refl

-- ---- bounds

bound-get : (ts : List Ty) (i : ℕ) → get_or (map bound_of ts) i 0 ≡ bound_of (at ts i)
bound-get ts i = get_or-map bound_of ts i Ty.Int

bound-parts : (ts : List Ty) (parts : Parts) → bound_parts (map bound_of ts) parts ≡ bound_row (row_at ts parts)
bound-parts ts [] = refl
bound-parts ts (x ∷ xs) = ap₂ max (bound-get ts x.1) (bound-parts ts xs)

bound-shape : (ts : List Ty) (s : Shape) → bound_at (map bound_of ts) s ≡ bound_of (tree_at ts s)
bound-shape ts (Shape.Var i) = refl
bound-shape ts Shape.Int = refl
bound-shape ts Shape.Bool = refl
bound-shape ts Shape.Text = refl
bound-shape ts (Shape.Arrow a b) = ap₂ max (bound-get ts a) (bound-get ts b)
bound-shape ts (Shape.Fields parts) = bound-parts ts parts
bound-shape ts (Shape.Sum parts) = bound-parts ts parts
bound-shape ts (Shape.All k b) = ap (λ n. n - 1) (bound-get ts b)
bound-shape ts (Shape.Ex k b) = ap (λ n. n - 1) (bound-get ts b)
bound-shape ts (Shape.Mu b) = ap (λ n. n - 1) (bound-get ts b)
bound-shape ts (Shape.Lam k b) = ap (λ n. n - 1) (bound-get ts b)
bound-shape ts (Shape.Apply f a) = ap₂ max (bound-get ts f) (bound-get ts a)

-- the bound that is computed for a shape is that of the type that it makes
pub bound-is : (ts : List Ty) (bounds : List ℕ) (s : Shape) (n : ℕ) → AreBounds ts bounds → n ≡ bound_at bounds s → n ≡ bound_of (tree_at ts s)
bound-is ts bounds s n h e = e ∙ (ap (λ b. bound_at b s) h.bounds_are ∙ bound-shape ts s)

pub bounds-push : (shapes : List Shape) (s : Shape) (bounds : List ℕ) (n : ℕ) → AreBounds (trees shapes) bounds → n ≡ bound_of (tree_at (trees shapes) s)
    → AreBounds (trees (shapes ++ s ∷ [])) (bounds ++ n ∷ [])
bounds-push shapes s bounds n h e = record {
  bounds_are =
      ap₂ (λ b m. b ++ m ∷ []) h.bounds_are e ∙
      (sym (map-append bound_of (trees shapes) (tree_at (trees shapes) s ∷ [])) ∙ ap (map bound_of) (sym (trees-push shapes s)));
}

-- the empty list has the bounds of the types of an empty store
pub bounds-none : AreBounds (trees []) []
unfolding trees
bounds-none = record { bounds_are = refl }

-- each part of a record has a number below this one
pub part-below : (n : ℕ) (parts : Parts) (i : ℕ) (x : Label × ℕ) → ArePartsBelow n parts → x ≡ get_or parts i x → i < length parts → x.1 < n
part-below n parts i x h e w = subst (λ y. y.1 < n) (sym e) (go parts i h w)
  where
    go : (ps : Parts) (j : ℕ) → ArePartsBelow n ps → j < length ps → (get_or ps j x).1 < n
    go [] j h w = absurd (omega arith)
    go (y ∷ ys) zero h w = h.0
    go (y ∷ ys) (suc j) h w = go ys j h.1 (omega arith)

-- a new shape is the last one
pub fresh-last : (shapes new : List Shape) (s : Shape) → not (list_any (shape_eq s) shapes) ≡ true → new ≡ insert_key shape_eq shapes s → new ≡ shapes ++ s ∷ []
fresh-last shapes new s fresh keys = keys ∙ ap (λ b. if b then shapes else shapes ++ s ∷ []) (not-true (list_any (shape_eq s) shapes) fresh)

-- a new shape with its bound
pub extends-new : (shapes new : List Shape) (s : Shape) (bounds more : List ℕ) (n : ℕ) → IsStore shapes → AreBounds (trees shapes) bounds
    → IsBelow (length (trees shapes)) s
    → n ≡ bound_of (tree_at (trees shapes) s) → not (list_any (shape_eq s) shapes) ≡ true → new ≡ insert_key shape_eq shapes s → more ≡ bounds ++ n ∷ []
    → Extends shapes new more
extends-new shapes new s bounds more n h a below e fresh keys items =
    let none : list_any (shape_eq s) shapes ≡ false = not-true (list_any (shape_eq s) shapes) fresh in
    let last : new ≡ shapes ++ s ∷ [] = fresh-last shapes new s fresh keys in
    subst (λ ks. Extends shapes ks more) (sym last)
    (record {
      store = store-push shapes h s below none;
      are_bounds = subst (AreBounds (trees (shapes ++ s ∷ []))) (sym items) (bounds-push shapes s bounds n a e);
      begins = begins-push shapes s;
    })

-- after an insertion, the type that a shape makes stands at the place of the shape that is the same
pub holds-new : (shapes new : List Shape) (s : Shape) (i : ℕ) (r : Shape) → IsStore shapes → IsBelow (length (trees shapes)) s
    → new ≡ insert_key shape_eq shapes s
    → slice_get new i ≡ Some r → shape_eq s r ≡ true → Holds (trees new) i (tree_at (trees shapes) s)
holds-new shapes new s i r h below keys e same =
    subst (λ ks. Holds (trees ks) i (tree_at (trees shapes) s)) (sym keys)
    (holds-inserted shapes h s below i r (subst (λ ks. slice_get ks i ≡ Some r) keys e) same)

-- a shape that a search finds among the shapes of a store
pub placed : (shapes : List Shape) (s : Shape) (i : ℕ) → IsStore shapes → position (shape_eq s) shapes ≡ Some i
    → Holds (trees shapes) i (tree_at (trees shapes) s)
placed shapes s i h e =
    let p = position-Some (shape_eq s) shapes i s e in
    let there : slice_get shapes i ≡ Some (get_or shapes i s) = slice_get-get_or shapes i s p.0 in
    record {
      within = omega (arith, p.0, h.as_long);
      value = h.stands i (get_or shapes i s) there ∙ ap (tree_at (trees shapes)) (sym (shape_eq-yes s (get_or shapes i s) p.1));
    }
