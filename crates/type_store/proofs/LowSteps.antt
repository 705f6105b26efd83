-- What does not depend on where it is done, since no free index is too small for it.
-- Main results: lows-new, shift-outermost, filled-first.
use Rattle.std.proofs.Common.{◌≡◌, ℕ, zero, suc, ◌+◌, ◌-◌, ◌<◌, ◌≤◌, ◌==◌, if◌then◌else◌, Bool as Truth, false, List, [], ◌∷◌, ◌++◌, true, not, fold, length}
use Rattle.std.proofs.Common.{length-append, refl, sym, ap, ap₂, subst, ◌∙◌, arith}
use Rattle.std.proofs.lemmas.Bool.{eqb-true}
use Rattle.std.specs.List.{list_any}
use Rattle.indexmap.specs.IndexSet.{insert_key}
use Rattle.omega_kinds.specs.Kind.{Kind}
use Rattle.omega_types.specs.Index.{kept, raised, slot, bump, shift}
use Rattle.omega_types.specs.Normaliser.{tree, args, fill_part, put_in, put_in_row}
use Rattle.omega_types.specs.Substitution.{rename, rename_row}
use Rattle.omega_types.specs.Ty.{Ty, Row, lift}
use Rattle.omega_types.proofs.Steps.{bump-past}
use Rattle.type_store.specs.declared.low.Low.{Low}
use Rattle.type_store.specs.Inner.Low.{lifted, EachFree, EachFreeRow, IsAbove, IsLow, highest, of_index, both, outside, low_in, with_part, low_at, AreLows}
use Rattle.type_store.specs.Inner.Memo.{filled}
use Rattle.type_store.specs.Shape.{Shape, Parts, shape_eq}
use Rattle.type_store.specs.Trees.{at, row_at, tree_at, trees}
use Rattle.type_store.proofs.FillSteps.{put-apply}
use Rattle.type_store.proofs.TreeLaws.{fresh-last, trees-none, trees-push}

-- ---- what holds of each free index

lifted-weaker : (P Q : ℕ → Type 0) → ((i : ℕ) → P i → Q i) → (i : ℕ) → lifted P i → lifted Q i
lifted-weaker P Q w zero p = tt
lifted-weaker P Q w (suc i) p = w i p

mutual
  each-weaker : (P Q : ℕ → Type 0) (t : Ty) → ((i : ℕ) → P i → Q i) → EachFree P t → EachFree Q t
  each-weaker P Q (Ty.Var i) w h = w i h
  each-weaker P Q Ty.Int w h = tt
  each-weaker P Q Ty.Bool w h = tt
  each-weaker P Q Ty.Text w h = tt
  each-weaker P Q (Ty.Arrow a b) w h = (each-weaker P Q a w h.0, each-weaker P Q b w h.1)
  each-weaker P Q (Ty.Fields row) w h = each_row-weaker P Q row w h
  each-weaker P Q (Ty.Sum row) w h = each_row-weaker P Q row w h
  each-weaker P Q (Ty.All k b) w h = each-weaker (lifted P) (lifted Q) b (lifted-weaker P Q w) h
  each-weaker P Q (Ty.Ex k b) w h = each-weaker (lifted P) (lifted Q) b (lifted-weaker P Q w) h
  each-weaker P Q (Ty.Mu b) w h = each-weaker (lifted P) (lifted Q) b (lifted-weaker P Q w) h
  each-weaker P Q (Ty.Lam k b) w h = each-weaker (lifted P) (lifted Q) b (lifted-weaker P Q w) h
  each-weaker P Q (Ty.Apply f a) w h = (each-weaker P Q f w h.0, each-weaker P Q a w h.1)

  each_row-weaker : (P Q : ℕ → Type 0) (row : Row) → ((i : ℕ) → P i → Q i) → EachFreeRow P row → EachFreeRow Q row
  each_row-weaker P Q Row.End w h = tt
  each_row-weaker P Q (Row.More l t rest) w h = (each-weaker P Q t w h.0, each_row-weaker P Q rest w h.1)

-- ---- the numbers of a type from those of its parts

above-index : (i : ℕ) → IsAbove (of_index i) i
above-index i = (omega arith, by (i == 0) refl)
  where
    by : (b : Truth) → (i == 0) ≡ b → 0 < i → (if b then 0xffff_ffff_ffff_ffff else i) ≤ i
    by true e h = let z : i ≡ 0 = eqb-true i 0 e in absurd (omega (arith, z, h))
    by false e h = omega arith

above-outside : (p : Low) (i : ℕ) → IsAbove p i → lifted (IsAbove (outside p)) i
above-outside p zero h = tt
above-outside p (suc i) h = let n : p.next ≤ suc i = h.1 (omega arith) in (omega (arith, n), λ z. omega (arith, n, z))

record Within (p q : Low) : Type 0 where
  least : p.least ≤ q.least
  next : p.next ≤ q.next

low-within : (p q : Low) (t : Ty) → Within p q → IsLow q t → IsLow p t
low-within p q t w h =
    each-weaker (IsAbove q) (IsAbove p) t (λ i a.
    (let l = w.least in omega (arith, l, a.0), λ z. let n = w.next in let b : q.next ≤ i = a.1 z in omega (arith, n, b))) h

both-left : (p q : Low) → Within (both p q) p
both-left p q = record { least = omega arith; next = omega arith }

both-right : (p q : Low) → Within (both p q) q
both-right p q = record { least = omega arith; next = omega arith }

within-then : (p q r : Low) → Within p q → Within q r → Within p r
within-then p q r v w = record {
  least = let a = v.least in let b = w.least in omega (arith, a, b);
  next = let a = v.next in let b = w.next in omega (arith, a, b);
}

module _ (ts : List Ty) (lows : List Low) (h : AreLows ts lows) where
  low-parts : (low : Low) (parts : Parts)
      → Within (fold (with_part lows) low parts) low × EachFreeRow (IsAbove (fold (with_part lows) low parts)) (row_at ts parts)
  low-parts low [] = (record { least = omega arith; next = omega arith }, tt)
  low-parts low (x ∷ xs) =
      let more : Low = with_part lows low x in
      let whole : Low = fold (with_part lows) more xs in
      let rest : Within whole more × EachFreeRow (IsAbove whole) (row_at ts xs) = low-parts more xs in (
        within-then whole more low rest.0 (both-left low (low_in lows x.1)),
        (
          low-within whole (low_in lows x.1) (at ts x.1) (within-then whole more (low_in lows x.1) rest.0 (both-right low (low_in lows x.1)))
              (h.each x.1),
          rest.1,
        ),
      )

  low-two : (a b : ℕ) → IsLow (both (low_in lows a) (low_in lows b)) (at ts a) × IsLow (both (low_in lows a) (low_in lows b)) (at ts b)
  low-two a b =
      let p : Low = low_in lows a in
      let q : Low = low_in lows b in
      (low-within (both p q) p (at ts a) (both-left p q) (h.each a), low-within (both p q) q (at ts b) (both-right p q) (h.each b))

  low-under : (b : ℕ) → EachFree (lifted (IsAbove (outside (low_in lows b)))) (at ts b)
  low-under b = each-weaker (IsAbove (low_in lows b)) (lifted (IsAbove (outside (low_in lows b)))) (at ts b) (above-outside (low_in lows b)) (h.each b)

  pub low-shape : (s : Shape) → IsLow (low_at lows s) (tree_at ts s)
  low-shape (Shape.Var i) = above-index i
  low-shape Shape.Int = tt
  low-shape Shape.Bool = tt
  low-shape Shape.Text = tt
  low-shape (Shape.Arrow a b) = low-two a b
  low-shape (Shape.Fields parts) = (low-parts highest parts).1
  low-shape (Shape.Sum parts) = (low-parts highest parts).1
  low-shape (Shape.All k b) = low-under b
  low-shape (Shape.Ex k b) = low-under b
  low-shape (Shape.Mu b) = low-under b
  low-shape (Shape.Lam k b) = low-under b
  low-shape (Shape.Apply f a) = low-two f a

-- the free indexes of the type that a shape makes are not below the numbers that are computed for it
pub low-is : (ts : List Ty) (lows : List Low) (s : Shape) (low : Low) → AreLows ts lows → low ≡ low_at lows s → IsLow low (tree_at ts s)
low-is ts lows s low h e = subst (λ l. IsLow l (tree_at ts s)) (sym e) (low-shape ts lows h s)

-- ---- one more type

each-push : (ts : List Ty) (lows : List Low) (t : Ty) (low : Low) → length lows ≡ length ts → ((i : ℕ) → IsLow (low_in lows i) (at ts i)) → IsLow low t
    → (i : ℕ) → IsLow (low_in (lows ++ low ∷ []) i) (at (ts ++ t ∷ []) i)
each-push [] [] t low e h l zero = l
each-push [] [] t low e h l (suc i) = tt
each-push [] (y ∷ ys) t low e h l i = absurd (omega (arith, e))
each-push (x ∷ xs) [] t low e h l i = absurd (omega (arith, e))
each-push (x ∷ xs) (y ∷ ys) t low e h l zero = h zero
each-push (x ∷ xs) (y ∷ ys) t low e h l (suc i) = each-push xs ys t low (omega (arith, e)) (λ j. h (suc j)) l i

-- a new shape with its numbers
pub lows-new : (shapes new : List Shape) (s : Shape) (lows more : List Low) (low : Low) → AreLows (trees shapes) lows → IsLow low (tree_at (trees shapes) s)
    → not (list_any (shape_eq s) shapes) ≡ true → new ≡ insert_key shape_eq shapes s → more ≡ lows ++ low ∷ [] → AreLows (trees new) more
lows-new shapes new s lows more low h l fresh keys items =
    let last : trees new ≡ trees shapes ++ tree_at (trees shapes) s ∷ [] = ap trees (fresh-last shapes new s fresh keys) ∙ trees-push shapes s in
    subst (λ ts. AreLows ts more) (sym last)
    (subst (AreLows (trees shapes ++ tree_at (trees shapes) s ∷ [])) (sym items)
    (record {
      as_long =
          length-append lows (low ∷ []) ∙
          (ap (λ n. n + 1) h.as_long ∙ sym (length-append (trees shapes) (tree_at (trees shapes) s ∷ [])));
      each = each-push (trees shapes) lows (tree_at (trees shapes) s) low h.as_long h.each l;
    }))

-- of an empty store, the empty list has the numbers of each type
pub lows-none : AreLows (trees []) []
lows-none = subst (λ ts. AreLows ts []) (sym trees-none) (record { as_long = refl; each = λ i. tt })

-- ---- a shift of a type with no free index below `from`

lift-alike : (f g : ℕ → ℕ) (i : ℕ) → lifted (λ j. f j ≡ g j) i → lift f i ≡ lift g i
lift-alike f g zero h = refl
lift-alike f g (suc i) h = ap suc h

alike-under : (f g : ℕ → ℕ) (b : Ty) → EachFree (lifted (λ i. f i ≡ g i)) b → EachFree (λ i. lift f i ≡ lift g i) b
alike-under f g b h = each-weaker (lifted (λ i. f i ≡ g i)) (λ i. lift f i ≡ lift g i) b (lift-alike f g) h

mutual
  rename-alike : (f g : ℕ → ℕ) (t : Ty) → EachFree (λ i. f i ≡ g i) t → rename f t ≡ rename g t
  rename-alike f g (Ty.Var i) h = ap Ty.Var h
  rename-alike f g Ty.Int h = refl
  rename-alike f g Ty.Bool h = refl
  rename-alike f g Ty.Text h = refl
  rename-alike f g (Ty.Arrow a b) h = ap₂ Ty.Arrow (rename-alike f g a h.0) (rename-alike f g b h.1)
  rename-alike f g (Ty.Fields row) h = ap Ty.Fields (rename_row-alike f g row h)
  rename-alike f g (Ty.Sum row) h = ap Ty.Sum (rename_row-alike f g row h)
  rename-alike f g (Ty.All k b) h = ap (Ty.All k) (rename-alike (lift f) (lift g) b (alike-under f g b h))
  rename-alike f g (Ty.Ex k b) h = ap (Ty.Ex k) (rename-alike (lift f) (lift g) b (alike-under f g b h))
  rename-alike f g (Ty.Mu b) h = ap Ty.Mu (rename-alike (lift f) (lift g) b (alike-under f g b h))
  rename-alike f g (Ty.Lam k b) h = ap (Ty.Lam k) (rename-alike (lift f) (lift g) b (alike-under f g b h))
  rename-alike f g (Ty.Apply o a) h = ap₂ Ty.Apply (rename-alike f g o h.0) (rename-alike f g a h.1)

  rename_row-alike : (f g : ℕ → ℕ) (row : Row) → EachFreeRow (λ i. f i ≡ g i) row → rename_row f row ≡ rename_row g row
  rename_row-alike f g Row.End h = refl
  rename_row-alike f g (Row.More l t rest) h = ap₂ (Row.More l) (rename-alike f g t h.0) (rename_row-alike f g rest h.1)

pub shift-outermost : (by from : ℕ) (low : Low) (t : Ty) → IsLow low t → from ≤ low.least → shift by 0 t ≡ shift by from t
shift-outermost by from low t h le =
    rename-alike (bump by 0) (bump by from) t
    (each-weaker (IsAbove low) (λ i. bump by 0 i ≡ bump by from i) t
    (λ i a. bump-past by 0 i (omega arith) ∙ sym (bump-past by from i (omega (arith, le, a.0)))) h)

-- ---- a substitution in a type with no free index up to `index`

slot-above : (i j : ℕ) → i < j → slot i j ≡ kept (j - 1)
slot-above zero zero h = absurd (omega (arith, h))
slot-above zero (suc j) h = ap kept (omega arith)
slot-above (suc i) zero h = absurd (omega (arith, h))
slot-above (suc i) (suc j) h = ap raised (slot-above i j (omega arith)) ∙ ap kept (omega arith)

slot-lift : (n : ℕ) (f : ℕ → ℕ) (i : ℕ) → lifted (λ j. slot n j ≡ kept (f j)) i → slot (suc n) i ≡ kept (lift f i)
slot-lift n f zero h = refl
slot-lift n f (suc i) h = ap raised h

abbrev Star : Kind
Star = Kind.Star

slots-under : (n : ℕ) (f : ℕ → ℕ) (b : Ty) → EachFree (lifted (λ i. slot n i ≡ kept (f i))) b → EachFree (λ i. slot (suc n) i ≡ kept (lift f i)) b
slots-under n f b h = each-weaker (lifted (λ i. slot n i ≡ kept (f i))) (λ i. slot (suc n) i ≡ kept (lift f i)) b (slot-lift n f) h

mutual
  put-alike : (n : ℕ) (f : ℕ → ℕ) (a t : Ty) → EachFree (λ i. slot n i ≡ kept (f i)) t → tree (put_in Star (args Star) n a t) ≡ rename f t
  put-alike n f a (Ty.Var i) h = ap (λ s. tree (fill_part Star (args Star) a s)) h
  put-alike n f a Ty.Int h = refl
  put-alike n f a Ty.Bool h = refl
  put-alike n f a Ty.Text h = refl
  put-alike n f a (Ty.Arrow s t) h = ap₂ Ty.Arrow (put-alike n f a s h.0) (put-alike n f a t h.1)
  put-alike n f a (Ty.Fields row) h = ap Ty.Fields (put_row-alike n f a row h)
  put-alike n f a (Ty.Sum row) h = ap Ty.Sum (put_row-alike n f a row h)
  put-alike n f a (Ty.All k b) h = ap (Ty.All k) (put-alike (suc n) (lift f) (rename suc a) b (slots-under n f b h))
  put-alike n f a (Ty.Ex k b) h = ap (Ty.Ex k) (put-alike (suc n) (lift f) (rename suc a) b (slots-under n f b h))
  put-alike n f a (Ty.Mu b) h = ap Ty.Mu (put-alike (suc n) (lift f) (rename suc a) b (slots-under n f b h))
  put-alike n f a (Ty.Lam k b) h = ap (Ty.Lam k) (put-alike (suc n) (lift f) (rename suc a) b (slots-under n f b h))
  put-alike n f a (Ty.Apply o t) h = put-apply (args Star) n a o t ∙ ap₂ Ty.Apply (put-alike n f a o h.0) (put-alike n f a t h.1)

  put_row-alike : (n : ℕ) (f : ℕ → ℕ) (a : Ty) (row : Row) → EachFreeRow (λ i. slot n i ≡ kept (f i)) row
      → put_in_row Star (args Star) n a row ≡ rename_row f row
  put_row-alike n f a Row.End h = refl
  put_row-alike n f a (Row.More l t rest) h = ap₂ (Row.More l) (put-alike n f a t h.0) (put_row-alike n f a rest h.1)

lowered : (index : ℕ) (low : Low) (a t : Ty) → IsLow low t → index < low.least → filled index a t ≡ rename (λ i. i - 1) t
lowered index low a t h lt =
    put-alike index (λ i. i - 1) (shift index 0 a) t
    (each-weaker (IsAbove low) (λ i. slot index i ≡ kept (i - 1)) t (λ i p. slot-above index i (omega (arith, lt, p.0))) h)

pub filled-first : (index : ℕ) (low : Low) (a t : Ty) → IsLow low t → index < low.least → filled 0 a t ≡ filled index a t
filled-first index low a t h lt = lowered 0 low a t h (omega (arith, lt)) ∙ sym (lowered index low a t h lt)

pub ruleset low_steps = (shift-outermost, filled-first)
