-- What each call of a store needs of the types put before.
-- Main results: parts-push, fields-step.
use Rattle.std.proofs.Common.{◌≡◌, ℕ, suc, ◌+◌, ◌<◌, ◌≤◌, List, [], ◌∷◌, ◌++◌, length, drop, take, get_or, refl, sym, ap, ap₂, ◌∙◌, subst, arith, drop-cons}
use Rattle.std.proofs.lemmas.List.{take_more}
use Rattle.omega_kinds.specs.Kind.{Kind}
use Rattle.omega_kinds.specs.declared.label.Label.{Label}
use Rattle.omega_types.specs.Fields.{Pairs, row, Rises, MayFollow}
use Rattle.omega_types.specs.Inner.Size.{nodes, nodes_pairs}
use Rattle.omega_types.specs.Ty.{Ty, Row}
use Rattle.omega_kinds.specs.LabelOrder.{LabelBefore}
use Rattle.omega_types.proofs.Rising.{rises-push}
use Rattle.omega_types.proofs.Steps.{map_parts, may_follow-at}
use Rattle.type_store.specs.Shape.{Shape, Parts}
use Rattle.type_store.specs.Trees.{at, row_at, ArePartsBelow, Begins, Holds, Makes, MakesParts}
use Rattle.type_store.proofs.TreeLaws.{begins-itself, begins-then, begins-length, holds-more, row_at-append, parts_below-more}

-- the shape of a variable makes the variable
pub makes-var : (ts : List Ty) (i : ℕ) → Makes ts (Shape.Var i) (Ty.Var i)
makes-var ts i = record { below = tt; value = refl }

-- the shape of integers makes their type
pub makes-int : (ts : List Ty) → Makes ts Shape.Int Ty.Int
makes-int ts = record { below = tt; value = refl }

-- the shape of truth values makes their type
pub makes-bool : (ts : List Ty) → Makes ts Shape.Bool Ty.Bool
makes-bool ts = record { below = tt; value = refl }

-- the shape of strings makes their type
pub makes-text : (ts : List Ty) → Makes ts Shape.Text Ty.Text
makes-text ts = record { below = tt; value = refl }

-- the shape of an arrow between two numbers makes the arrow between their types
pub makes-arrow : (ts us : List Ty) (a b : ℕ) (s t : Ty) → Begins ts us → Holds ts a s → Holds us b t → Makes us (Shape.Arrow a b) (Ty.Arrow s t)
makes-arrow ts us a b s t p h k = let m = holds-more ts us a s p h in record { below = (m.within, k.within); value = ap₂ Ty.Arrow m.value k.value }

-- the shape of an arrow from a number to itself makes the arrow from its type to itself
pub makes-even : (ts : List Ty) (a : ℕ) (t : Ty) → Holds ts a t → Makes ts (Shape.Arrow a a) (Ty.Arrow t t)
makes-even ts a t h = record { below = (h.within, h.within); value = ap₂ Ty.Arrow h.value h.value }

-- the shape of an application of one number to another makes the application of their types
pub makes-apply : (ts us : List Ty) (a b : ℕ) (s t : Ty) → Begins ts us → Holds ts a s → Holds us b t → Makes us (Shape.Apply a b) (Ty.Apply s t)
makes-apply ts us a b s t p h k = let m = holds-more ts us a s p h in record { below = (m.within, k.within); value = ap₂ Ty.Apply m.value k.value }

-- the shape of a universal type over a number makes the universal type over its type
pub makes-all : (ts : List Ty) (k : Kind) (b : ℕ) (t : Ty) → Holds ts b t → Makes ts (Shape.All k b) (Ty.All k t)
makes-all ts k b t h = record { below = h.within; value = ap (Ty.All k) h.value }

-- the shape of an existential type over a number makes the existential type over its type
pub makes-ex : (ts : List Ty) (k : Kind) (b : ℕ) (t : Ty) → Holds ts b t → Makes ts (Shape.Ex k b) (Ty.Ex k t)
makes-ex ts k b t h = record { below = h.within; value = ap (Ty.Ex k) h.value }

-- the shape of a type operator over a number makes the type operator over its type
pub makes-lam : (ts : List Ty) (k : Kind) (b : ℕ) (t : Ty) → Holds ts b t → Makes ts (Shape.Lam k b) (Ty.Lam k t)
makes-lam ts k b t h = record { below = h.within; value = ap (Ty.Lam k) h.value }

-- the shape of a recursive type over a number makes the recursive type over its type
pub makes-mu : (ts : List Ty) (b : ℕ) (t : Ty) → Holds ts b t → Makes ts (Shape.Mu b) (Ty.Mu t)
makes-mu ts b t h = record { below = h.within; value = ap Ty.Mu h.value }

-- the shape of a sum of parts makes the sum of the fields that they make
pub makes-sum : (ts : List Ty) (parts : Parts) (r : Row) → MakesParts ts parts r → Makes ts (Shape.Sum parts) (Ty.Sum r)
makes-sum ts parts r h = record { below = (h.below, h.rising); value = ap Ty.Sum h.value }

-- the shape of a record of parts makes the record of the fields that they make
pub makes-fields : (ts : List Ty) (parts : Parts) (r : Row) → MakesParts ts parts r → Makes ts (Shape.Fields parts) (Ty.Fields r)
makes-fields ts parts r h = record { below = (h.below, h.rising); value = ap Ty.Fields h.value }

pub ruleset store_steps = (
  makes-var,
  makes-int,
  makes-bool,
  makes-text,
  makes-arrow,
  makes-even,
  makes-apply,
  makes-all,
  makes-ex,
  makes-lam,
  makes-mu,
  makes-fields,
  makes-sum,
  begins-itself,
  begins-then,
)

-- ---- the parts of a record, one after another

parts-below-push : (n : ℕ) (parts : Parts) (x : Label × ℕ) → ArePartsBelow n parts → x.1 < n → ArePartsBelow n (parts ++ x ∷ [])
parts-below-push n [] x h w = (w, tt)
parts-below-push n (y ∷ ys) x h w = (h.0, parts-below-push n ys x h.1 w)

-- the same label may follow parts that have the labels of these fields
may-follow : (ts : List Ty) (parts : Parts) (zs : Pairs) (l : Label) → row_at ts parts ≡ row zs → MayFollow (map_parts (λ t. t) zs) l → MayFollow parts l
may-follow ts [] zs l e m = tt
may-follow ts (x ∷ []) [] l e m = absurd (cc)
may-follow ts (x ∷ []) (z ∷ []) l e m = let p : z.0 ≡ x.0 = cc in subst (λ k. LabelBefore k l) p m
may-follow ts (x ∷ []) (z ∷ y ∷ zs) l e m = absurd (cc)
may-follow ts (x ∷ y ∷ ys) [] l e m = absurd (cc)
may-follow ts (x ∷ y ∷ ys) (z ∷ []) l e m = absurd (cc)
may-follow ts (x ∷ y ∷ ys) (z ∷ w ∷ zs) l e m = let p : row_at ts (y ∷ ys) ≡ row (w ∷ zs) = cc in may-follow ts (y ∷ ys) (w ∷ zs) l p m

row-push : (ts : List Ty) (parts : Parts) (zs : Pairs) (x : Label × ℕ) → row_at ts parts ≡ row zs
    → row_at ts (parts ++ x ∷ []) ≡ row (zs ++ (x.0, at ts x.1) ∷ [])
row-push ts [] [] x e = refl
row-push ts [] (z ∷ zs) x e = absurd (cc)
row-push ts (y ∷ ys) [] x e = absurd (cc)
row-push ts (y ∷ ys) (z ∷ zs) x e =
    let p : y.0 ≡ z.0 = cc in
    let q : at ts y.1 ≡ z.1 = cc in
    let r : row_at ts ys ≡ row zs = cc in
    λ i. Row.More (p i) (q i) (row-push ts ys zs x r i)

-- the same parts of more types
parts-more : (ts us : List Ty) (parts : Parts) (r : Row) → Begins ts us → MakesParts ts parts r → MakesParts us parts r
parts-more ts us parts r b h = record {
  below = parts_below-more (length ts) (length us) parts (begins-length ts us b) h.below;
  rising = h.rising;
  value = ap (λ xs. row_at xs parts) b.whole_is ∙ (row_at-append ts b.rest parts h.below ∙ h.value);
}

-- one more part, of the next label and with a number of its type, makes one more field
pub parts-push : (ts us : List Ty) (parts : Parts) (xs : Pairs) (i : ℕ) (l : Label) (n : ℕ) (x : Label × Ty)
    → MakesParts ts parts (row (take i xs)) → Begins ts us → Holds us n x.1 → l ≡ x.0 → x ≡ get_or xs i x → i < length xs → Rises xs
    → MakesParts us (parts ++ (l, n) ∷ []) (row (take (i + 1) xs))
parts-push ts us parts xs i l n x made b h e g w r =
    let m = parts-more ts us parts (row (take i xs)) b made in
    let f : MayFollow (map_parts (λ t. t) (take i xs)) (get_or xs i x).0 = may_follow-at (λ t. t) xs i x w r in
    let f' : MayFollow (map_parts (λ t. t) (take i xs)) l = subst (MayFollow (map_parts (λ t. t) (take i xs))) (sym (e ∙ ap (λ p. p.0) g)) f in
    let whole : take (i + 1) xs ≡ take i xs ++ get_or xs i x ∷ [] = take_more xs i x w in
    let last : get_or xs i x ≡ (l, at us n) = sym g ∙ (λ j. (sym e j, sym h.value j)) in
    record {
      below = parts-below-push (length us) parts (l, n) m.below h.within;
      rising = rises-push parts (l, n) m.rising (may-follow us parts (take i xs) l m.value f');
      value = row-push us parts (take i xs) (l, n) m.value ∙ ap row (sym (whole ∙ ap (λ y. take i xs ++ y ∷ []) last));
    }

-- what is left of some fields after one more of them is still no larger than all of them
pub smaller : (xs : Pairs) (i : ℕ) (d : Label × Ty) → i < length xs → nodes_pairs (drop i xs) ≤ nodes_pairs xs → nodes_pairs (drop (i + 1) xs) ≤ nodes_pairs xs
smaller xs i d w h =
    let e : drop i xs ≡ get_or xs i d ∷ drop (suc i) xs = drop-cons xs i d w in
    let m : nodes_pairs (drop i xs) ≡ nodes (get_or xs i d).1 + nodes_pairs (drop (suc i) xs) + 1 = ap nodes_pairs e in
    let n : suc i ≡ i + 1 = omega arith in
    subst (λ k. nodes_pairs (drop k xs) ≤ nodes_pairs xs) n (omega (arith, m, h))

-- one more field of a record was put
pub fields-step : (old ts us : List Ty) (parts new : Parts) (xs : Pairs) (i : ℕ) (l : Label) (n : ℕ) (x : Label × Ty)
    → Begins old ts → MakesParts ts parts (row (take i xs)) → nodes_pairs (drop i xs) ≤ nodes_pairs xs
    → Begins ts us → Holds us n x.1 → l ≡ x.0 → x ≡ get_or xs i x → i < length xs → Rises xs → new ≡ parts ++ (l, n) ∷ []
    → Begins old us × MakesParts us new (row (take (i + 1) xs)) × (nodes_pairs (drop (i + 1) xs) ≤ nodes_pairs xs)
fields-step old ts us parts new xs i l n x b made small grows h e g w r is = (
  begins-then old ts us b grows,
  subst (λ p. MakesParts us p (row (take (i + 1) xs))) (sym is)
      (parts-push ts us parts xs i l n x made grows h e g w r),
  smaller xs i x w small,
)
