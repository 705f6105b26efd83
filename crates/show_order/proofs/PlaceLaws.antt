-- The last places of names with one name more, and fields in their order.
-- Main results: pushed, unarranged, arranged.
use Rattle.std.proofs.Common.{◌≡◌, ℕ, suc, ◌+◌, ◌≤◌, ◌==◌, List, [], ◌∷◌, ◌++◌, Bool, true, false, Option, Some, None, length, arith, refl, sym, ap, subst, ◌∙◌}
use Rattle.std.specs.Prelude.{IsPermutation, cond, map}
use Rattle.std.specs.Borrow.{Bor}
use Rattle.std.specs.Bool.{one_answer}
use Rattle.std.specs.Cmp.Lexicographic.{pointwise, bytes_decides}
use Rattle.std.specs.HashMap.{HashMap, Updates, get}
use Rattle.std.specs.List.Sorted.{IsNonDecreasingBy}
use Rattle.std.specs.Option.{option_or}
use Rattle.std.proofs.lemmas.List.Sorted.{IsPermutation-map, IsPermutation-refl}
use Rattle.omega_kinds.specs.Name.{Name, same_name}
use Rattle.omega_kinds.proofs.NameLaws.{same_name-true, same_name-itself}
use Rattle.show_order.specs.Inner.Arranged.{IsArranged}
use Rattle.show_order.specs.Inner.Places.{HasPlaces, names_of, place_from, rank}

equal-name : (y x : Name) → pointwise ◌==◌ y x ≡ same_name x y
equal-name y x =
    one_answer (pointwise ◌==◌ y x) (same_name x y) (bytes_decides y x) (λ h. sym (same_name-true x y h), λ e. ap (same_name x) e ∙ same_name-itself x)

or-later : (b : Bool) (k m : ℕ) (o r : Option ℕ) → k ≡ m → option_or (cond b (Some k) o) r ≡ cond b (Some m) (option_or o r)
or-later true k m o r e = ap Some e
or-later false k m o r e = refl

-- one more name at the end
place-last : (at : ℕ) (names : List Name) (n x : Name) → place_from at (names ++ n ∷ []) x ≡ cond (same_name x n) (Some (at + length names)) (place_from at names x)
place-last at [] n x = ap (λ k. cond (same_name x n) (Some k) None) (none at)
  where
    none : (k : ℕ) → k ≡ k + 0
    none k = omega arith
place-last at (y ∷ ys) n x =
    ap (λ o. option_or o (cond (same_name x y) (Some at) None)) (place-last (at + 1) ys n x) ∙ or-later (same_name x n) (at + 1 + length ys) (at + length (y ∷ ys)) (place_from (at + 1) ys x) (cond (same_name x y) (Some at) None) (moved at (length ys))
  where
    moved : (k m : ℕ) → k + 1 + m ≡ k + suc m
    moved k m = omega arith

names-last : {X : Type 0} (items : List (Name × X)) (i : Name × X) → names_of (items ++ i ∷ []) ≡ names_of items ++ i.0 ∷ []
names-last [] i = refl
names-last (j ∷ items) i = ap (λ more. j.0 ∷ more) (names-last items i)

names-length : {X : Type 0} (items : List (Name × X)) → length (names_of items) ≡ length items
names-length [] = refl
names-length (i ∷ items) = ap suc (names-length items)

-- the map of the places of the names, with one item more
pub pushed : {X S : Type 0} (places new : HashMap Name ℕ S) (items more : List (Name × X)) (i : Name × X) (key : Name) (at : ℕ) → more ≡ items ++ i ∷ [] → key ≡ i.0 → at ≡ length items
    → Updates (pointwise ◌==◌) places new key (Some at) → HasPlaces places (names_of items) → HasPlaces new (names_of more)
pushed places new items more i key at e k l u h x =
    u.0 x ∙ (ap (λ b. cond b (Some at) (get (pointwise ◌==◌) places x)) (equal-name key x ∙ ap (same_name x) k) ∙ (ap (cond (same_name x i.0) (Some at)) (h x)
    ∙ (ap (λ n. cond (same_name x i.0) (Some n) (place_from 0 (names_of items) x)) (l ∙ sym (names-length items) ∙ start (length (names_of items)))
    ∙ sym (ap (λ list. place_from 0 (names_of list) x) e ∙ (ap (λ names. place_from 0 names x) (names-last items i) ∙ place-last 0 (names_of items) i.0 x)))))
  where
    start : (n : ℕ) → n ≡ 0 + n
    start n = omega arith

-- fields as they stand are arranged where no names are known
pub unarranged : {X : Type 0} (names : List Name) (fields : List (Name × X)) (shown : List (Bor (Name × X))) → names ≡ [] → map (λ f. f.now) shown ≡ fields → IsArranged names fields shown
unarranged {X} names fields shown e p = record {
  all = subst (λ list. IsPermutation list (map (λ f. f.now) shown)) p (IsPermutation-refl (map (λ f. f.now) shown));
  rising = subst (λ list. IsNonDecreasingBy {X = Bor (Name × X)} (λ f. rank list f.now.0) shown) (sym e) (λ i j d le lt. same 0);
}
  where
    same : (k : ℕ) → k ≤ k
    same k = omega arith

-- so are fields that are sorted by their ranks
pub arranged : {X : Type 0} (names : List Name) (fields : List (Name × X)) (listed shown : List (Bor (Name × X))) → map (λ f. f.now) listed ≡ fields → IsPermutation listed shown
    → IsNonDecreasingBy (λ f. rank names f.now.0) shown → IsArranged names fields shown
arranged names fields listed shown p all rising = record {
  all = subst (λ list. IsPermutation list (map (λ f. f.now) shown)) p (IsPermutation-map (λ f. f.now) listed shown all);
  rising = rising;
}
