-- The equality of shapes, and what they feed a hasher.
use Rattle.std.proofs.Common.{◌≡◌, ◌↔◌, ℕ, [], ◌∷◌, Bool as Truth, true, false, ◌&&◌, ◌==◌, IsTrue, refl, sym, ap, ap₂, subst}
use Rattle.std.proofs.lemmas.Bool.{eqb-true, eq-eqb, and_parts, and_from, false≢true}
use Rattle.std.specs.Cmp.{IsEquivalence, IsPartialEquivalence, partial_equiv_from_equiv}
use Rattle.std.specs.Ordering.{is_eq}
use Rattle.omega_kinds.specs.Kind.{Kind, kind_eq}
use Rattle.omega_kinds.specs.LabelOrder.{label_cmp}
use Rattle.omega_kinds.proofs.LabelLaws.{label-yes, label-self}
use Rattle.type_store.specs.Shape.{Shape, Parts, parts_eq, shape_eq}
use Rattle.type_store.specs.Inner.Feed.{fed_shape}

-- false is not true
pub no : {A : Type 0} → false ≡ true → A
no e = absurd (false≢true e)

-- two truth values are the same if each holds where the other does
pub truths : (a b : Truth) → (a ≡ true → b ≡ true) → (b ≡ true → a ≡ true) → a ≡ b
truths true true f g = refl
truths true false f g = no (f refl)
truths false true f g = no (g refl)
truths false false f g = refl

-- kinds that the test takes for the same are the same
pub kind_eq-yes : (a b : Kind) → kind_eq a b ≡ true → a ≡ b
kind_eq-yes Kind.Star Kind.Star e = refl
kind_eq-yes Kind.Star (Kind.Arrow c d) e = no e
kind_eq-yes (Kind.Arrow a b) Kind.Star e = no e
kind_eq-yes (Kind.Arrow a b) (Kind.Arrow c d) e =
    let p = and_parts (kind_eq a c) (kind_eq b d) e in ap₂ Kind.Arrow (kind_eq-yes a c p.0) (kind_eq-yes b d p.1)

-- the test takes each kind for the same as itself
pub kind_eq-self : (a : Kind) → kind_eq a a ≡ true
kind_eq-self Kind.Star = refl
kind_eq-self (Kind.Arrow a b) = and_from (kind_eq a a) (kind_eq b b) (kind_eq-self a) (kind_eq-self b)

parts_eq-yes : (xs ys : Parts) → parts_eq xs ys ≡ true → xs ≡ ys
parts_eq-yes [] [] e = refl
parts_eq-yes (x ∷ xs) (y ∷ ys) e =
    let p = and_parts (is_eq (label_cmp x.0 y.0) && x.1 == y.1) (parts_eq xs ys) e in
    let q = and_parts (is_eq (label_cmp x.0 y.0)) (x.1 == y.1) p.0 in
    λ i. (label-yes x.0 y.0 q.0 i, eqb-true x.1 y.1 q.1 i) ∷ parts_eq-yes xs ys p.1 i
parts_eq-yes _ _ e = no e

parts_eq-self : (xs : Parts) → parts_eq xs xs ≡ true
parts_eq-self [] = refl
parts_eq-self (x ∷ xs) =
    and_from (is_eq (label_cmp x.0 x.0) && x.1 == x.1) (parts_eq xs xs)
    (and_from (is_eq (label_cmp x.0 x.0)) (x.1 == x.1) (label-self x.0) (eq-eqb x.1 x.1 refl)) (parts_eq-self xs)

two : (a b c d : ℕ) → (a == c && b == d) ≡ true → (a ≡ c) × (b ≡ d)
two a b c d e = let p = and_parts (a == c) (b == d) e in (eqb-true a c p.0, eqb-true b d p.1)

bound : (a b : ℕ) (j k : Kind) → (a == b && kind_eq j k) ≡ true → (j ≡ k) × (a ≡ b)
bound a b j k e = let p = and_parts (a == b) (kind_eq j k) e in (kind_eq-yes j k p.1, eqb-true a b p.0)

bound-self : (a : ℕ) (k : Kind) → (a == a && kind_eq k k) ≡ true
bound-self a k = and_from (a == a) (kind_eq k k) (eq-eqb a a refl) (kind_eq-self k)

-- shapes that the test takes for the same are the same
pub shape_eq-yes : (s t : Shape) → shape_eq s t ≡ true → s ≡ t
shape_eq-yes (Shape.Var i) (Shape.Var j) e = ap Shape.Var (eqb-true i j e)
shape_eq-yes Shape.Int Shape.Int e = refl
shape_eq-yes Shape.Bool Shape.Bool e = refl
shape_eq-yes Shape.Text Shape.Text e = refl
shape_eq-yes (Shape.Arrow a b) (Shape.Arrow c d) e = let p = two a b c d e in ap₂ Shape.Arrow p.0 p.1
shape_eq-yes (Shape.Fields r) (Shape.Fields q) e = ap Shape.Fields (parts_eq-yes r q e)
shape_eq-yes (Shape.Sum r) (Shape.Sum q) e = ap Shape.Sum (parts_eq-yes r q e)
shape_eq-yes (Shape.All j a) (Shape.All k b) e = let p = bound a b j k e in ap₂ Shape.All p.0 p.1
shape_eq-yes (Shape.Ex j a) (Shape.Ex k b) e = let p = bound a b j k e in ap₂ Shape.Ex p.0 p.1
shape_eq-yes (Shape.Mu a) (Shape.Mu b) e = ap Shape.Mu (eqb-true a b e)
shape_eq-yes (Shape.Lam j a) (Shape.Lam k b) e = let p = bound a b j k e in ap₂ Shape.Lam p.0 p.1
shape_eq-yes (Shape.Apply a b) (Shape.Apply c d) e = let p = two a b c d e in ap₂ Shape.Apply p.0 p.1
shape_eq-yes _ _ e = no e

-- the test takes each shape for the same as itself
pub shape_eq-self : (s : Shape) → shape_eq s s ≡ true
shape_eq-self (Shape.Var i) = eq-eqb i i refl
shape_eq-self Shape.Int = refl
shape_eq-self Shape.Bool = refl
shape_eq-self Shape.Text = refl
shape_eq-self (Shape.Arrow a b) = and_from (a == a) (b == b) (eq-eqb a a refl) (eq-eqb b b refl)
shape_eq-self (Shape.Fields r) = parts_eq-self r
shape_eq-self (Shape.Sum r) = parts_eq-self r
shape_eq-self (Shape.All k b) = bound-self b k
shape_eq-self (Shape.Ex k b) = bound-self b k
shape_eq-self (Shape.Mu b) = eq-eqb b b refl
shape_eq-self (Shape.Lam k b) = bound-self b k
shape_eq-self (Shape.Apply f a) = and_from (f == f) (a == a) (eq-eqb f f refl) (eq-eqb a a refl)

-- the test takes shapes that are the same for the same
pub shape_eq-of : (s t : Shape) → s ≡ t → shape_eq s t ≡ true
shape_eq-of s t e = subst (λ u. shape_eq s u ≡ true) e (shape_eq-self s)

-- the test is an equivalence
pub shape_laws : IsEquivalence shape_eq
shape_laws = record {
  refl = shape_eq-self;
  symm = λ s t. truths (shape_eq s t) (shape_eq t s) (λ e. shape_eq-of t s (sym (shape_eq-yes s t e))) (λ e. shape_eq-of s t (sym (shape_eq-yes t s e)));
  congr = λ s t u e. ap (λ v. shape_eq v u) (shape_eq-yes s t e);
}

-- and so it is a partial equivalence
pub shape_part_laws : IsPartialEquivalence shape_eq
shape_part_laws = partial_equiv_from_equiv shape_laws

-- shapes that the test takes for the same feed a hasher the same
pub shape_alike : (s t : Shape) → IsTrue (shape_eq s t) → fed_shape s ≡ fed_shape t
shape_alike s t e = ap fed_shape (shape_eq-yes s t e)

-- a test that is exact is this one
pub parts_test-is : (b : Truth) (r q : Parts) → (IsTrue b ↔ r ≡ q) → b ≡ parts_eq r q
parts_test-is b r q e = truths b (parts_eq r q) (λ p. subst (λ u. parts_eq r u ≡ true) (e.0 p) (parts_eq-self r)) (λ p. e.1 (parts_eq-yes r q p))
