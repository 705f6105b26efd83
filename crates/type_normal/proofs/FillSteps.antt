-- What hereditary substitution does at each form of type, with indexes counted as the code counts them.
-- Main results: fill-same, fill-above, row-put_in.
use Rattle.std.proofs.Common.{◌≡◌, ℕ, zero, suc, ◌+◌, ◌-◌, ◌<◌, ◌≤◌, [], ◌∷◌, refl, ap, ap₂, ◌∙◌, arith}
use Rattle.omega_kinds.specs.Kind.{Kind}
use Rattle.omega_types.specs.Ty.{Ty, Row}
use Rattle.omega_types.specs.Inner.Bound.{bound_of, bound_row}
use Rattle.omega_types.specs.Fields.{Pairs, row}
use Rattle.omega_types.specs.Index.{shift, taken, kept, raised, slot}
use Rattle.omega_types.specs.Normaliser.{Args, stuck, whole, tree, apply_part, fill_part, put_in, put_in_row, args, hsubst}
use Rattle.omega_types.specs.Substitution.{rename}
use Rattle.omega_types.proofs.Single.{shift-zero}
use Rattle.omega_types.proofs.Steps.{deeper, map_parts}

-- an index below that of the substitution stays
pub slot-below : (i j : ℕ) → j < i → slot i j ≡ kept j
slot-below zero j h = absurd (omega (arith, h))
slot-below (suc i) zero h = refl
slot-below (suc i) (suc j) h = ap raised (slot-below i j (omega arith))

-- a greater index is one less
pub slot-above : (i j : ℕ) → i < j → slot i j ≡ kept (j - 1)
slot-above zero zero h = absurd (omega (arith, h))
slot-above zero (suc j) h = ap kept (omega arith)
slot-above (suc i) zero h = absurd (omega (arith, h))
slot-above (suc i) (suc j) h = ap raised (slot-above i j (omega arith)) ∙ ap kept (omega arith)

-- at the index of the substitution the type is put in
pub slot-same : (i j : ℕ) → j ≡ i → slot i j ≡ taken
slot-same zero zero h = refl
slot-same zero (suc j) h = absurd (omega (arith, h))
slot-same (suc i) zero h = absurd (omega (arith, h))
slot-same (suc i) (suc j) h = ap raised (slot-same i j (omega arith))

-- variables

-- at the index of the substitution stands the argument
pub fill-same : (k : Kind) (a : Ty) (i j : ℕ) → j ≡ i → fill_part k (args k) a (slot i j) ≡ whole a k (args k)
fill-same k a i j h = ap (fill_part k (args k) a) (slot-same i j h)

-- a greater index is one less
pub fill-above : (k : Kind) (a : Ty) (i j : ℕ) → i < j → fill_part k (args k) a (slot i j) ≡ stuck (Ty.Var (j - 1))
fill-above k a i j h = ap (fill_part k (args k) a) (slot-above i j h)

-- a part that mentions neither the variable nor a greater index

mutual
  -- hereditary substitution leaves a type whose free indexes are all below its index
  pub put_in-unchanged : (k : Kind) (A : Args k) (i : ℕ) (a t : Ty) → bound_of t ≤ i → put_in k A i a t ≡ stuck t
  put_in-unchanged k A i a (Ty.Var j) h = ap (fill_part k A a) (slot-below i j (omega arith))
  put_in-unchanged k A i a Ty.Int h = refl
  put_in-unchanged k A i a Ty.Bool h = refl
  put_in-unchanged k A i a Ty.Text h = refl
  put_in-unchanged k A i a (Ty.Arrow s t) h = ap₂ (λ p q. stuck (Ty.Arrow (tree p) (tree q))) (put_in-unchanged k A i a s (omega arith)) (put_in-unchanged k A i a t (omega arith))
  put_in-unchanged k A i a (Ty.Fields row) h = ap (λ r. stuck (Ty.Fields r)) (put_in_row-unchanged k A i a row h)
  put_in-unchanged k A i a (Ty.Sum row) h = ap (λ r. stuck (Ty.Sum r)) (put_in_row-unchanged k A i a row h)
  put_in-unchanged k A i a (Ty.All l b) h = ap (λ p. stuck (Ty.All l (tree p))) (put_in-unchanged k A (suc i) (rename suc a) b (omega arith))
  put_in-unchanged k A i a (Ty.Ex l b) h = ap (λ p. stuck (Ty.Ex l (tree p))) (put_in-unchanged k A (suc i) (rename suc a) b (omega arith))
  put_in-unchanged k A i a (Ty.Mu b) h = ap (λ p. stuck (Ty.Mu (tree p))) (put_in-unchanged k A (suc i) (rename suc a) b (omega arith))
  put_in-unchanged k A i a (Ty.Lam l b) h = ap (λ p. stuck (Ty.Lam l (tree p))) (put_in-unchanged k A (suc i) (rename suc a) b (omega arith))
  put_in-unchanged k A i a (Ty.Apply f t) h = ap₂ (λ p q. apply_part p (tree q)) (put_in-unchanged k A i a f (omega arith)) (put_in-unchanged k A i a t (omega arith))

  pub put_in_row-unchanged : (k : Kind) (A : Args k) (i : ℕ) (a : Ty) (row : Row) → bound_row row ≤ i → put_in_row k A i a row ≡ row
  put_in_row-unchanged k A i a Row.End h = refl
  put_in_row-unchanged k A i a (Row.More l t rest) h = ap₂ (λ p r. Row.More l (tree p) r) (put_in-unchanged k A i a t (omega arith)) (put_in_row-unchanged k A i a rest (omega arith))

-- a type put in below a binder, with indexes counted as the code counts them
pub put_in-under : (k : Kind) (at depth : ℕ) (arg b : Ty) → tree (put_in k (args k) (suc at) (rename suc (shift depth 0 arg)) b) ≡ tree (put_in k (args k) (at + 1) (shift (depth + 1) 0 arg) b)
put_in-under k at depth arg b = ap₂ (λ i a. tree (put_in k (args k) i a b)) (next at) (deeper depth arg)
  where
    next : (n : ℕ) → suc n ≡ n + 1
    next n = omega arith

-- an argument raised past no binders is the argument
pub put_in-outermost : (k : Kind) (i : ℕ) (arg b : Ty) → tree (put_in k (args k) i (shift 0 0 arg) b) ≡ tree (put_in k (args k) i arg b)
put_in-outermost k i arg b = ap (λ a. tree (put_in k (args k) i a b)) (shift-zero 0 arg)

-- hereditary substitution in a list of fields is that in their row
pub row-put_in : (k : Kind) (i : ℕ) (a : Ty) (xs : Pairs) → row (map_parts (hsubst k i a) xs) ≡ put_in_row k (args k) i a (row xs)
row-put_in k i a [] = refl
row-put_in k i a (x ∷ xs) = ap (Row.More x.0 (hsubst k i a x.1)) (row-put_in k i a xs)

-- an operator whose kind takes no argument
pub apply-star : (t : Ty) (A : Args Kind.Star) (a : Ty) → apply_part (whole t Kind.Star A) a ≡ stuck (Ty.Apply t a)
apply-star (Ty.Lam k b) A a = refl
apply-star (Ty.Var i) A a = refl
apply-star _ A a = refl
