-- The least free index: none from the bound on, none below the first possible one, which is free exactly where it is mentioned.
-- Main results: first-mentioned.
use Rattle.std.proofs.Common.{◌≡◌, ℕ, zero, suc, ◌+◌, ◌≤◌, ◌==◌, ◌||◌, min, true, Option, Some, None, refl, ap, ap₂, ◌∙◌, arith}
use Rattle.std.proofs.lemmas.Bool.Decides.{nat_tests}
use Rattle.omega_types.specs.Ty.{Ty, Row}
use Rattle.omega_types.specs.Inner.Bound.{bound_of, bound_row}
use Rattle.type_normal.specs.Inner.Least.{outside, lesser, is_first, least_ty, least_row}
use Rattle.type_normal.specs.Mentioned.{is_mentioned, is_mentioned_row}

pub outside-below : (from i : ℕ) → i + 1 ≤ from → outside from i ≡ None
outside-below from i h = grind (arith, nat_tests)

mutual
  pub least-closed : (from : ℕ) (t : Ty) → bound_of t ≤ from → least_ty from t ≡ None
  least-closed from (Ty.Var i) h = outside-below from i h
  least-closed from Ty.Int h = refl
  least-closed from Ty.Bool h = refl
  least-closed from Ty.Text h = refl
  least-closed from (Ty.Arrow a b) h = ap₂ lesser (least-closed from a (omega (arith, h))) (least-closed from b (omega (arith, h)))
  least-closed from (Ty.Fields row) h = least-closed_row from row h
  least-closed from (Ty.Sum row) h = least-closed_row from row h
  least-closed from (Ty.All k b) h = least-closed (suc from) b (omega (arith, h))
  least-closed from (Ty.Ex k b) h = least-closed (suc from) b (omega (arith, h))
  least-closed from (Ty.Mu b) h = least-closed (suc from) b (omega (arith, h))
  least-closed from (Ty.Lam k b) h = least-closed (suc from) b (omega (arith, h))
  least-closed from (Ty.Apply f a) h = ap₂ lesser (least-closed from f (omega (arith, h))) (least-closed from a (omega (arith, h)))

  pub least-closed_row : (from : ℕ) (row : Row) → bound_row row ≤ from → least_row from row ≡ None
  least-closed_row from Row.End h = refl
  least-closed_row from (Row.More l t rest) h = ap₂ lesser (least-closed from t (omega (arith, h))) (least-closed_row from rest (omega (arith, h)))

pub least-closed_under : (from : ℕ) (t : Ty) → bound_of t ≤ from → least_ty (suc from) t ≡ None
least-closed_under from t h = least-closed (suc from) t (omega (arith, h))

pub least-next : (from : ℕ) (t : Ty) → least_ty (from + 1) t ≡ least_ty (suc from) t
least-next from t = ap (λ n. least_ty n t) (next from)
  where
    next : (n : ℕ) → n + 1 ≡ suc n
    next n = omega arith

zero-min : (n : ℕ) → min 0 n ≡ 0
zero-min n = omega arith

min-zero : (n : ℕ) → min (suc n) 0 ≡ 0
min-zero n = omega arith

suc-min : (n m : ℕ) → min (suc n) (suc m) ≡ suc (min n m)
suc-min n m = omega arith

-- the first possible number is less than no other
pub lesser-first : (a b : Option ℕ) → is_first a ≡ true → lesser a b ≡ a
lesser-first None b e = absurd (cc)
lesser-first (Some zero) None e = refl
lesser-first (Some zero) (Some j) e = ap Some (zero-min j)
lesser-first (Some (suc i)) b e = absurd (cc)

pub ruleset least_steps = (least-closed, least-closed_under, least-next, lesser-first)

-- the index itself is free exactly where it is mentioned

first-lesser : (a b : Option ℕ) → is_first (lesser a b) ≡ (is_first a || is_first b)
first-lesser None b = refl
first-lesser (Some zero) None = refl
first-lesser (Some (suc i)) None = refl
first-lesser (Some zero) (Some j) = ap (λ n. is_first (Some n)) (zero-min j)
first-lesser (Some (suc i)) (Some zero) = ap (λ n. is_first (Some n)) (min-zero i)
first-lesser (Some (suc i)) (Some (suc j)) = ap (λ n. is_first (Some n)) (suc-min i j)

first-outside : (i n : ℕ) → is_first (outside i n) ≡ (n == i)
first-outside i n = grind (arith, nat_tests)

mutual
  -- the least mention is at an index exactly if the test finds the index mentioned
  pub first-mentioned : (i : ℕ) (t : Ty) → is_first (least_ty i t) ≡ is_mentioned i t
  first-mentioned i (Ty.Var n) = first-outside i n
  first-mentioned i Ty.Int = refl
  first-mentioned i Ty.Bool = refl
  first-mentioned i Ty.Text = refl
  first-mentioned i (Ty.Arrow a b) = first-lesser (least_ty i a) (least_ty i b) ∙ ap₂ (λ p q. p || q) (first-mentioned i a) (first-mentioned i b)
  first-mentioned i (Ty.Fields row) = first-mentioned_row i row
  first-mentioned i (Ty.Sum row) = first-mentioned_row i row
  first-mentioned i (Ty.All k b) = first-mentioned (suc i) b
  first-mentioned i (Ty.Ex k b) = first-mentioned (suc i) b
  first-mentioned i (Ty.Mu b) = first-mentioned (suc i) b
  first-mentioned i (Ty.Lam k b) = first-mentioned (suc i) b
  first-mentioned i (Ty.Apply f a) = first-lesser (least_ty i f) (least_ty i a) ∙ ap₂ (λ p q. p || q) (first-mentioned i f) (first-mentioned i a)

  pub first-mentioned_row : (i : ℕ) (row : Row) → is_first (least_row i row) ≡ is_mentioned_row i row
  first-mentioned_row i Row.End = refl
  first-mentioned_row i (Row.More l t rest) = first-lesser (least_ty i t) (least_row i rest) ∙ ap₂ (λ p q. p || q) (first-mentioned i t) (first-mentioned_row i rest)
