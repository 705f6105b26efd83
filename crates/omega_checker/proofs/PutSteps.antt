-- A type put in for a variable, and the type that is found, compared form by form.
-- Main results: operators-same, operators-differ, parts-length.
use Rattle.std.proofs.Common.{◌≡◌, ℕ, zero, suc, ◌+◌, ◌≤◌, ◌↔◌, Bool as Truth, true, false, IsTrue, List, length, sym, ap, ap₂, ◌∙◌}
use Rattle.std.proofs.lemmas.List.{length-map}
use Rattle.omega_kinds.specs.Kind.{Kind}
use Rattle.omega_types.specs.Ty.{Ty}
use Rattle.omega_types.specs.Inner.Bound.{bound_of}
use Rattle.omega_types.specs.Fields.{Pairs, row}
use Rattle.omega_types.specs.Index.{shift}
use Rattle.omega_types.specs.Normaliser.{tree, args, hsubst, put_in, put_in_row}
use Rattle.omega_types.specs.Substitution.{rename}
use Rattle.omega_types.proofs.Steps.{map_parts}
use Rattle.type_normal.proofs.FillSteps.{put_in-unchanged, put_in-under, put_in-outermost, row-put_in}
use Rattle.type_store.specs.Shape.{Parts}
use Rattle.type_store.specs.Inner.ShapeLaws.{no}
use Rattle.type_store.specs.Trees.{row_at}
use Rattle.type_store.proofs.FillSteps.{no-arrow, put-apply}
use Rattle.type_store.proofs.PartSteps.{row_at-length}

-- a test of two types is one of two others that are the same
pub same-if : {b : Truth} {s t u v : Ty} → (IsTrue b ↔ s ≡ t) → u ≡ s → v ≡ t → (IsTrue b ↔ u ≡ v)
same-if h e f = (λ y. e ∙ (h.0 y ∙ sym f), λ y. h.1 (sym e ∙ (y ∙ f)))

-- a type with no free index from the variable on stays as it is when another one is put in for the variable
pub unchanged : (k : Kind) (i : ℕ) (a t : Ty) → bound_of t ≤ i → tree (put_in k (args k) i a t) ≡ t
unchanged k i a t h = ap tree (put_in-unchanged k (args k) i a t h)

-- below one more binder the variable is one index further, and what is put in for it is raised by one more
pub put-under : (k : Kind) (i depth n m : ℕ) (a t : Ty) → n ≡ i + 1 → m ≡ depth + 1
    → tree (put_in k (args k) (suc i) (rename suc (shift depth 0 a)) t) ≡ tree (put_in k (args k) n (shift m 0 a) t)
put-under k i depth n m a t e f = put_in-under k i depth a t ∙ ap₂ (λ p q. tree (put_in k (args k) p (shift q 0 a) t)) (sym e) (sym f)

-- hereditary substitution for the innermost variable is putting in below no binder
pub put-outermost : (k : Kind) (a b t : Ty) → b ≡ a → hsubst k zero a t ≡ tree (put_in k (args k) zero (shift 0 0 b) t)
put-outermost k a b t e = sym (ap (λ u. tree (put_in k (args k) zero (shift 0 0 u) t)) e ∙ put_in-outermost k zero a t)

-- the parts of a numbered record stay as many
pub parts-length : (k : Kind) (i : ℕ) (a : Ty) (xs : Pairs) (ts : List Ty) (parts : Parts) → put_in_row k (args k) i a (row xs) ≡ row_at ts parts
    → length xs ≡ length parts
parts-length k i a xs ts parts h =
    sym (row_at-length ts parts (map_parts (hsubst k i a) xs) (sym (row-put_in k i a xs ∙ h)) ∙ length-map xs (λ x. (x.0, hsubst k i a x.1)))

-- ---- the variable is no operator

operator : {a b c d : Ty} → Ty.Apply a b ≡ Ty.Apply c d → a ≡ c
operator e = cc

argument : {a b c d : Ty} → Ty.Apply a b ≡ Ty.Apply c d → b ≡ d
argument e = cc

-- the type that a variable's is put into
abbrev put : Kind → ℕ → Ty → Ty → Ty
put k i a t = tree (put_in k (args k) i a t)

-- an operator at an argument: where the operators are the same the arguments decide, and else nothing more is looked at
pub operators-same : (k : Kind) (i : ℕ) (a body found f t g u : Ty) (x y : Truth) → k ≡ Kind.Star → body ≡ Ty.Apply f t → found ≡ Ty.Apply g u
    → x ≡ true → (IsTrue x ↔ put k i a f ≡ g) → (IsTrue y ↔ put k i a t ≡ u) → (IsTrue y ↔ put k i a body ≡ found)
operators-same (Kind.Arrow j l) i a body found f t g u x y e eb ef ex p q = no-arrow e
operators-same Kind.Star i a body found f t g u x y e eb ef ex p q =
    let w : put Kind.Star i a body ≡ Ty.Apply (put Kind.Star i a f) (put Kind.Star i a t) = ap (put Kind.Star i a) eb ∙ put-apply (args Kind.Star) i a f t in
    (λ h. w ∙ (ap₂ Ty.Apply (p.0 ex) (q.0 h) ∙ sym ef), λ h. q.1 (argument (sym w ∙ (h ∙ ef))))

-- where the operators differ, the applications do
pub operators-differ : (k : Kind) (i : ℕ) (a body found f t g u : Ty) (x : Truth) → k ≡ Kind.Star → body ≡ Ty.Apply f t → found ≡ Ty.Apply g u
    → x ≡ false → (IsTrue x ↔ put k i a f ≡ g) → (IsTrue x ↔ put k i a body ≡ found)
operators-differ (Kind.Arrow j l) i a body found f t g u x e eb ef ex p = no-arrow e
operators-differ Kind.Star i a body found f t g u x e eb ef ex p =
    let w : put Kind.Star i a body ≡ Ty.Apply (put Kind.Star i a f) (put Kind.Star i a t) = ap (put Kind.Star i a) eb ∙ put-apply (args Kind.Star) i a f t in
    (λ h. no (sym ex ∙ h), λ h. p.1 (operator (sym w ∙ (h ∙ ef))))
