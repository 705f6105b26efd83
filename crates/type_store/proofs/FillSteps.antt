-- What a substitution does at each form of a numbered type.
-- Main results: put-apply, fills-apply, fills-all, row-filled.
use Rattle.std.proofs.Common.{◌≡◌, ℕ, suc, ◌+◌, ◌-◌, ◌<◌, ◌≤◌, List, [], ◌∷◌, length, refl, sym, ap, ap₂, subst, ◌∙◌}
use Rattle.omega_kinds.specs.Kind.{Kind}
use Rattle.omega_types.specs.Inner.Bound.{bound_of}
use Rattle.omega_types.specs.Fields.{row}
use Rattle.omega_types.specs.Index.{Slot, taken, kept, slot, shift}
use Rattle.omega_types.specs.Normaliser.{Args, Part, stuck, whole, tree, apply_part, args, fill_part, hsubst, put_in}
use Rattle.omega_types.specs.Substitution.{rename}
use Rattle.omega_types.specs.Ty.{Ty, Row}
use Rattle.omega_types.proofs.Single.{shift-zero}
use Rattle.type_normal.proofs.FillSteps.{apply-star, fill-same, fill-above, put_in-unchanged, put_in-under}
use Rattle.type_store.specs.Inner.Memo.{filled, filled_row}
use Rattle.type_store.specs.Shape.{Parts}
use Rattle.type_store.specs.Trees.{at, row_at, Begins, Holds}
use Rattle.type_store.proofs.MapSteps.{mapped_pairs}
use Rattle.type_store.proofs.TreeLaws.{begins-itself, begins-then, begins-at, part-below}

-- ---- what came in for a variable of kind * is no operator

abbrev AtStar : Part → Type 0
AtStar (stuck t) = Unit {0}
AtStar (whole t k A) = k ≡ Kind.Star

-- the kind of an operator is not *
pub no-arrow : {A : Type 0} {k l : Kind} → Kind.Arrow k l ≡ Kind.Star → A
no-arrow {k = k} {l = l} e = absurd (let f : Kind.Arrow k l ≡ Kind.Star → ⊥ = λ p. cc in f e)

applied : (p : Part) (a : Ty) → AtStar p → apply_part p a ≡ stuck (Ty.Apply (tree p) a)
applied (stuck t) a h = refl
applied (whole t Kind.Star A) a h = apply-star t A a
applied (whole t (Kind.Arrow k l) A) a h = no-arrow h

filled-star : (A : Args Kind.Star) (a : Ty) (s : Slot) → AtStar (fill_part Kind.Star A a s)
filled-star A a taken = refl
filled-star A a (kept n) = tt

put-star : (A : Args Kind.Star) (i : ℕ) (a t : Ty) → AtStar (put_in Kind.Star A i a t)
put-star A i a (Ty.Var j) = filled-star A a (slot i j)
put-star A i a Ty.Int = tt
put-star A i a Ty.Bool = tt
put-star A i a Ty.Text = tt
put-star A i a (Ty.Arrow s t) = tt
put-star A i a (Ty.Fields row) = tt
put-star A i a (Ty.Sum row) = tt
put-star A i a (Ty.All k b) = tt
put-star A i a (Ty.Ex k b) = tt
put-star A i a (Ty.Mu b) = tt
put-star A i a (Ty.Lam k b) = tt
put-star A i a (Ty.Apply f t) = subst AtStar (sym (applied (put_in Kind.Star A i a f) (tree (put_in Kind.Star A i a t)) (put-star A i a f))) tt

-- a type of kind * is put into an application by putting it into the operator and into the argument: no redex arises
pub put-apply : (A : Args Kind.Star) (i : ℕ) (a f t : Ty)
    → tree (put_in Kind.Star A i a (Ty.Apply f t)) ≡ Ty.Apply (tree (put_in Kind.Star A i a f)) (tree (put_in Kind.Star A i a t))
put-apply A i a f t = ap tree (applied (put_in Kind.Star A i a f) (tree (put_in Kind.Star A i a t)) (put-star A i a f))

-- ---- variables, and types that stay

-- the variable for which a type comes in becomes that type, raised past the binders around it
pub filled-var_same : (index i : ℕ) (a : Ty) → i ≡ index → filled index a (Ty.Var i) ≡ shift index 0 a
filled-var_same index i a e = ap tree (fill-same Kind.Star (shift index 0 a) index i e)

-- the index of a variable above the one for which a type comes in is less by one
pub filled-var_above : (index i : ℕ) (a : Ty) → index < i → filled index a (Ty.Var i) ≡ Ty.Var (i - 1)
filled-var_above index i a h = ap tree (fill-above Kind.Star (shift index 0 a) index i h)

-- a type with no free index from the one on for which another type comes in stays as it is
pub filled-still : (index : ℕ) (a t : Ty) → bound_of t ≤ index → filled index a t ≡ t
filled-still index a t h = ap tree (put_in-unchanged Kind.Star (args Kind.Star) index (shift index 0 a) t h)

-- for index 0 a type is put in as it is, by hereditary substitution
pub filled-outermost : (a t : Ty) → filled 0 a t ≡ hsubst Kind.Star 0 a t
filled-outermost a t = ap (λ u. hsubst Kind.Star 0 u t) (shift-zero 0 a)

-- a type that stays is where it was
pub still : (ts : List Ty) (n index arg : ℕ) → n < length ts → bound_of (at ts n) ≤ index → Holds ts n (filled index (at ts arg) (at ts n))
still ts n index arg w h = record { within = w; value = sym (filled-still index (at ts arg) (at ts n) h) }

-- ---- two parts, one after the other

-- the application of two parts that were filled one after the other is the filled application
pub fills-apply : (index : ℕ) (old mid top us : List Ty) (arg a b a' b' n : ℕ) → Begins old mid → Begins mid top → arg < length old → b < length old
    → Holds mid a' (filled index (at old arg) (at old a)) → Holds top b' (filled index (at mid arg) (at mid b)) → Holds us n (Ty.Apply (at top a') (at top b'))
    → Holds us n (filled index (at old arg) (Ty.Apply (at old a) (at old b)))
fills-apply index old mid top us arg a b a' b' n p q w x h k made =
    let first : at top a' ≡ filled index (at old arg) (at old a) = begins-at mid top a' q h.within ∙ h.value in
    let second : at top b' ≡ filled index (at old arg) (at old b) = k.value ∙ ap₂ (filled index) (begins-at old mid arg p w) (begins-at old mid b p x) in
    let whole = put-apply (args Kind.Star) index (shift index 0 (at old arg)) (at old a) (at old b) in
    record { within = made.within; value = made.value ∙ (ap₂ Ty.Apply first second ∙ sym whole) }

-- ---- below a binder

-- below one more binder the index is greater by one, and so is what comes in raised by one more
pub filled-under : (index : ℕ) (a b : Ty) → tree (put_in Kind.Star (args Kind.Star) (suc index) (rename suc (shift index 0 a)) b) ≡ filled (index + 1) a b
filled-under index a b = put_in-under Kind.Star index index a b

module _ (binder : Ty → Ty) (fills : (index : ℕ) (a b : Ty) → filled index a (binder b) ≡ binder (filled (index + 1) a b)) where
  under : (index next : ℕ) (old ts us : List Ty) (arg b b' n : ℕ) → next ≡ index + 1
      → Holds ts b' (filled next (at old arg) (at old b)) → Holds us n (binder (at ts b')) → Holds us n (filled index (at old arg) (binder (at old b)))
  under index next old ts us arg b b' n e h made = record {
    within = made.within;
    value = made.value ∙ (ap binder (h.value ∙ ap (λ m. filled m (at old arg) (at old b)) e) ∙ sym (fills index (at old arg) (at old b)));
  }

-- the universal type over a body that was filled below the binder is the filled universal type
pub fills-all : (index next : ℕ) (k : Kind) (old ts us : List Ty) (arg b b' n : ℕ) → next ≡ index + 1
    → Holds ts b' (filled next (at old arg) (at old b)) → Holds us n (Ty.All k (at ts b')) → Holds us n (filled index (at old arg) (Ty.All k (at old b)))
fills-all index next k = under (Ty.All k) (λ index a b. ap (Ty.All k) (filled-under index a b)) index next

-- the existential type over a body that was filled below the binder is the filled existential type
pub fills-ex : (index next : ℕ) (k : Kind) (old ts us : List Ty) (arg b b' n : ℕ) → next ≡ index + 1
    → Holds ts b' (filled next (at old arg) (at old b)) → Holds us n (Ty.Ex k (at ts b')) → Holds us n (filled index (at old arg) (Ty.Ex k (at old b)))
fills-ex index next k = under (Ty.Ex k) (λ index a b. ap (Ty.Ex k) (filled-under index a b)) index next

-- the type operator over a body that was filled below the binder is the filled type operator
pub fills-lam : (index next : ℕ) (k : Kind) (old ts us : List Ty) (arg b b' n : ℕ) → next ≡ index + 1
    → Holds ts b' (filled next (at old arg) (at old b)) → Holds us n (Ty.Lam k (at ts b')) → Holds us n (filled index (at old arg) (Ty.Lam k (at old b)))
fills-lam index next k = under (Ty.Lam k) (λ index a b. ap (Ty.Lam k) (filled-under index a b)) index next

-- the recursive type over a body that was filled below the binder is the filled recursive type
pub fills-mu : (index next : ℕ) (old ts us : List Ty) (arg b b' n : ℕ) → next ≡ index + 1
    → Holds ts b' (filled next (at old arg) (at old b)) → Holds us n (Ty.Mu (at ts b')) → Holds us n (filled index (at old arg) (Ty.Mu (at old b)))
fills-mu index next = under Ty.Mu (λ index a b. ap Ty.Mu (filled-under index a b)) index next

-- ---- the parts of a record or a sum

-- the fields of parts that are filled one by one are the filled fields of the parts
pub row-filled : (index : ℕ) (a : Ty) (ts : List Ty) (parts : Parts) → row (mapped_pairs (filled index a) ts parts) ≡ filled_row index a (row_at ts parts)
row-filled index a ts [] = refl
row-filled index a ts (x ∷ xs) = ap (Row.More x.0 (filled index a (at ts x.1))) (row-filled index a ts xs)

-- the argument's number stands for the same type later
pub same-arg : (index : ℕ) (old ts us : List Ty) (arg n : ℕ) (t : Ty) → Begins old ts → arg < length old → Holds us n (filled index (at ts arg) t)
    → Holds us n (filled index (at old arg) t)
same-arg index old ts us arg n t b w h = subst (λ a. Holds us n (filled index a t)) (begins-at old ts arg b w) h

pub ruleset fill_steps = (begins-itself, begins-then, part-below, still, filled-outermost)

pub ruleset var_steps = (filled-var_same, filled-var_above)
