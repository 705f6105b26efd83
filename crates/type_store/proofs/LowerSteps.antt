-- A type outside of a binder, found by putting another type in for the binder's variable and shifting back.
-- Main results: lower-yes, lower-no, filled-lowers.
use Rattle.std.proofs.Common.{◌≡◌, ℕ, zero, suc, ◌-◌, ◌<◌, ◌||◌, ◌==◌, List, Some, None, Bool as Truth, true, false, if◌then◌else◌, length, refl, sym, ap, ap₂}
use Rattle.std.proofs.Common.{subst, ◌∙◌, arith}
use Rattle.std.proofs.lemmas.Bool.{eq-eqb, false≢true, ne_eqb, or_parts}
use Rattle.omega_kinds.specs.Kind.{Kind}
use Rattle.omega_types.specs.Index.{bump, raised, kept, slot, shift}
use Rattle.omega_types.specs.Mentions.{Mentions, lower}
use Rattle.omega_types.specs.Normaliser.{Args, stuck, tree, apply_part, args, fill_part, put_in, put_in_row}
use Rattle.omega_types.specs.Substitution.{rename, rename_row}
use Rattle.omega_types.specs.Ty.{Ty, Row, lift}
use Rattle.omega_types.proofs.Algebra.{rename-rename, rename-id}
use Rattle.omega_types.proofs.Mention.{rename-agree}
use Rattle.omega_types.proofs.Single.{shift-suc}
use Rattle.type_normal.specs.Inner.Lifted.{lifted}
use Rattle.type_normal.specs.Mentioned.{is_mentioned, is_mentioned_row}
use Rattle.type_normal.proofs.LiftedSteps.{raised-back}
use Rattle.type_normal.proofs.MentionedBelow.{mentioned-complete}
use Rattle.type_store.specs.Inner.Memo.{filled}
use Rattle.type_store.specs.Numbers.{NumberOf, outside}
use Rattle.type_store.specs.Trees.{at, Begins, Holds}
use Rattle.type_store.proofs.TreeLaws.{begins-at, begins-then, holds-more}

-- ---- a raised type does not mention the variable

not-both : {A : Type 0} (b : Truth) → b ≡ true → b ≡ false → A
not-both b p q = absurd (false≢true (sym q ∙ p))

abbrev Misses : (ℕ → ℕ) → ℕ → Type 0
Misses r i = (j : ℕ) → r j ≡ i → ⊥

lift-misses : (r : ℕ → ℕ) (i : ℕ) → Misses r i → Misses (lift r) (suc i)
lift-misses r i h zero e = omega (arith, e)
lift-misses r i h (suc j) e = h j (omega (arith, e))

mutual
  missed : (r : ℕ → ℕ) (i : ℕ) (t : Ty) → Misses r i → is_mentioned i (rename r t) ≡ false
  missed r i (Ty.Var j) h = ne_eqb (r j) i (h j)
  missed r i Ty.Int h = refl
  missed r i Ty.Bool h = refl
  missed r i Ty.Text h = refl
  missed r i (Ty.Arrow a b) h = ap₂ (λ x y. x || y) (missed r i a h) (missed r i b h)
  missed r i (Ty.Fields row) h = missed-row r i row h
  missed r i (Ty.Sum row) h = missed-row r i row h
  missed r i (Ty.All k b) h = missed (lift r) (suc i) b (lift-misses r i h)
  missed r i (Ty.Ex k b) h = missed (lift r) (suc i) b (lift-misses r i h)
  missed r i (Ty.Mu b) h = missed (lift r) (suc i) b (lift-misses r i h)
  missed r i (Ty.Lam k b) h = missed (lift r) (suc i) b (lift-misses r i h)
  missed r i (Ty.Apply a b) h = ap₂ (λ x y. x || y) (missed r i a h) (missed r i b h)

  missed-row : (r : ℕ → ℕ) (i : ℕ) (row : Row) → Misses r i → is_mentioned_row i (rename_row r row) ≡ false
  missed-row r i Row.End h = refl
  missed-row r i (Row.More l t rest) h = ap₂ (λ x y. x || y) (missed r i t h) (missed-row r i rest h)

not-zero : Misses suc zero
not-zero j e = omega (arith, e)

-- a raised type does not mention the innermost variable
pub raised-misses : (t : Ty) → is_mentioned 0 (shift 1 0 t) ≡ false
raised-misses t = ap (is_mentioned 0) (shift-suc t) ∙ missed suc zero t not-zero

-- ---- what is put in for a variable that is not mentioned does not matter

-- each index less by one
abbrev fall : ℕ → ℕ
fall = λ i. i - 1

slot-lifted : (i j : ℕ) → (j ≡ i → ⊥) → slot i j ≡ kept (lifted i fall j)
slot-lifted zero zero h = absurd (h refl)
slot-lifted zero (suc j) h = ap kept (omega arith)
slot-lifted (suc i) zero h = refl
slot-lifted (suc i) (suc j) h = ap raised (slot-lifted i j (λ e. h (ap suc e)))

mutual
  put-lowers : (k : Kind) (A : Args k) (i : ℕ) (a t : Ty) → is_mentioned i t ≡ false → put_in k A i a t ≡ stuck (rename (lifted i fall) t)
  put-lowers k A i a (Ty.Var j) h = ap (fill_part k A a) (slot-lifted i j (λ e. not-both (j == i) (eq-eqb j i e) h))
  put-lowers k A i a Ty.Int h = refl
  put-lowers k A i a Ty.Bool h = refl
  put-lowers k A i a Ty.Text h = refl
  put-lowers k A i a (Ty.Arrow s t) h =
      let p = or_parts (is_mentioned i s) (is_mentioned i t) h in
      ap₂ (λ x y. stuck (Ty.Arrow (tree x) (tree y))) (put-lowers k A i a s p.0) (put-lowers k A i a t p.1)
  put-lowers k A i a (Ty.Fields row) h = ap (λ r. stuck (Ty.Fields r)) (put-lowers_row k A i a row h)
  put-lowers k A i a (Ty.Sum row) h = ap (λ r. stuck (Ty.Sum r)) (put-lowers_row k A i a row h)
  put-lowers k A i a (Ty.All l b) h = ap (λ p. stuck (Ty.All l (tree p))) (put-lowers k A (suc i) (rename suc a) b h)
  put-lowers k A i a (Ty.Ex l b) h = ap (λ p. stuck (Ty.Ex l (tree p))) (put-lowers k A (suc i) (rename suc a) b h)
  put-lowers k A i a (Ty.Mu b) h = ap (λ p. stuck (Ty.Mu (tree p))) (put-lowers k A (suc i) (rename suc a) b h)
  put-lowers k A i a (Ty.Lam l b) h = ap (λ p. stuck (Ty.Lam l (tree p))) (put-lowers k A (suc i) (rename suc a) b h)
  put-lowers k A i a (Ty.Apply f t) h =
      let p = or_parts (is_mentioned i f) (is_mentioned i t) h in
      ap₂ (λ x y. apply_part x (tree y)) (put-lowers k A i a f p.0) (put-lowers k A i a t p.1)

  put-lowers_row : (k : Kind) (A : Args k) (i : ℕ) (a : Ty) (row : Row) → is_mentioned_row i row ≡ false
      → put_in_row k A i a row ≡ rename_row (lifted i fall) row
  put-lowers_row k A i a Row.End h = refl
  put-lowers_row k A i a (Row.More l t rest) h =
      let p = or_parts (is_mentioned i t) (is_mentioned_row i rest) h in
      ap₂ (λ x r. Row.More l (tree x) r) (put-lowers k A i a t p.0) (put-lowers_row k A i a rest p.1)

-- whatever comes in for an innermost variable that is not mentioned, the type is lowered
pub filled-lowers : (a t : Ty) → is_mentioned 0 t ≡ false → filled 0 a t ≡ lower 1 t
filled-lowers a t h = ap tree (put-lowers Kind.Star (args Kind.Star) 0 (shift 0 0 a) t h)

-- a raised type that is lowered is as it was
pub lowered-raised : (t : Ty) → lower 1 (shift 1 0 t) ≡ t
lowered-raised t = rename-rename (λ i. i - 1) (bump 1 0) t ∙ (rename-agree (λ i. bump 1 0 i - 1) (λ i. i) t (λ i m. omega arith) ∙ rename-id t)

-- a type that does not mention the innermost variable is as it was when it is lowered and then raised
pub raised-lowered : (t : Ty) → is_mentioned 0 t ≡ false → shift 1 0 (lower 1 t) ≡ t
raised-lowered t h = raised-back 1 t (λ i l m. not-both (is_mentioned 0 t) (mentioned-complete (subst (λ j. Mentions j t) (first i l) m)) h)
  where
    first : (i : ℕ) → i < 1 → i ≡ 0
    first i h = omega (arith, h)

-- ---- the number of the lowered type, and of that type raised again

module _ (old s1 s2 s3 : List Ty) (number int down up : ℕ) (b1 : Begins old s1) (b2 : Begins s1 s2) (b3 : Begins s2 s3) (w : number < length old)
    (h : Holds s2 down (filled 0 (at s1 int) (at s1 number))) (k : Holds s3 up (shift 1 0 (at s2 down))) where
  lowered-is : is_mentioned 0 (at old number) ≡ false → at s2 down ≡ lower 1 (at old number)
  lowered-is p = h.value ∙ (ap (filled 0 (at s1 int)) (begins-at old s1 number b1 w) ∙ filled-lowers (at s1 int) (at old number) p)

  later : at s3 number ≡ at old number
  later = begins-at old s3 number (begins-then old s2 s3 (begins-then old s1 s2 b1 b2) b3) w

  pub lower-yes : at s3 up ≡ at s3 number → NumberOf s3 (Some down) (outside (at old number))
  lower-yes e = by (is_mentioned 0 (at old number)) refl
    where
      by : (b : Truth) → is_mentioned 0 (at old number) ≡ b → NumberOf s3 (Some down) (if b then None else Some (lower 1 (at old number)))
      by true p =
          let same : shift 1 0 (at s2 down) ≡ at old number = sym k.value ∙ (e ∙ later) in
          not-both (is_mentioned 0 (at old number)) p (ap (is_mentioned 0) (sym same) ∙ raised-misses (at s2 down))
      by false p = holds-more s2 s3 down (lower 1 (at old number)) b3 (record { within = h.within; value = lowered-is p })

  pub lower-no : (at s3 up ≡ at s3 number → ⊥) → NumberOf s3 None (outside (at old number))
  lower-no e = by (is_mentioned 0 (at old number)) refl
    where
      by : (b : Truth) → is_mentioned 0 (at old number) ≡ b → NumberOf s3 None (if b then None else Some (lower 1 (at old number)))
      by true p = tt
      by false p = absurd (e (k.value ∙ (ap (shift 1 0) (lowered-is p) ∙ (raised-lowered (at old number) p ∙ sym later))))

pub ruleset lower_steps = (lower-yes, lower-no, begins-then)
