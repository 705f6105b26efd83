-- A type or a term put in for one variable is a walk, and what the walk leaves as it is.
-- Main results: walk-is-put_type, walk-is-put_term.
use Rattle.std.proofs.Common.{◌≡◌, ℕ, ◌+◌, ◌≤◌, refl, sym, ap, ap₂, ◌∙◌, arith}
use Rattle.omega_types.specs.Ty.{Ty}
use Rattle.omega_types.specs.Substitution.{under}
use Rattle.omega_types.specs.Index.{slot, shift, put, substitute_at}
use Rattle.omega_types.proofs.Algebra.{substitute-id}
use Rattle.omega_types.proofs.Single.{shift-zero, shift-shift}
use Rattle.omega_types.proofs.Unchanged.{substitute_at-unchanged}
use Rattle.omega_terms.specs.Term.{Term, TermRow}
use Rattle.omega_terms.specs.Inner.Bound.{type_bound, term_bound}
use Rattle.omega_terms.specs.TermSubst.{sub_term, sub_fields, up_term, under_type, fill_term, put_at, put_term, put_type, shift_term}
use Rattle.omega_terms.specs.Inner.Walk.{walked, walked_row}
use Rattle.omega_terms.proofs.Unchanged.{ap₃}
use Rattle.omega_terms.proofs.TermAlgebra.{shift-shift_term}
use Rattle.omega_terms.proofs.Raises.{shift-none}
use Rattle.omega_terms.proofs.OneIndex.{put_type-same, put_type-under_term, put_type-row_under_term, put_type-under_type, put_type-under_both, put_type-under_two, put_term-same, put_term-under_term, put_term-row_under_term, put_term-under_type, put_term-under_both, put_term-under_two, put-var_same, put-var_below, put-var_above}

-- ---- a type a, put in for the type variable x

abbrev typed : ℕ → Ty → ℕ → Ty → Ty
typed x a i t = substitute_at (x + i) (shift i 0 a) t

abbrev stays : ℕ → ℕ → ℕ → Term
stays i j n = Term.Var n

under-more : (x i : ℕ) (a : Ty) (e : Term) → put_type e (x + (i + 1)) (shift (i + 1) 0 a) ≡ put_type e (x + i + 1) (shift 1 0 (shift i 0 a))
under-more x i a e = ap₂ (put_type e) (next x i) (ap (λ n. shift n 0 a) (turned i) ∙ sym (shift-shift 1 i 0 a))
  where
    next : (x i : ℕ) → x + (i + 1) ≡ x + i + 1
    next x i = omega arith

    turned : (i : ℕ) → i + 1 ≡ 1 + i
    turned i = omega arith

mutual
  walk-puts_type : (x : ℕ) (a : Ty) (i j : ℕ) (e : Term) → walked (typed x a) stays i j e ≡ put_type e (x + i) (shift i 0 a)
  walk-puts_type x a i j (Term.Var n) = refl
  walk-puts_type x a i j (Term.Int z) = refl
  walk-puts_type x a i j (Term.Bool b) = refl
  walk-puts_type x a i j (Term.Text s) = refl
  walk-puts_type x a i j (Term.Lam t e) = ap (Term.Lam (typed x a i t)) (walk-puts_type x a i (j + 1) e ∙ sym (put_type-under_term (x + i) (shift i 0 a) e))
  walk-puts_type x a i j (Term.Call d e) = ap₂ Term.Call (walk-puts_type x a i j d) (walk-puts_type x a i j e)
  walk-puts_type x a i j (Term.TyLam k e) = ap (Term.TyLam k) (walk-puts_type x a (i + 1) j e ∙ (under-more x i a e ∙ sym (put_type-under_type (x + i) (shift i 0 a) e)))
  walk-puts_type x a i j (Term.Inst e t) = ap (λ d. Term.Inst d (typed x a i t)) (walk-puts_type x a i j e)
  walk-puts_type x a i j (Term.Fields row) = ap Term.Fields (row-puts_type x a i j row)
  walk-puts_type x a i j (Term.Get e l) = ap (λ d. Term.Get d l) (walk-puts_type x a i j e)
  walk-puts_type x a i j (Term.Pack t e u) = ap (λ d. Term.Pack (typed x a i t) d (typed x a i u)) (walk-puts_type x a i j e)
  walk-puts_type x a i j (Term.Unpack p e) =
      ap₂ Term.Unpack (walk-puts_type x a i j p) (walk-puts_type x a (i + 1) (j + 1) e ∙ (under-more x i a e ∙ sym (put_type-under_both (x + i) (shift i 0 a) e)))
  walk-puts_type x a i j (Term.If c d e) = ap₃ Term.If (walk-puts_type x a i j c) (walk-puts_type x a i j d) (walk-puts_type x a i j e)
  walk-puts_type x a i j (Term.Arith o d e) = ap₂ (Term.Arith o) (walk-puts_type x a i j d) (walk-puts_type x a i j e)
  walk-puts_type x a i j (Term.Fix t u e) = ap (Term.Fix (typed x a i t) (typed x a i u)) (walk-puts_type x a i (j + 1 + 1) e ∙ sym (put_type-under_two (x + i) (shift i 0 a) e))
  walk-puts_type x a i j (Term.Inj l e t) = ap (λ d. Term.Inj l d (typed x a i t)) (walk-puts_type x a i j e)
  walk-puts_type x a i j (Term.Case e t row) =
      ap₂ (λ d r. Term.Case d (typed x a i t) r) (walk-puts_type x a i j e) (row-puts_type x a i (j + 1) row ∙ sym (put_type-row_under_term (x + i) (shift i 0 a) row))
  walk-puts_type x a i j (Term.Roll e t) = ap (λ d. Term.Roll d (typed x a i t)) (walk-puts_type x a i j e)
  walk-puts_type x a i j (Term.Unroll e) = ap Term.Unroll (walk-puts_type x a i j e)

  row-puts_type : (x : ℕ) (a : Ty) (i j : ℕ) (row : TermRow) → walked_row (typed x a) stays i j row ≡ sub_fields (put (x + i) (shift i 0 a)) Term.Var row
  row-puts_type x a i j TermRow.End = refl
  row-puts_type x a i j (TermRow.More l e rest) = ap₂ (TermRow.More l) (walk-puts_type x a i j e) (row-puts_type x a i j rest)

outermost : (x : ℕ) → x + 0 ≡ x
outermost x = omega arith

-- the walk that puts a type in for a type variable is the substitution for it
pub walk-is-put_type : (x : ℕ) (a : Ty) (e : Term) → walked (typed x a) stays 0 0 e ≡ put_type e x a
walk-is-put_type x a e = walk-puts_type x a 0 0 e ∙ ap₂ (put_type e) (outermost x) (shift-zero 0 a)

-- that walk leaves a term whose free type indexes are all below its place
pub puts-no_type : (x : ℕ) (a : Ty) (i j : ℕ) (e : Term) → type_bound e ≤ x + i → walked (typed x a) stays i j e ≡ e
puts-no_type x a i j e le = walk-puts_type x a i j e ∙ put_type-same e (x + i) (shift i 0 a) le

-- ---- a term a, put in for the term variable x

abbrev same_type : ℕ → Ty → Ty
same_type i t = t

abbrev filled : ℕ → Term → ℕ → ℕ → ℕ → Term
filled x a i j n = fill_term (shift_term a i j) (slot (x + j) n)

further : (x j : ℕ) → x + (j + 1) ≡ x + j + 1
further x j = omega arith

nothing-more : (i : ℕ) → i ≡ i + 0
nothing-more i = omega arith

deeper-term : (x i j : ℕ) (a : Term) → put_at (x + (j + 1)) (shift_term a i (j + 1)) ≡ put_at (x + j + 1) (shift_term (shift_term a i j) 0 1)
deeper-term x i j a = ap₂ put_at (further x j) (ap (λ n. shift_term a n (j + 1)) (nothing-more i) ∙ sym (shift-shift_term a i j 0 1))

deeper-type : (x i j : ℕ) (a : Term) → put_at (x + j) (shift_term a (i + 1) j) ≡ put_at (x + j) (shift_term (shift_term a i j) 1 0)
deeper-type x i j a = ap (put_at (x + j)) (ap (shift_term a (i + 1)) (nothing-more j) ∙ sym (shift-shift_term a i j 1 0))

under-term : (x i j : ℕ) (a e : Term) → put_term e (x + (j + 1)) (shift_term a i (j + 1)) ≡ sub_term Ty.Var (up_term (put_at (x + j) (shift_term a i j))) e
under-term x i j a e = ap (λ w. sub_term Ty.Var w e) (deeper-term x i j a) ∙ sym (put_term-under_term (x + j) (shift_term a i j) e)

row-under-term : (x i j : ℕ) (a : Term) (row : TermRow) → sub_fields Ty.Var (put_at (x + (j + 1)) (shift_term a i (j + 1))) row ≡ sub_fields Ty.Var (up_term (put_at (x + j) (shift_term a i j))) row
row-under-term x i j a row = ap (λ w. sub_fields Ty.Var w row) (deeper-term x i j a) ∙ sym (put_term-row_under_term (x + j) (shift_term a i j) row)

under-type : (x i j : ℕ) (a e : Term) → put_term e (x + j) (shift_term a (i + 1) j) ≡ sub_term (under Ty.Var) (under_type (put_at (x + j) (shift_term a i j))) e
under-type x i j a e = ap (λ w. sub_term Ty.Var w e) (deeper-type x i j a) ∙ sym (put_term-under_type (x + j) (shift_term a i j) e)

under-both : (x i j : ℕ) (a e : Term) → put_term e (x + (j + 1)) (shift_term a (i + 1) (j + 1)) ≡ sub_term (under Ty.Var) (up_term (under_type (put_at (x + j) (shift_term a i j)))) e
under-both x i j a e =
    under-term x (i + 1) j a e ∙ (ap (λ w. sub_term Ty.Var (up_term w) e) (deeper-type x i j a) ∙ sym (put_term-under_both (x + j) (shift_term a i j) e))

under-two : (x i j : ℕ) (a e : Term) → put_term e (x + (j + 1 + 1)) (shift_term a i (j + 1 + 1)) ≡ sub_term Ty.Var (up_term (up_term (put_at (x + j) (shift_term a i j)))) e
under-two x i j a e =
    under-term x i (j + 1) a e ∙ (ap (λ w. sub_term Ty.Var (up_term w) e) (deeper-term x i j a) ∙ sym (put_term-under_two (x + j) (shift_term a i j) e))

mutual
  walk-puts_term : (x : ℕ) (a : Term) (i j : ℕ) (e : Term) → walked same_type (filled x a) i j e ≡ put_term e (x + j) (shift_term a i j)
  walk-puts_term x a i j (Term.Var n) = refl
  walk-puts_term x a i j (Term.Int z) = refl
  walk-puts_term x a i j (Term.Bool b) = refl
  walk-puts_term x a i j (Term.Text s) = refl
  walk-puts_term x a i j (Term.Lam t e) = ap₂ Term.Lam (sym (substitute-id t)) (walk-puts_term x a i (j + 1) e ∙ under-term x i j a e)
  walk-puts_term x a i j (Term.Call d e) = ap₂ Term.Call (walk-puts_term x a i j d) (walk-puts_term x a i j e)
  walk-puts_term x a i j (Term.TyLam k e) = ap (Term.TyLam k) (walk-puts_term x a (i + 1) j e ∙ under-type x i j a e)
  walk-puts_term x a i j (Term.Inst e t) = ap₂ Term.Inst (walk-puts_term x a i j e) (sym (substitute-id t))
  walk-puts_term x a i j (Term.Fields row) = ap Term.Fields (row-puts_term x a i j row)
  walk-puts_term x a i j (Term.Get e l) = ap (λ d. Term.Get d l) (walk-puts_term x a i j e)
  walk-puts_term x a i j (Term.Pack t e u) = ap₃ Term.Pack (sym (substitute-id t)) (walk-puts_term x a i j e) (sym (substitute-id u))
  walk-puts_term x a i j (Term.Unpack p e) = ap₂ Term.Unpack (walk-puts_term x a i j p) (walk-puts_term x a (i + 1) (j + 1) e ∙ under-both x i j a e)
  walk-puts_term x a i j (Term.If c d e) = ap₃ Term.If (walk-puts_term x a i j c) (walk-puts_term x a i j d) (walk-puts_term x a i j e)
  walk-puts_term x a i j (Term.Arith o d e) = ap₂ (Term.Arith o) (walk-puts_term x a i j d) (walk-puts_term x a i j e)
  walk-puts_term x a i j (Term.Fix t u e) = ap₃ Term.Fix (sym (substitute-id t)) (sym (substitute-id u)) (walk-puts_term x a i (j + 1 + 1) e ∙ under-two x i j a e)
  walk-puts_term x a i j (Term.Inj l e t) = ap₂ (Term.Inj l) (walk-puts_term x a i j e) (sym (substitute-id t))
  walk-puts_term x a i j (Term.Case e t row) =
      ap₃ Term.Case (walk-puts_term x a i j e) (sym (substitute-id t)) (row-puts_term x a i (j + 1) row ∙ row-under-term x i j a row)
  walk-puts_term x a i j (Term.Roll e t) = ap₂ Term.Roll (walk-puts_term x a i j e) (sym (substitute-id t))
  walk-puts_term x a i j (Term.Unroll e) = ap Term.Unroll (walk-puts_term x a i j e)

  row-puts_term : (x : ℕ) (a : Term) (i j : ℕ) (row : TermRow) → walked_row same_type (filled x a) i j row ≡ sub_fields Ty.Var (put_at (x + j) (shift_term a i j)) row
  row-puts_term x a i j TermRow.End = refl
  row-puts_term x a i j (TermRow.More l e rest) = ap₂ (TermRow.More l) (walk-puts_term x a i j e) (row-puts_term x a i j rest)

-- the walk that puts a term in for a term variable is the substitution for it
pub walk-is-put_term : (x : ℕ) (a e : Term) → walked same_type (filled x a) 0 0 e ≡ put_term e x a
walk-is-put_term x a e = walk-puts_term x a 0 0 e ∙ ap₂ (put_term e) (outermost x) (shift-none a)

-- that walk leaves a term whose free term indexes are all below its place
pub puts-no_term : (x : ℕ) (a : Term) (i j : ℕ) (e : Term) → term_bound e ≤ x + j → walked same_type (filled x a) i j e ≡ e
puts-no_term x a i j e le = walk-puts_term x a i j e ∙ put_term-same e (x + j) (shift_term a i j) le

pub ruleset put_types = (substitute_at-unchanged)

pub ruleset put_variables = (put-var_same, put-var_below, put-var_above)
