-- A shift is a walk, and what the walk leaves as it is.
-- Main results: walk-raises, raises-nothing.
use Rattle.std.proofs.Common.{◌≡◌, ◌⊎◌, inl, inr, ℕ, zero, suc, ◌+◌, ◌<◌, ◌≤◌, refl, sym, ap, ap₂, ◌∙◌, arith}
use Rattle.omega_types.specs.Ty.{Ty}
use Rattle.omega_types.specs.Index.{bump, shift}
use Rattle.omega_types.proofs.Single.{bump-below}
use Rattle.omega_terms.specs.Term.{Term, TermRow}
use Rattle.omega_terms.specs.Inner.Bound.{type_bound, term_bound}
use Rattle.omega_terms.specs.TermSubst.{ren_term, ren_fields, shift_term}
use Rattle.omega_terms.specs.Inner.Walk.{walked, walked_row}
use Rattle.omega_terms.proofs.Unchanged.{ap₃, ren_term-unchanged}
use Rattle.omega_terms.proofs.OneIndex.{ren-under_term, ren-row_under_term, ren-under_type, ren-under_both, ren-under_two}

-- the change that adds a to each free type variable, and the one that adds b to each free term variable
abbrev raised_type : ℕ → ℕ → Ty → Ty
raised_type a i t = shift a i t

abbrev raised_variable : ℕ → ℕ → ℕ → ℕ → Term
raised_variable b i j n = Term.Var (bump b j n)

mutual
  -- the walk that raises indexes is the shift
  pub walk-raises : (a b i j : ℕ) (e : Term) → walked (raised_type a) (raised_variable b) i j e ≡ ren_term (bump a i) (bump b j) e
  walk-raises a b i j (Term.Var n) = refl
  walk-raises a b i j (Term.Int z) = refl
  walk-raises a b i j (Term.Bool x) = refl
  walk-raises a b i j (Term.Text x) = refl
  walk-raises a b i j (Term.Lam t e) = ap (Term.Lam (shift a i t)) (walk-raises a b i (j + 1) e ∙ sym (ren-under_term a b i j e))
  walk-raises a b i j (Term.Call d e) = ap₂ Term.Call (walk-raises a b i j d) (walk-raises a b i j e)
  walk-raises a b i j (Term.TyLam k e) = ap (Term.TyLam k) (walk-raises a b (i + 1) j e ∙ sym (ren-under_type a b i j e))
  walk-raises a b i j (Term.Inst e t) = ap (λ d. Term.Inst d (shift a i t)) (walk-raises a b i j e)
  walk-raises a b i j (Term.Fields row) = ap Term.Fields (row-raises a b i j row)
  walk-raises a b i j (Term.Get e l) = ap (λ d. Term.Get d l) (walk-raises a b i j e)
  walk-raises a b i j (Term.Pack t e u) = ap (λ d. Term.Pack (shift a i t) d (shift a i u)) (walk-raises a b i j e)
  walk-raises a b i j (Term.Unpack p e) = ap₂ Term.Unpack (walk-raises a b i j p) (walk-raises a b (i + 1) (j + 1) e ∙ sym (ren-under_both a b i j e))
  walk-raises a b i j (Term.If c d e) = ap₃ Term.If (walk-raises a b i j c) (walk-raises a b i j d) (walk-raises a b i j e)
  walk-raises a b i j (Term.Arith o d e) = ap₂ (Term.Arith o) (walk-raises a b i j d) (walk-raises a b i j e)
  walk-raises a b i j (Term.Fix t u e) = ap (Term.Fix (shift a i t) (shift a i u)) (walk-raises a b i (j + 1 + 1) e ∙ sym (ren-under_two a b i j e))
  walk-raises a b i j (Term.Inj l e t) = ap (λ d. Term.Inj l d (shift a i t)) (walk-raises a b i j e)
  walk-raises a b i j (Term.Case e t row) =
      ap₂ (λ d r. Term.Case d (shift a i t) r) (walk-raises a b i j e) (row-raises a b i (j + 1) row ∙ sym (ren-row_under_term a b i j row))
  walk-raises a b i j (Term.Roll e t) = ap (λ d. Term.Roll d (shift a i t)) (walk-raises a b i j e)
  walk-raises a b i j (Term.Unroll e) = ap Term.Unroll (walk-raises a b i j e)

  row-raises : (a b i j : ℕ) (row : TermRow) → walked_row (raised_type a) (raised_variable b) i j row ≡ ren_fields (bump a i) (bump b j) row
  row-raises a b i j TermRow.End = refl
  row-raises a b i j (TermRow.More l e rest) = ap₂ (TermRow.More l) (walk-raises a b i j e) (row-raises a b i j rest)

-- nothing is added, or only to indexes from the bound on
bump-none : (from n : ℕ) → bump 0 from n ≡ n
bump-none zero n = omega arith
bump-none (suc from) zero = refl
bump-none (suc from) (suc n) = ap suc (bump-none from n)

bump-kept : (by from bound n : ℕ) → (by ≡ 0) ⊎ (bound ≤ from) → n < bound → bump by from n ≡ n
bump-kept by from bound n (inl none) h = ap (λ b. bump b from n) none ∙ bump-none from n
bump-kept by from bound n (inr le) h = bump-below by from n (omega arith)

-- the walk of a shift leaves a term where it raises nothing or meets no index at or above its places
pub raises-nothing : (a b i j n m : ℕ) (e : Term) → n ≡ type_bound e → m ≡ term_bound e → (a ≡ 0) ⊎ (n ≤ i) → (b ≡ 0) ⊎ (m ≤ j) → walked (raised_type a) (raised_variable b) i j e ≡ e
raises-nothing a b i j n m e p q types terms =
    walk-raises a b i j e ∙ ren_term-unchanged n m (bump a i) (bump b j) e (λ k. bump-kept a i n k types) (λ k. bump-kept b j m k terms) (omega (arith, p)) (omega (arith, q))

-- a shift by nothing leaves a term as it is
pub shift-none : (e : Term) → shift_term e 0 0 ≡ e
shift-none e = sym (walk-raises 0 0 0 0 e) ∙ raises-nothing 0 0 0 0 (type_bound e) (term_bound e) e refl refl (inl refl) (inl refl)
