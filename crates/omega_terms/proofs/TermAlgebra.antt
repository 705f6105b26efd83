-- Renaming after renaming in terms.
-- Main results: ren-ren_term, shift-shift_term.
use Rattle.std.specs.Prelude.{ℕ, ◌+◌, ◌≡◌}
use Rattle.std.proofs.Common.{arith}
use Rattle.std.proofs.Math.Path.{refl, ◌∙◌, ap, ap₂, fun_ext}
use Rattle.omega_types.specs.Ty.{lift}
use Rattle.omega_types.specs.Index.{bump}
use Rattle.omega_types.proofs.Algebra.{lift-lift, rename-rename}
use Rattle.omega_terms.specs.Term.{Term, TermRow}
use Rattle.omega_terms.specs.TermSubst.{ren_term, ren_fields, shift_term}
use Rattle.omega_terms.proofs.Unchanged.{ap₃}

two-lifts : (r s : ℕ → ℕ) → (λ i. lift (lift r) (lift (lift s) i)) ≡ lift (lift (λ i. r (s i)))
two-lifts r s = lift-lift (lift r) (lift s) ∙ ap lift (lift-lift r s)

mutual
  -- renamings of a term compose
  pub ren-ren_term : (q p r s : ℕ → ℕ) (e : Term) → ren_term q r (ren_term p s e) ≡ ren_term (λ i. q (p i)) (λ i. r (s i)) e
  ren-ren_term q p r s (Term.Var n) = refl
  ren-ren_term q p r s (Term.Int z) = refl
  ren-ren_term q p r s (Term.Bool b) = refl
  ren-ren_term q p r s (Term.Text x) = refl
  ren-ren_term q p r s (Term.Lam t e) = ap₂ Term.Lam (rename-rename q p t) (ren-ren_term q p (lift r) (lift s) e ∙ ap (λ f. ren_term (λ i. q (p i)) f e) (lift-lift r s))
  ren-ren_term q p r s (Term.Call f a) = ap₂ Term.Call (ren-ren_term q p r s f) (ren-ren_term q p r s a)
  ren-ren_term q p r s (Term.TyLam k e) = ap (Term.TyLam k) (ren-ren_term (lift q) (lift p) r s e ∙ ap (λ f. ren_term f (λ i. r (s i)) e) (lift-lift q p))
  ren-ren_term q p r s (Term.Inst e t) = ap₂ Term.Inst (ren-ren_term q p r s e) (rename-rename q p t)
  ren-ren_term q p r s (Term.Fields f) = ap Term.Fields (ren-ren_fields q p r s f)
  ren-ren_term q p r s (Term.Get e l) = ap (λ u. Term.Get u l) (ren-ren_term q p r s e)
  ren-ren_term q p r s (Term.Pack t e u) = ap₃ Term.Pack (rename-rename q p t) (ren-ren_term q p r s e) (rename-rename q p u)
  ren-ren_term q p r s (Term.Unpack a e) = ap₂ Term.Unpack (ren-ren_term q p r s a) (ren-ren_term (lift q) (lift p) (lift r) (lift s) e ∙ ap₂ (λ f g. ren_term f g e) (lift-lift q p) (lift-lift r s))
  ren-ren_term q p r s (Term.If a b c) = ap₃ Term.If (ren-ren_term q p r s a) (ren-ren_term q p r s b) (ren-ren_term q p r s c)
  ren-ren_term q p r s (Term.Arith o a b) = ap₂ (Term.Arith o) (ren-ren_term q p r s a) (ren-ren_term q p r s b)
  ren-ren_term q p r s (Term.Fix t u e) = ap₃ Term.Fix (rename-rename q p t) (rename-rename q p u) (ren-ren_term q p (lift (lift r)) (lift (lift s)) e ∙ ap (λ f. ren_term (λ i. q (p i)) f e) (two-lifts r s))
  ren-ren_term q p r s (Term.Inj l e t) = ap₂ (Term.Inj l) (ren-ren_term q p r s e) (rename-rename q p t)
  ren-ren_term q p r s (Term.Case e t f) = ap₃ Term.Case (ren-ren_term q p r s e) (rename-rename q p t) (ren-ren_fields q p (lift r) (lift s) f ∙ ap (λ g. ren_fields (λ i. q (p i)) g f) (lift-lift r s))
  ren-ren_term q p r s (Term.Roll e t) = ap₂ Term.Roll (ren-ren_term q p r s e) (rename-rename q p t)
  ren-ren_term q p r s (Term.Unroll e) = ap Term.Unroll (ren-ren_term q p r s e)

  pub ren-ren_fields : (q p r s : ℕ → ℕ) (f : TermRow) → ren_fields q r (ren_fields p s f) ≡ ren_fields (λ i. q (p i)) (λ i. r (s i)) f
  ren-ren_fields q p r s TermRow.End = refl
  ren-ren_fields q p r s (TermRow.More l e f) = ap₂ (TermRow.More l) (ren-ren_term q p r s e) (ren-ren_fields q p r s f)

-- shifts add up

bump-more : (by more : ℕ) → (λ n. bump more 0 (bump by 0 n)) ≡ bump (by + more) 0
bump-more by more = fun_ext (λ n. omega arith)

-- two shifts of a term add up
pub shift-shift_term : (e : Term) (i j p q : ℕ) → shift_term (shift_term e i j) p q ≡ shift_term e (i + p) (j + q)
shift-shift_term e i j p q =
    ren-ren_term (bump p 0) (bump i 0) (bump q 0) (bump j 0) e ∙ ap₂ (λ r s. ren_term r s e) (bump-more i p) (bump-more j q)
