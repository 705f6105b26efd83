-- What does not reach an index of a term leaves the term as it is.
-- Main results: ren_term-unchanged.
use Rattle.std.proofs.Common.{◌≡◌, ℕ, zero, suc, ◌<◌, ◌≤◌, refl, ap, ap₂, arith}
use Rattle.omega_types.specs.Ty.{Ty, lift}
use Rattle.omega_types.specs.Substitution.{rename, under}
use Rattle.omega_types.proofs.Unchanged.{rename-unchanged, substitute-unchanged}
use Rattle.omega_terms.specs.Term.{Term, TermRow}
use Rattle.omega_terms.specs.TermSubst.{ren_term, ren_fields, sub_term, sub_fields, under_type, up_term, same_index}
use Rattle.omega_terms.specs.Inner.Bound.{type_bound, row_type_bound, term_bound, row_term_bound}

-- a function of three arguments takes equal ones to equal results
pub ap₃ : {A B C D : Type 0} (f : A → B → C → D) {a b : A} {p q : B} {x y : C} → a ≡ b → p ≡ q → x ≡ y → f a p x ≡ f b q y
ap₃ f d e g = λ i. f (d i) (e i) (g i)

-- the renaming leaves each index below n as it is
abbrev Keeps : ℕ → (ℕ → ℕ) → Type 0
Keeps n r = (i : ℕ) → i < n → r i ≡ i

lift-keeps : (n : ℕ) (r : ℕ → ℕ) → Keeps n r → Keeps (suc n) (lift r)
lift-keeps n r h zero p = refl
lift-keeps n r h (suc i) p = ap suc (h i (omega arith))

mutual
  -- a renaming that leaves the first indexes leaves a term whose free indexes are among them
  pub ren_term-unchanged : (n m : ℕ) (q r : ℕ → ℕ) (e : Term) → Keeps n q → Keeps m r → type_bound e ≤ n → term_bound e ≤ m → ren_term q r e ≡ e
  ren_term-unchanged n m q r (Term.Var i) g h p o = ap Term.Var (h i (omega arith))
  ren_term-unchanged n m q r (Term.Int z) g h p o = refl
  ren_term-unchanged n m q r (Term.Bool b) g h p o = refl
  ren_term-unchanged n m q r (Term.Text s) g h p o = refl
  ren_term-unchanged n m q r (Term.Lam t e) g h p o =
      ap₂ Term.Lam (rename-unchanged n q t g (omega arith)) (ren_term-unchanged n (suc m) q (lift r) e g (lift-keeps m r h) (omega arith) (omega arith))
  ren_term-unchanged n m q r (Term.Call f a) g h p o =
      ap₂ Term.Call (ren_term-unchanged n m q r f g h (omega arith) (omega arith)) (ren_term-unchanged n m q r a g h (omega arith) (omega arith))
  ren_term-unchanged n m q r (Term.TyLam k e) g h p o =
      ap (Term.TyLam k) (ren_term-unchanged (suc n) m (lift q) r e (lift-keeps n q g) h (omega arith) o)
  ren_term-unchanged n m q r (Term.Inst e t) g h p o =
      ap₂ Term.Inst (ren_term-unchanged n m q r e g h (omega arith) o) (rename-unchanged n q t g (omega arith))
  ren_term-unchanged n m q r (Term.Fields row) g h p o = ap Term.Fields (ren_fields-unchanged n m q r row g h p o)
  ren_term-unchanged n m q r (Term.Get e l) g h p o = ap (λ d. Term.Get d l) (ren_term-unchanged n m q r e g h p o)
  ren_term-unchanged n m q r (Term.Pack t e u) g h p o =
      ap₃ Term.Pack (rename-unchanged n q t g (omega arith)) (ren_term-unchanged n m q r e g h (omega arith) o) (rename-unchanged n q u g (omega arith))
  ren_term-unchanged n m q r (Term.Unpack d e) g h p o =
      ap₂ Term.Unpack (ren_term-unchanged n m q r d g h (omega arith) (omega arith)) (ren_term-unchanged (suc n) (suc m) (lift q) (lift r) e (lift-keeps n q g) (lift-keeps m r h) (omega arith) (omega arith))
  ren_term-unchanged n m q r (Term.If a b c) g h p o =
      ap₃ Term.If (ren_term-unchanged n m q r a g h (omega arith) (omega arith)) (ren_term-unchanged n m q r b g h (omega arith) (omega arith)) (ren_term-unchanged n m q r c g h (omega arith) (omega arith))
  ren_term-unchanged n m q r (Term.Arith op a b) g h p o =
      ap₂ (Term.Arith op) (ren_term-unchanged n m q r a g h (omega arith) (omega arith)) (ren_term-unchanged n m q r b g h (omega arith) (omega arith))
  ren_term-unchanged n m q r (Term.Fix t u e) g h p o =
      ap₃ Term.Fix (rename-unchanged n q t g (omega arith)) (rename-unchanged n q u g (omega arith)) (ren_term-unchanged n (suc (suc m)) q (lift (lift r)) e g (lift-keeps (suc m) (lift r) (lift-keeps m r h)) (omega arith) (omega arith))
  ren_term-unchanged n m q r (Term.Inj l e t) g h p o =
      ap₂ (Term.Inj l) (ren_term-unchanged n m q r e g h (omega arith) o) (rename-unchanged n q t g (omega arith))
  ren_term-unchanged n m q r (Term.Case e t row) g h p o =
      ap₃ Term.Case (ren_term-unchanged n m q r e g h (omega arith) (omega arith)) (rename-unchanged n q t g (omega arith)) (ren_fields-unchanged n (suc m) q (lift r) row g (lift-keeps m r h) (omega arith) (omega arith))
  ren_term-unchanged n m q r (Term.Roll e t) g h p o =
      ap₂ Term.Roll (ren_term-unchanged n m q r e g h (omega arith) o) (rename-unchanged n q t g (omega arith))
  ren_term-unchanged n m q r (Term.Unroll e) g h p o = ap Term.Unroll (ren_term-unchanged n m q r e g h p o)

  ren_fields-unchanged : (n m : ℕ) (q r : ℕ → ℕ) (row : TermRow) → Keeps n q → Keeps m r → row_type_bound row ≤ n → row_term_bound row ≤ m → ren_fields q r row ≡ row
  ren_fields-unchanged n m q r TermRow.End g h p o = refl
  ren_fields-unchanged n m q r (TermRow.More l e rest) g h p o =
      ap₂ (TermRow.More l) (ren_term-unchanged n m q r e g h (omega arith) (omega arith)) (ren_fields-unchanged n m q r rest g h (omega arith) (omega arith))

-- the substitution leaves each type variable, and each term variable, below n as it is
abbrev KeepsTypes : ℕ → (ℕ → Ty) → Type 0
KeepsTypes n s = (i : ℕ) → i < n → s i ≡ Ty.Var i

abbrev KeepsTerms : ℕ → (ℕ → Term) → Type 0
KeepsTerms n w = (i : ℕ) → i < n → w i ≡ Term.Var i

under-keeps : (n : ℕ) (s : ℕ → Ty) → KeepsTypes n s → KeepsTypes (suc n) (under s)
under-keeps n s h zero p = refl
under-keeps n s h (suc i) p = ap (rename suc) (h i (omega arith))

under_type-keeps : (n : ℕ) (w : ℕ → Term) → KeepsTerms n w → KeepsTerms n (under_type w)
under_type-keeps n w h i p = ap (ren_term suc same_index) (h i p)

up_term-keeps : (n : ℕ) (w : ℕ → Term) → KeepsTerms n w → KeepsTerms (suc n) (up_term w)
up_term-keeps n w h zero p = refl
up_term-keeps n w h (suc i) p = ap (ren_term same_index suc) (h i (omega arith))

mutual
  -- a substitution that leaves the first indexes leaves a term whose free indexes are among them
  pub sub_term-unchanged : (n m : ℕ) (s : ℕ → Ty) (w : ℕ → Term) (e : Term) → KeepsTypes n s → KeepsTerms m w → type_bound e ≤ n → term_bound e ≤ m → sub_term s w e ≡ e
  sub_term-unchanged n m s w (Term.Var i) g h p o = h i (omega arith)
  sub_term-unchanged n m s w (Term.Int z) g h p o = refl
  sub_term-unchanged n m s w (Term.Bool b) g h p o = refl
  sub_term-unchanged n m s w (Term.Text x) g h p o = refl
  sub_term-unchanged n m s w (Term.Lam t e) g h p o =
      ap₂ Term.Lam (substitute-unchanged n s t g (omega arith)) (sub_term-unchanged n (suc m) s (up_term w) e g (up_term-keeps m w h) (omega arith) (omega arith))
  sub_term-unchanged n m s w (Term.Call f a) g h p o =
      ap₂ Term.Call (sub_term-unchanged n m s w f g h (omega arith) (omega arith)) (sub_term-unchanged n m s w a g h (omega arith) (omega arith))
  sub_term-unchanged n m s w (Term.TyLam k e) g h p o =
      ap (Term.TyLam k) (sub_term-unchanged (suc n) m (under s) (under_type w) e (under-keeps n s g) (under_type-keeps m w h) (omega arith) o)
  sub_term-unchanged n m s w (Term.Inst e t) g h p o =
      ap₂ Term.Inst (sub_term-unchanged n m s w e g h (omega arith) o) (substitute-unchanged n s t g (omega arith))
  sub_term-unchanged n m s w (Term.Fields row) g h p o = ap Term.Fields (sub_fields-unchanged n m s w row g h p o)
  sub_term-unchanged n m s w (Term.Get e l) g h p o = ap (λ d. Term.Get d l) (sub_term-unchanged n m s w e g h p o)
  sub_term-unchanged n m s w (Term.Pack t e u) g h p o =
      ap₃ Term.Pack (substitute-unchanged n s t g (omega arith)) (sub_term-unchanged n m s w e g h (omega arith) o) (substitute-unchanged n s u g (omega arith))
  sub_term-unchanged n m s w (Term.Unpack d e) g h p o =
      ap₂ Term.Unpack (sub_term-unchanged n m s w d g h (omega arith) (omega arith)) (sub_term-unchanged (suc n) (suc m) (under s) (up_term (under_type w)) e (under-keeps n s g) (up_term-keeps m (under_type w) (under_type-keeps m w h)) (omega arith) (omega arith))
  sub_term-unchanged n m s w (Term.If a b c) g h p o =
      ap₃ Term.If (sub_term-unchanged n m s w a g h (omega arith) (omega arith)) (sub_term-unchanged n m s w b g h (omega arith) (omega arith)) (sub_term-unchanged n m s w c g h (omega arith) (omega arith))
  sub_term-unchanged n m s w (Term.Arith op a b) g h p o =
      ap₂ (Term.Arith op) (sub_term-unchanged n m s w a g h (omega arith) (omega arith)) (sub_term-unchanged n m s w b g h (omega arith) (omega arith))
  sub_term-unchanged n m s w (Term.Fix t u e) g h p o =
      ap₃ Term.Fix (substitute-unchanged n s t g (omega arith)) (substitute-unchanged n s u g (omega arith)) (sub_term-unchanged n (suc (suc m)) s (up_term (up_term w)) e g (up_term-keeps (suc m) (up_term w) (up_term-keeps m w h)) (omega arith) (omega arith))
  sub_term-unchanged n m s w (Term.Inj l e t) g h p o =
      ap₂ (Term.Inj l) (sub_term-unchanged n m s w e g h (omega arith) o) (substitute-unchanged n s t g (omega arith))
  sub_term-unchanged n m s w (Term.Case e t row) g h p o =
      ap₃ Term.Case (sub_term-unchanged n m s w e g h (omega arith) (omega arith)) (substitute-unchanged n s t g (omega arith)) (sub_fields-unchanged n (suc m) s (up_term w) row g (up_term-keeps m w h) (omega arith) (omega arith))
  sub_term-unchanged n m s w (Term.Roll e t) g h p o =
      ap₂ Term.Roll (sub_term-unchanged n m s w e g h (omega arith) o) (substitute-unchanged n s t g (omega arith))
  sub_term-unchanged n m s w (Term.Unroll e) g h p o = ap Term.Unroll (sub_term-unchanged n m s w e g h p o)

  sub_fields-unchanged : (n m : ℕ) (s : ℕ → Ty) (w : ℕ → Term) (row : TermRow) → KeepsTypes n s → KeepsTerms m w → row_type_bound row ≤ n → row_term_bound row ≤ m → sub_fields s w row ≡ row
  sub_fields-unchanged n m s w TermRow.End g h p o = refl
  sub_fields-unchanged n m s w (TermRow.More l e rest) g h p o =
      ap₂ (TermRow.More l) (sub_term-unchanged n m s w e g h (omega arith) (omega arith)) (sub_fields-unchanged n m s w rest g h (omega arith) (omega arith))
