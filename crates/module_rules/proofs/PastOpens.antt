-- A term below one variable, as it stands below those of several opens.
-- Main results: past-several, past-few.
use Rattle.std.specs.Prelude.{ℕ, zero, suc, ◌+◌, ◌<◌, ◌≤◌, List, [], ◌∷◌, ◌≡◌, length}
use Rattle.std.proofs.Common.{arith}
use Rattle.std.proofs.Math.Path.{refl, sym, ap, ap₂, ◌∙◌, fun_ext}
use Rattle.omega_kinds.specs.Kind.{Kind}
use Rattle.omega_types.specs.Ty.{Ty, lift}
use Rattle.omega_types.specs.Substitution.{rename, substitute, under}
use Rattle.omega_types.specs.Index.{taken, kept, raised, slot, bump}
use Rattle.omega_types.specs.Binders.{past}
use Rattle.omega_types.proofs.Algebra.{substitute-rename, substitute-vars}
use Rattle.omega_types.proofs.BinderPuts.{past-plus}
use Rattle.omega_terms.specs.Inner.Bound.{type_bound, term_bound}
use Rattle.omega_terms.specs.Shorthands.{past_opened}
use Rattle.omega_terms.specs.Term.{Term, TermRow}
use Rattle.omega_terms.specs.TermSubst.{ren_term, ren_fields, sub_term, sub_fields, same_index, under_type, up_term, fill_term, put_at, put_term, shift_term}
use Rattle.omega_terms.proofs.Unchanged.{ap₃, ren_term-unchanged}
use Rattle.module_judgments.specs.Sequence.{past_opens}

-- a substitution behind a renaming that gives variables

abbrev VarsTy : (ℕ → Ty) → (ℕ → ℕ) → (ℕ → ℕ) → Type 0
VarsTy f p q = (i : ℕ) → f (p i) ≡ Ty.Var (q i)

abbrev VarsTerm : (ℕ → Term) → (ℕ → ℕ) → (ℕ → ℕ) → Type 0
VarsTerm w r s = (i : ℕ) → w (r i) ≡ Term.Var (s i)

ty-past : (f : ℕ → Ty) (p q : ℕ → ℕ) (t : Ty) → VarsTy f p q → substitute f (rename p t) ≡ rename q t
ty-past f p q t h = substitute-rename f p t ∙ (ap (λ g. substitute g t) (fun_ext h) ∙ substitute-vars q t)

vars-under : (f : ℕ → Ty) (p q : ℕ → ℕ) → VarsTy f p q → VarsTy (under f) (lift p) (lift q)
vars-under f p q h zero = refl
vars-under f p q h (suc i) = ap (rename suc) (h i)

terms-under : (w : ℕ → Term) (r s : ℕ → ℕ) → VarsTerm w r s → VarsTerm (under_type w) r s
terms-under w r s h i = ap (ren_term suc same_index) (h i)

terms-up : (w : ℕ → Term) (r s : ℕ → ℕ) → VarsTerm w r s → VarsTerm (up_term w) (lift r) (lift s)
terms-up w r s h zero = refl
terms-up w r s h (suc i) = ap (ren_term same_index suc) (h i)

mutual
  term-past : (f : ℕ → Ty) (p q : ℕ → ℕ) (w : ℕ → Term) (r s : ℕ → ℕ) (e : Term) → VarsTy f p q → VarsTerm w r s → sub_term f w (ren_term p r e) ≡ ren_term q s e
  term-past f p q w r s (Term.Var n) h k = k n
  term-past f p q w r s (Term.Int z) h k = refl
  term-past f p q w r s (Term.Bool b) h k = refl
  term-past f p q w r s (Term.Text x) h k = refl
  term-past f p q w r s (Term.Lam t e) h k = ap₂ Term.Lam (ty-past f p q t h) (term-past f p q (up_term w) (lift r) (lift s) e h (terms-up w r s k))
  term-past f p q w r s (Term.Call a b) h k = ap₂ Term.Call (term-past f p q w r s a h k) (term-past f p q w r s b h k)
  term-past f p q w r s (Term.TyLam j e) h k = ap (Term.TyLam j) (term-past (under f) (lift p) (lift q) (under_type w) r s e (vars-under f p q h) (terms-under w r s k))
  term-past f p q w r s (Term.Inst e t) h k = ap₂ Term.Inst (term-past f p q w r s e h k) (ty-past f p q t h)
  term-past f p q w r s (Term.Fields row) h k = ap Term.Fields (row-past f p q w r s row h k)
  term-past f p q w r s (Term.Get e l) h k = ap (λ d. Term.Get d l) (term-past f p q w r s e h k)
  term-past f p q w r s (Term.Pack t e u) h k = ap₃ Term.Pack (ty-past f p q t h) (term-past f p q w r s e h k) (ty-past f p q u h)
  term-past f p q w r s (Term.Unpack a e) h k = ap₂ Term.Unpack (term-past f p q w r s a h k) (term-past (under f) (lift p) (lift q) (up_term (under_type w)) (lift r) (lift s) e (vars-under f p q h) (terms-up (under_type w) r s (terms-under w r s k)))
  term-past f p q w r s (Term.If a b c) h k = ap₃ Term.If (term-past f p q w r s a h k) (term-past f p q w r s b h k) (term-past f p q w r s c h k)
  term-past f p q w r s (Term.Arith o a b) h k = ap₂ (Term.Arith o) (term-past f p q w r s a h k) (term-past f p q w r s b h k)
  term-past f p q w r s (Term.Fix t u e) h k = ap₃ Term.Fix (ty-past f p q t h) (ty-past f p q u h) (term-past f p q (up_term (up_term w)) (lift (lift r)) (lift (lift s)) e h (terms-up (up_term w) (lift r) (lift s) (terms-up w r s k)))
  term-past f p q w r s (Term.Inj l e t) h k = ap₂ (Term.Inj l) (term-past f p q w r s e h k) (ty-past f p q t h)
  term-past f p q w r s (Term.Case e t row) h k = ap₃ Term.Case (term-past f p q w r s e h k) (ty-past f p q t h) (row-past f p q (up_term w) (lift r) (lift s) row h (terms-up w r s k))
  term-past f p q w r s (Term.Roll e t) h k = ap₂ Term.Roll (term-past f p q w r s e h k) (ty-past f p q t h)
  term-past f p q w r s (Term.Unroll e) h k = ap Term.Unroll (term-past f p q w r s e h k)

  row-past : (f : ℕ → Ty) (p q : ℕ → ℕ) (w : ℕ → Term) (r s : ℕ → ℕ) (row : TermRow) → VarsTy f p q → VarsTerm w r s → sub_fields f w (ren_fields p r row) ≡ ren_fields q s row
  row-past f p q w r s TermRow.End h k = refl
  row-past f p q w r s (TermRow.More l e rest) h k = ap₂ (TermRow.More l) (term-past f p q w r s e h k) (row-past f p q w r s rest h k)

slot-taken : (n j : ℕ) → j ≡ n → slot n j ≡ taken
slot-taken zero zero e = refl
slot-taken zero (suc j) e = absurd (omega (arith, e))
slot-taken (suc n) zero e = absurd (omega (arith, e))
slot-taken (suc n) (suc j) e = ap raised (slot-taken n j (omega (arith, e)))

slot-kept : (n j m : ℕ) → j ≡ n + suc m → slot n j ≡ kept (n + m)
slot-kept zero zero m e = absurd (omega (arith, e))
slot-kept zero (suc j) m e = let same : j ≡ zero + m = omega (arith, e) in ap kept same
slot-kept (suc n) zero m e = absurd (omega (arith, e))
slot-kept (suc n) (suc j) m e = let same : suc (n + m) ≡ suc n + m = omega arith in ap raised (slot-kept n j m (omega (arith, e))) ∙ ap kept same

places : (ks : List Kind) (count : ℕ) → length ks ≡ count → 2 ≤ count → VarsTerm (put_at count (Term.Var zero)) (bump count 0) (lift (past_opened ks))
places [] count len le i = absurd (omega (arith, len, le))
places (k ∷ ks) count len le zero = ap (fill_term (Term.Var zero)) (slot-taken count (count + zero) (omega arith))
places (k ∷ ks) count len le (suc i) =
    let p : past ks i ≡ i + length ks = past-plus ks i in
    let l : suc (length ks) ≡ count = len in
    let e : count + i ≡ suc (past ks i) = omega (arith, p, l) in
    ap (fill_term (Term.Var zero)) (slot-kept count (count + suc i) i refl) ∙ ap Term.Var e

none-passed : VarsTy Ty.Var (bump 0 0) same_index
none-passed i = let e : 0 + i ≡ i = omega arith in ap Ty.Var e

-- a term past several opens, made by one shift and one substitution
pub past-several : (ks : List Kind) (count : ℕ) (e shifted v out : Term) → 2 ≤ count → shifted ≡ shift_term e 0 count → v ≡ Term.Var zero → out ≡ put_term shifted count v → length ks ≡ count → out ≡ past_opens ks e
past-several ks count e shifted v out le es ev eo len =
    eo ∙ (ap₂ (λ d a. put_term d count a) es ev ∙ term-past Ty.Var (bump 0 0) same_index (put_at count (Term.Var zero)) (bump count 0) (lift (past_opened ks)) e none-passed (places ks count len le))

few-passed : (ks : List Kind) (i : ℕ) → length ks < 2 → lift (past_opened ks) i ≡ i
few-passed ks zero lt = refl
few-passed [] (suc i) lt = refl
few-passed (k ∷ []) (suc i) lt = refl
few-passed (k ∷ l ∷ ks) (suc i) lt = absurd (omega (arith, lt))

-- a term past one open at most is the term itself
pub past-few : (ks : List Kind) (count : ℕ) (e : Term) → count < 2 → length ks ≡ count → e ≡ past_opens ks e
past-few ks count e lt len =
    let few : length ks < 2 = omega (arith, lt, len) in
    sym (ren_term-unchanged (type_bound e) (term_bound e) same_index (lift (past_opened ks)) e (λ i l. refl) (λ i l. few-passed ks i few) (omega arith) (omega arith))
