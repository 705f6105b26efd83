-- Closed types and terms that are not too high have their variables in scope.
-- Main results: closed-type, closed-term.
use Rattle.std.specs.Prelude.{◌≡◌, ℕ, suc, ◌+◌, ◌*◌, ◌^◌, ◌<◌, ◌≤◌, List, [], ◌∷◌, length}
use Rattle.std.proofs.Common.{arith}
use Rattle.std.proofs.Math.Path.{refl, sym, ◌∙◌, ap}
use Rattle.omega_kinds.specs.Kind.{Kind}
use Rattle.omega_types.specs.Ty.{Ty, Row}
use Rattle.omega_types.specs.Kinding.{Lookup, HasKind, HasKinds}
use Rattle.omega_types.specs.Height.{height, height_row}
use Rattle.omega_types.proofs.Preservation.{conv-kinds}
use Rattle.omega_terms.specs.Term.{Term, TermRow}
use Rattle.omega_terms.specs.Typing.{At, HasType, FieldsHave, BranchesHave, shift_all}
use Rattle.omega_terms.specs.Height.{term_height, row_height}
use Rattle.omega_terms.specs.InScope.{IndexInScope, TyInScope, RowInScope, TermInScope, TermRowInScope}

kind-below : {ctx : List Kind} {i : ℕ} {k : Kind} → Lookup ctx i k → i < length ctx
kind-below Lookup.here = omega arith
kind-below (Lookup.there x) = let h = kind-below x in omega (arith, h)

var-below : {A : Type 0} {xs : List A} {n : ℕ} {x : A} → At xs n x → n < length xs
var-below At.here = omega arith
var-below (At.there h) = let g = var-below h in omega (arith, g)

index-scope : (n i : ℕ) → i < n → n < 2 ^ 64 → IndexInScope n i
index-scope n i h g = (h, omega arith)

more : (n m : ℕ) → n ≡ m → n + 1 ≡ suc m
more n m e = omega arith

mutual
  -- a type of a kind that is not too high has its variables in scope
  pub ty-scope : {ctx : List Kind} {t : Ty} {k : Kind} (n : ℕ) → n ≡ length ctx → n + height t ≤ 2 ^ 64 → HasKind ctx t k → TyInScope n t
  ty-scope {ctx} n e h (HasKind.k_var {i = i} x) = let b = kind-below x in index-scope n i (omega (arith, b, e)) (omega (arith, h))
  ty-scope n e h HasKind.k_int = tt
  ty-scope n e h HasKind.k_bool = tt
  ty-scope n e h HasKind.k_text = tt
  ty-scope n e h (HasKind.k_arrow a b) = (ty-scope n e (omega (arith, h)) a, ty-scope n e (omega (arith, h)) b)
  ty-scope n e h (HasKind.k_fields row) = row-scope n e (omega (arith, h)) row
  ty-scope n e h (HasKind.k_sum row) = row-scope n e (omega (arith, h)) row
  ty-scope {ctx} n e h (HasKind.k_all b) = ty-scope (n + 1) (more n (length ctx) e) (omega (arith, h)) b
  ty-scope {ctx} n e h (HasKind.k_ex b) = ty-scope (n + 1) (more n (length ctx) e) (omega (arith, h)) b
  ty-scope {ctx} n e h (HasKind.k_mu b) = ty-scope (n + 1) (more n (length ctx) e) (omega (arith, h)) b
  ty-scope {ctx} n e h (HasKind.k_lam b) = ty-scope (n + 1) (more n (length ctx) e) (omega (arith, h)) b
  ty-scope n e h (HasKind.k_apply f a) = (ty-scope n e (omega (arith, h)) f, ty-scope n e (omega (arith, h)) a)

  row-scope : {ctx : List Kind} {row : Row} (n : ℕ) → n ≡ length ctx → n + height_row row ≤ 2 ^ 64 → HasKinds ctx row → RowInScope n row
  row-scope n e h HasKinds.k_end = tt
  row-scope n e h (HasKinds.k_more f t rest) = (ty-scope n e (omega (arith, h)) t, row-scope n e (omega (arith, h)) rest)

length-shift : (vars : List Ty) → length (shift_all vars) ≡ length vars
length-shift [] = refl
length-shift (t ∷ ts) = ap suc (length-shift ts)

mutual
  -- a fixed point binds two variables at once, so the variables in scope are fewer than twice the height
  pub term-scope : {ctx : List Kind} {vars : List Ty} {e : Term} {t : Ty} (n m : ℕ) → n ≡ length ctx → m ≡ length vars → n + term_height e ≤ 2 ^ 63
      → m + 2 * term_height e ≤ 2 ^ 64 → HasType ctx vars e t → TermInScope n m e
  term-scope n m p q h g (HasType.var {n = i} x) = let b = var-below x in index-scope m i (omega (arith, b, q)) (omega (arith, g))
  term-scope n m p q h g HasType.int = tt
  term-scope n m p q h g HasType.bool = tt
  term-scope n m p q h g HasType.text = tt
  term-scope {vars = vars} n m p q h g (HasType.lam k e) = (
    ty-scope n p (omega (arith, h)) k,
    term-scope n (m + 1) p (more m (length vars) q)
        (omega (arith, h)) (omega (arith, g)) e,
  )
  term-scope n m p q h g (HasType.call f a) = (
    term-scope n m p q (omega (arith, h)) (omega (arith, g)) f,
    term-scope n m p q (omega (arith, h))
        (omega (arith, g)) a,
  )
  term-scope {ctx} {vars} n m p q h g (HasType.ty_lam e) = term-scope (n + 1) m (more n (length ctx) p) (q ∙ sym (length-shift vars)) (omega (arith, h))
      (omega (arith, g)) e
  term-scope n m p q h g (HasType.inst e k) = (term-scope n m p q (omega (arith, h)) (omega (arith, g)) e, ty-scope n p (omega (arith, h)) k)
  term-scope n m p q h g (HasType.fields row) = term_row-scope n m p q (omega (arith, h)) (omega (arith, g)) row
  term-scope n m p q h g (HasType.get e l) = term-scope n m p q (omega (arith, h)) (omega (arith, g)) e
  term-scope n m p q h g (HasType.pack c k e) =
      (ty-scope n p (omega (arith, h)) k, term-scope n m p q (omega (arith, h)) (omega (arith, g)) e, ty-scope n p (omega (arith, h)) (conv-kinds c).0)
  term-scope {ctx} {vars} n m p q h g (HasType.unpack e d) = (
    term-scope n m p q (omega (arith, h)) (omega (arith, g)) e,
    term-scope (n + 1) (m + 1) (more n (length ctx) p) (more m (length (shift_all vars)) (q ∙ sym (length-shift vars))) (omega (arith, h)) (omega (arith, g)) d,
  )
  term-scope n m p q h g (HasType.if_ a b c) = (
    term-scope n m p q (omega (arith, h)) (omega (arith, g)) a,
    term-scope n m p q (omega (arith, h)) (omega (arith, g)) b,
    term-scope n m p q
        (omega (arith, h)) (omega (arith, g)) c,
  )
  term-scope n m p q h g (HasType.arith a b) = (
    term-scope n m p q (omega (arith, h)) (omega (arith, g)) a,
    term-scope n m p q (omega (arith, h))
        (omega (arith, g)) b,
  )
  term-scope {vars = vars} n m p q h g (HasType.fix k l e) =
      (ty-scope n p (omega (arith, h)) k, ty-scope n p (omega (arith, h)) l, term-scope n (m + 2) p (omega (arith, q)) (omega (arith, h)) (omega (arith, g)) e)
  term-scope n m p q h g (HasType.inj c l e) = (term-scope n m p q (omega (arith, h)) (omega (arith, g)) e, ty-scope n p (omega (arith, h)) (conv-kinds c).0)
  term-scope {vars = vars} n m p q h g (HasType.case e k f) = (
    term-scope n m p q (omega (arith, h)) (omega (arith, g)) e,
    ty-scope n p (omega (arith, h)) k,
    branches-scope n (m + 1) p (more m (length vars) q) (omega (arith, h)) (omega (arith, g)) f,
  )
  term-scope n m p q h g (HasType.roll c e) = (term-scope n m p q (omega (arith, h)) (omega (arith, g)) e, ty-scope n p (omega (arith, h)) (conv-kinds c).0)
  term-scope n m p q h g (HasType.unroll e) = term-scope n m p q (omega (arith, h)) (omega (arith, g)) e
  term-scope n m p q h g (HasType.conv e c) = term-scope n m p q h g e

  term_row-scope : {ctx : List Kind} {vars : List Ty} {fields : TermRow} {row : Row} (n m : ℕ) → n ≡ length ctx → m ≡ length vars
      → n + row_height fields ≤ 2 ^ 63 → m + 2 * row_height fields ≤ 2 ^ 64 → FieldsHave ctx vars fields row → TermRowInScope n m fields
  term_row-scope n m p q h g FieldsHave.end = tt
  term_row-scope n m p q h g (FieldsHave.more e f rest) = (
    term-scope n m p q (omega (arith, h)) (omega (arith, g)) e,
    term_row-scope n m p q
        (omega (arith, h)) (omega (arith, g)) rest,
  )

  -- each branch binds a variable
  branches-scope : {ctx : List Kind} {vars : List Ty} {branches : TermRow} {row : Row} {t : Ty} (n m : ℕ) → n ≡ length ctx → m ≡ suc (length vars)
      → n + row_height branches ≤ 2 ^ 63 → m + 2 * row_height branches ≤ 2 ^ 64 → BranchesHave ctx vars branches row t → TermRowInScope n m branches
  branches-scope n m p q h g BranchesHave.none = tt
  branches-scope n m p q h g (BranchesHave.branch e rest) = (
    term-scope n m p q (omega (arith, h)) (omega (arith, g)) e,
    branches-scope n m p q (omega (arith, h)) (omega (arith, g)) rest,
  )

-- a closed type that is not too high has its variables in scope
pub closed-type : {t : Ty} {k : Kind} → HasKind [] t k → height t ≤ 2 ^ 64 → TyInScope 0 t
closed-type h g = ty-scope 0 refl (omega (arith, g)) h

-- a closed typed term that is not too high has its variables in scope
pub closed-term : {e : Term} {t : Ty} → HasType [] [] e t → term_height e ≤ 2 ^ 63 → TermInScope 0 0 e
closed-term h g = term-scope 0 0 refl refl (omega (arith, g)) (omega (arith, g)) h
