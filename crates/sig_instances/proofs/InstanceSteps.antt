-- The walk over a term that puts types in, and what it leaves as it is.
-- Main results: walk-fills, walk-closed.
use Rattle.std.proofs.Common.{◌≡◌, ℕ, suc, ◌+◌, ◌≤◌, refl, sym, ap, ap₂, ◌∙◌, arith}
use Rattle.omega_types.specs.Ty.{Ty}
use Rattle.omega_terms.specs.Term.{Term, TermRow}
use Rattle.omega_terms.specs.Inner.Bound.{type_bound, row_type_bound}
use Rattle.omega_terms.proofs.Unchanged.{ap₃}
use Rattle.omega_terms.specs.Inner.Walk.{walked, walked_row}
use Rattle.semantic_sigs.specs.Inner.Changes.{Head, tree, ty_in, under_head, sunk}
use Rattle.type_normal.proofs.HeadSteps.{Keeps, sunk-below, under-keeps, head-unchanged}
use Rattle.sig_instances.specs.Inner.TermChanges.{term_in, fields_in}

mutual
  unchanged : (n : ℕ) (h : ℕ → Head) (e : Term) → Keeps n h → type_bound e ≤ n → term_in h e ≡ e
  unchanged n h (Term.Var i) k le = refl
  unchanged n h (Term.Int z) k le = refl
  unchanged n h (Term.Bool b) k le = refl
  unchanged n h (Term.Text x) k le = refl
  unchanged n h (Term.Lam t e) k le = ap₂ Term.Lam (ap tree (head-unchanged n h t k (omega arith))) (unchanged n h e k (omega arith))
  unchanged n h (Term.Call f a) k le = ap₂ Term.Call (unchanged n h f k (omega arith)) (unchanged n h a k (omega arith))
  unchanged n h (Term.TyLam j e) k le = ap (Term.TyLam j) (unchanged (suc n) (under_head h) e (under-keeps n h k) (omega arith))
  unchanged n h (Term.Inst e t) k le = ap₂ Term.Inst (unchanged n h e k (omega arith)) (ap tree (head-unchanged n h t k (omega arith)))
  unchanged n h (Term.Fields row) k le = ap Term.Fields (row-unchanged n h row k le)
  unchanged n h (Term.Get e l) k le = ap (λ d. Term.Get d l) (unchanged n h e k le)
  unchanged n h (Term.Pack t e u) k le = ap₃ Term.Pack (ap tree (head-unchanged n h t k (omega arith))) (unchanged n h e k (omega arith)) (ap tree (head-unchanged n h u k (omega arith)))
  unchanged n h (Term.Unpack p e) k le = ap₂ Term.Unpack (unchanged n h p k (omega arith)) (unchanged (suc n) (under_head h) e (under-keeps n h k) (omega arith))
  unchanged n h (Term.If a b c) k le = ap₃ Term.If (unchanged n h a k (omega arith)) (unchanged n h b k (omega arith)) (unchanged n h c k (omega arith))
  unchanged n h (Term.Arith o a b) k le = ap₂ (Term.Arith o) (unchanged n h a k (omega arith)) (unchanged n h b k (omega arith))
  unchanged n h (Term.Fix t u e) k le = ap₃ Term.Fix (ap tree (head-unchanged n h t k (omega arith))) (ap tree (head-unchanged n h u k (omega arith))) (unchanged n h e k (omega arith))
  unchanged n h (Term.Inj l e t) k le = ap₂ (Term.Inj l) (unchanged n h e k (omega arith)) (ap tree (head-unchanged n h t k (omega arith)))
  unchanged n h (Term.Case e t row) k le = ap₃ Term.Case (unchanged n h e k (omega arith)) (ap tree (head-unchanged n h t k (omega arith))) (row-unchanged n h row k (omega arith))
  unchanged n h (Term.Roll e t) k le = ap₂ Term.Roll (unchanged n h e k (omega arith)) (ap tree (head-unchanged n h t k (omega arith)))
  unchanged n h (Term.Unroll e) k le = ap Term.Unroll (unchanged n h e k le)

  row-unchanged : (n : ℕ) (h : ℕ → Head) (row : TermRow) → Keeps n h → row_type_bound row ≤ n → fields_in h row ≡ row
  row-unchanged n h TermRow.End k le = refl
  row-unchanged n h (TermRow.More l e rest) k le = ap₂ (TermRow.More l) (unchanged n h e k (omega arith)) (row-unchanged n h rest k (omega arith))

term-closed : (depth : ℕ) (h : ℕ → Head) (e : Term) → type_bound e ≤ depth → term_in (sunk depth h) e ≡ e
term-closed depth h e le = unchanged depth (sunk depth h) e (sunk-below depth h) le

next : (n : ℕ) → suc n ≡ n + 1
next n = omega arith

term-deeper : (depth : ℕ) (h : ℕ → Head) (e : Term) → term_in (sunk (depth + 1) h) e ≡ term_in (under_head (sunk depth h)) e
term-deeper depth h e = ap (λ n. term_in (sunk n h) e) (sym (next depth))

-- the walk that puts the types in, each variable of a term staying as it is
abbrev pub filling : (ℕ → Head) → ℕ → Ty → Ty
filling h depth t = ty_in (sunk depth h) t

-- a walk that leaves each term variable as it is
abbrev pub staying : ℕ → ℕ → ℕ → Term
staying types terms index = Term.Var index

mutual
  -- the walk that puts types in is the change of variables in a term
  pub walk-fills : (h : ℕ → Head) (i j : ℕ) (e : Term) → walked (filling h) staying i j e ≡ term_in (sunk i h) e
  walk-fills h i j (Term.Var n) = refl
  walk-fills h i j (Term.Int z) = refl
  walk-fills h i j (Term.Bool b) = refl
  walk-fills h i j (Term.Text x) = refl
  walk-fills h i j (Term.Lam t e) = ap (Term.Lam (filling h i t)) (walk-fills h i (j + 1) e)
  walk-fills h i j (Term.Call f a) = ap₂ Term.Call (walk-fills h i j f) (walk-fills h i j a)
  walk-fills h i j (Term.TyLam k e) = ap (Term.TyLam k) (walk-fills h (i + 1) j e ∙ term-deeper i h e)
  walk-fills h i j (Term.Inst e t) = ap (λ d. Term.Inst d (filling h i t)) (walk-fills h i j e)
  walk-fills h i j (Term.Fields row) = ap Term.Fields (row-fills h i j row)
  walk-fills h i j (Term.Get e l) = ap (λ d. Term.Get d l) (walk-fills h i j e)
  walk-fills h i j (Term.Pack t e u) = ap (λ d. Term.Pack (filling h i t) d (filling h i u)) (walk-fills h i j e)
  walk-fills h i j (Term.Unpack p e) = ap₂ Term.Unpack (walk-fills h i j p) (walk-fills h (i + 1) (j + 1) e ∙ term-deeper i h e)
  walk-fills h i j (Term.If a b c) = ap₃ Term.If (walk-fills h i j a) (walk-fills h i j b) (walk-fills h i j c)
  walk-fills h i j (Term.Arith o a b) = ap₂ (Term.Arith o) (walk-fills h i j a) (walk-fills h i j b)
  walk-fills h i j (Term.Fix t u e) = ap (Term.Fix (filling h i t) (filling h i u)) (walk-fills h i (j + 1 + 1) e)
  walk-fills h i j (Term.Inj l e t) = ap (λ d. Term.Inj l d (filling h i t)) (walk-fills h i j e)
  walk-fills h i j (Term.Case e t row) = ap₂ (λ d f. Term.Case d (filling h i t) f) (walk-fills h i j e) (row-fills h i (j + 1) row)
  walk-fills h i j (Term.Roll e t) = ap (λ d. Term.Roll d (filling h i t)) (walk-fills h i j e)
  walk-fills h i j (Term.Unroll e) = ap Term.Unroll (walk-fills h i j e)

  row-fills : (h : ℕ → Head) (i j : ℕ) (row : TermRow) → walked_row (filling h) staying i j row ≡ fields_in (sunk i h) row
  row-fills h i j TermRow.End = refl
  row-fills h i j (TermRow.More l e rest) = ap₂ (TermRow.More l) (walk-fills h i j e) (row-fills h i j rest)

-- the walk that puts types in leaves a term whose free type indexes are all below its place
pub walk-closed : (h : ℕ → Head) (i j : ℕ) (e : Term) → type_bound e ≤ i → walked (filling h) staying i j e ≡ e
walk-closed h i j e le = walk-fills h i j e ∙ term-closed i h e le
