-- What a walk over a type does, with indexes counted as the code counts them: a walk by substitutions is a substitution, one
-- by renamings is a renaming, and one that leaves what is bound inside leaves a closed type.
-- Main results: walk-shifts, walk-puts, shifts-nothing, puts-nothing.
use Rattle.std.proofs.Common.{◌≡◌, ℕ, zero, suc, ◌+◌, ◌-◌, ◌<◌, ◌≤◌, [], ◌∷◌, length, get_or, take, map, refl, sym, ap, ap₂, ◌∙◌, arith}
use Rattle.omega_kinds.specs.declared.label.Label.{Label}
use Rattle.omega_types.specs.Ty.{Ty, Row, lift}
use Rattle.omega_types.specs.Substitution.{rename, substitute, substitute_row, under}
use Rattle.omega_types.specs.Index.{bump, shift, put, substitute_at}
use Rattle.omega_types.specs.Inner.Bound.{bound_of, bound_row}
use Rattle.omega_types.specs.Fields.{Pairs, row, Rises, MayFollow}
use Rattle.omega_types.specs.Inner.Walk.{walked_ty, walked_row}
use Rattle.omega_types.proofs.Algebra.{substitute-vars, under-vars}
use Rattle.omega_types.proofs.Single.{bump-below, bump-above, put-below, put-same, put-above, put-under, shift-shift, shift-suc, shift-zero}

-- the pairs with each part changed
abbrev pub map_parts : (Ty → Ty) → Pairs → Pairs
map_parts f = map (λ x. (x.0, f x.1))

-- the label at a place may follow the fields before it, whatever their parts have become
pub may_follow-at : (f : Ty → Ty) (xs : Pairs) (i : ℕ) (d : Label × Ty) → i < length xs → Rises xs → MayFollow (map_parts f (take i xs)) (get_or xs i d).0
may_follow-at f [] i d p r = absurd (omega arith)
may_follow-at f (x ∷ xs) zero d p r = tt
may_follow-at f (x ∷ []) (suc i) d p r = absurd (omega arith)
may_follow-at f (x ∷ y ∷ xs) (suc zero) d p r = r.0
may_follow-at f (x ∷ y ∷ xs) (suc (suc i)) d p r = may_follow-at f (y ∷ xs) (suc i) d (omega arith) r.1

-- a walk over a list of fields is the walk over their row
pub row-walked : (f : ℕ → ℕ → Ty) (d : ℕ) (xs : Pairs) → row (map_parts (walked_ty f d) xs) ≡ walked_row f d (row xs)
row-walked f d [] = refl
row-walked f d (x ∷ xs) = ap (Row.More x.0 (walked_ty f d x.1)) (row-walked f d xs)

pub ruleset walk_rows = (row-walked, may_follow-at)

-- substitutions, from a depth on each one below a binder more than the one before it
mutual
  pub walked-substitute : (s : ℕ → ℕ → Ty) (from d : ℕ) (t : Ty) → ((e : ℕ) → from ≤ e → s (e + 1) ≡ under (s e)) → from ≤ d → walked_ty s d t ≡ substitute (s d) t
  walked-substitute s from d (Ty.Var i) h p = refl
  walked-substitute s from d Ty.Int h p = refl
  walked-substitute s from d Ty.Bool h p = refl
  walked-substitute s from d Ty.Text h p = refl
  walked-substitute s from d (Ty.Arrow a b) h p = ap₂ Ty.Arrow (walked-substitute s from d a h p) (walked-substitute s from d b h p)
  walked-substitute s from d (Ty.Fields row) h p = ap Ty.Fields (walked-substitute_row s from d row h p)
  walked-substitute s from d (Ty.Sum row) h p = ap Ty.Sum (walked-substitute_row s from d row h p)
  walked-substitute s from d (Ty.All k b) h p = ap (Ty.All k) (walked-substitute s from (d + 1) b h (omega arith) ∙ ap (λ g. substitute g b) (h d p))
  walked-substitute s from d (Ty.Ex k b) h p = ap (Ty.Ex k) (walked-substitute s from (d + 1) b h (omega arith) ∙ ap (λ g. substitute g b) (h d p))
  walked-substitute s from d (Ty.Mu b) h p = ap Ty.Mu (walked-substitute s from (d + 1) b h (omega arith) ∙ ap (λ g. substitute g b) (h d p))
  walked-substitute s from d (Ty.Lam k b) h p = ap (Ty.Lam k) (walked-substitute s from (d + 1) b h (omega arith) ∙ ap (λ g. substitute g b) (h d p))
  walked-substitute s from d (Ty.Apply f a) h p = ap₂ Ty.Apply (walked-substitute s from d f h p) (walked-substitute s from d a h p)

  pub walked-substitute_row : (s : ℕ → ℕ → Ty) (from d : ℕ) (row : Row) → ((e : ℕ) → from ≤ e → s (e + 1) ≡ under (s e)) → from ≤ d → walked_row s d row ≡ substitute_row (s d) row
  walked-substitute_row s from d Row.End h p = refl
  walked-substitute_row s from d (Row.More l t rest) h p = ap₂ (Row.More l) (walked-substitute s from d t h p) (walked-substitute_row s from d rest h p)

-- renamings, each one below a binder more than the one before it

abbrev vars : (ℕ → ℕ) → ℕ → Ty
vars r i = Ty.Var (r i)

-- a walk that renames variables, as renamings go below binders, is that renaming
pub walked-rename : (r : ℕ → ℕ → ℕ) (d : ℕ) (t : Ty) → ((e : ℕ) → r (suc e) ≡ lift (r e)) → walked_ty (λ e i. Ty.Var (r e i)) d t ≡ rename (r d) t
walked-rename r d t h = walked-substitute (λ e. vars (r e)) 0 d t (λ e _. under-next e) (omega arith) ∙ substitute-vars (r d) t
  where
    next : (n : ℕ) → n + 1 ≡ suc n
    next n = omega arith

    under-next : (e : ℕ) → vars (r (e + 1)) ≡ under (vars (r e))
    under-next e = ap (λ n. vars (r n)) (next e) ∙ (ap vars (h e) ∙ sym (under-vars (r e)))

-- a walk that leaves what is bound inside leaves what mentions nothing else
mutual
  -- a walk that leaves what is bound inside leaves a type without free indexes from there on
  pub walked-closed : (f : ℕ → ℕ → Ty) (d : ℕ) (t : Ty) → ((e i : ℕ) → i < e → f e i ≡ Ty.Var i) → bound_of t ≤ d → walked_ty f d t ≡ t
  walked-closed f d (Ty.Var i) h p = h d i (omega (arith, p))
  walked-closed f d Ty.Int h p = refl
  walked-closed f d Ty.Bool h p = refl
  walked-closed f d Ty.Text h p = refl
  walked-closed f d (Ty.Arrow a b) h p = ap₂ Ty.Arrow (walked-closed f d a h (omega (arith, p))) (walked-closed f d b h (omega (arith, p)))
  walked-closed f d (Ty.Fields row) h p = ap Ty.Fields (walked-closed_row f d row h p)
  walked-closed f d (Ty.Sum row) h p = ap Ty.Sum (walked-closed_row f d row h p)
  walked-closed f d (Ty.All k b) h p = ap (Ty.All k) (walked-closed f (d + 1) b h (omega (arith, p)))
  walked-closed f d (Ty.Ex k b) h p = ap (Ty.Ex k) (walked-closed f (d + 1) b h (omega (arith, p)))
  walked-closed f d (Ty.Mu b) h p = ap Ty.Mu (walked-closed f (d + 1) b h (omega (arith, p)))
  walked-closed f d (Ty.Lam k b) h p = ap (Ty.Lam k) (walked-closed f (d + 1) b h (omega (arith, p)))
  walked-closed f d (Ty.Apply g a) h p = ap₂ Ty.Apply (walked-closed f d g h (omega (arith, p))) (walked-closed f d a h (omega (arith, p)))

  pub walked-closed_row : (f : ℕ → ℕ → Ty) (d : ℕ) (row : Row) → ((e i : ℕ) → i < e → f e i ≡ Ty.Var i) → bound_row row ≤ d → walked_row f d row ≡ row
  walked-closed_row f d Row.End h p = refl
  walked-closed_row f d (Row.More l t rest) h p = ap₂ (Row.More l) (walked-closed f d t h (omega (arith, p))) (walked-closed_row f d rest h (omega (arith, p)))

-- shifts

-- the walk that raises indexes is the shift
pub walk-shifts : (by from : ℕ) (t : Ty) → walked_ty (λ d i. Ty.Var (bump by d i)) from t ≡ shift by from t
walk-shifts by from t = walked-rename (bump by) from t (λ e. refl)

-- that walk leaves a type without indexes at or above its place
pub shifts-nothing : (by from : ℕ) (t : Ty) → bound_of t ≤ from → walked_ty (λ d i. Ty.Var (bump by d i)) from t ≡ t
shifts-nothing by from t p = walked-closed (λ d i. Ty.Var (bump by d i)) from t (λ d i h. ap Ty.Var (bump-below by d i h)) p

-- a shift by nothing leaves a type as it is
pub shift-still : (by from : ℕ) (t : Ty) → by ≡ 0 → shift by from t ≡ t
shift-still by from t e = ap (λ n. shift n from t) e ∙ shift-zero from t

-- an index at or above the place of a shift is raised
pub bump-past : (by from i : ℕ) → from ≤ i → bump by from i ≡ i + by
bump-past by from i h = let e = bump-above by from i h in omega arith

pub ruleset shift_steps = (shift-still, bump-below, bump-past)

-- substitution for the variable index, which has the index at below some binders

-- an argument that comes below one more binder
pub deeper : (depth : ℕ) (arg : Ty) → rename suc (shift depth 0 arg) ≡ shift (depth + 1) 0 arg
deeper depth arg = sym (shift-suc (shift depth 0 arg)) ∙ (shift-shift 1 depth 0 arg ∙ ap (λ n. shift n 0 arg) (omega arith))

pub put-next : (index at : ℕ) (arg : Ty) → index ≤ at → put (at + 1) (shift (at + 1 - index) 0 arg) ≡ under (put at (shift (at - index) 0 arg))
put-next index at arg h =
    sym (put-under at (shift (at - index) 0 arg) ∙ ap₂ put (next at) (deeper (at - index) arg ∙ ap (λ n. shift n 0 arg) (omega (arith, h))))
  where
    next : (n : ℕ) → suc n ≡ n + 1
    next n = omega arith

-- the walk that puts an argument in at an index is the substitution for that index
pub walk-puts : (index : ℕ) (arg t : Ty) → walked_ty (λ at i. put at (shift (at - index) 0 arg) i) index t ≡ substitute_at index arg t
walk-puts index arg t =
    walked-substitute (λ at i. put at (shift (at - index) 0 arg) i) index index t (λ at h. put-next index at arg h) (omega arith) ∙
    ap (λ a. substitute_at index a t) (ap (λ n. shift n 0 arg) (omega arith) ∙ shift-zero 0 arg)

-- that walk leaves a type without indexes at or above its place
pub puts-nothing : (index at : ℕ) (arg t : Ty) → bound_of t ≤ at → walked_ty (λ d i. put d (shift (d - index) 0 arg) i) at t ≡ t
puts-nothing index at arg t p = walked-closed (λ d i. put d (shift (d - index) 0 arg) i) at t (λ d i h. put-below d (shift (d - index) 0 arg) i h) p

pub put-var_below : (at i : ℕ) (arg : Ty) → i < at → put at arg i ≡ Ty.Var i
put-var_below at i arg h = put-below at arg i h

pub put-var_same : (at i : ℕ) (arg : Ty) → i ≡ at → put at arg i ≡ arg
put-var_same at i arg e = ap (put at arg) e ∙ put-same at arg

pub put-var_above : (at i : ℕ) (arg : Ty) → at < i → put at arg i ≡ Ty.Var (i - 1)
put-var_above at zero arg h = absurd (omega arith)
put-var_above at (suc i) arg h = put-above at arg i (omega arith) ∙ ap Ty.Var (less i)
  where
    less : (n : ℕ) → n ≡ suc n - 1
    less n = omega arith

pub ruleset put_steps = (put-var_below, put-var_same, put-var_above)
