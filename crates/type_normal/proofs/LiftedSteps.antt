-- What lowering and new indexes do, with indexes counted as the code counts them, and that raising undoes lowering.
-- Main results: walk-lowers, walk-moves, raised-back.
use Rattle.std.proofs.Common.{◌≡◌, ℕ, zero, suc, ◌+◌, ◌-◌, ◌<◌, ◌≤◌, List, [], ◌∷◌, Option, Some, None, get_or, length, refl, ap, ◌∙◌, arith}
use Rattle.std.proofs.Math.Decide.{dec_lt}
use Rattle.omega_types.specs.Ty.{Ty}
use Rattle.omega_types.specs.Substitution.{rename}
use Rattle.omega_types.specs.Inner.Bound.{bound_of}
use Rattle.omega_types.specs.Index.{bump, shift}
use Rattle.omega_types.specs.Mentions.{Mentions, lower}
use Rattle.omega_types.specs.Inner.Walk.{walked_ty}
use Rattle.omega_types.proofs.Algebra.{rename-rename, rename-id}
use Rattle.omega_types.proofs.Mention.{rename-agree}
use Rattle.omega_types.proofs.Steps.{walked-closed, walked-rename}
use Rattle.type_normal.specs.Inner.Lifted.{lifted, lower_from, renumbered}
use Rattle.type_normal.specs.Inner.Moved.{moved, or_stays, place_in}

-- what is bound inside stays, and each other index is renamed as it is outside

pub lifted-below : (depth : ℕ) (r : ℕ → ℕ) (i : ℕ) → i < depth → lifted depth r i ≡ i
lifted-below zero r i h = absurd (omega (arith, h))
lifted-below (suc depth) r zero h = refl
lifted-below (suc depth) r (suc i) h = ap suc (lifted-below depth r i (omega (arith, h)))

pub lifted-above : (depth : ℕ) (r : ℕ → ℕ) (i : ℕ) → depth ≤ i → lifted depth r i ≡ depth + r (i - depth)
lifted-above zero r i h = let e = ap r (less i) in omega (arith, e)
  where
    less : (n : ℕ) → n ≡ n - 0
    less n = omega arith
lifted-above (suc depth) r zero h = absurd (omega (arith, h))
lifted-above (suc depth) r (suc i) h =
    let e = lifted-above depth r i (omega (arith, h)) in
    let f : r (i - depth) ≡ r (suc i - suc depth) = ap r (less i depth) in
    omega (arith, e, f)
  where
    less : (n m : ℕ) → n - m ≡ suc n - suc m
    less n m = omega arith

walk-lifts : (r : ℕ → ℕ) (depth : ℕ) (t : Ty) → walked_ty (λ d i. Ty.Var (lifted d r i)) depth t ≡ rename (lifted depth r) t
walk-lifts r depth t = walked-rename (λ d. lifted d r) depth t (λ e. refl)

lifts-nothing : (r : ℕ → ℕ) (depth : ℕ) (t : Ty) → bound_of t ≤ depth → walked_ty (λ d i. Ty.Var (lifted d r i)) depth t ≡ t
lifts-nothing r depth t p = walked-closed (λ d i. Ty.Var (lifted d r i)) depth t (λ d i h. ap Ty.Var (lifted-below d r i h)) p

-- lowering

-- the walk that lowers indexes is the lowering
pub walk-lowers : (by from : ℕ) (t : Ty) → walked_ty (λ d i. Ty.Var (lifted d (λ j. j - by) i)) from t ≡ lower_from by from t
walk-lowers by from t = walk-lifts (λ i. i - by) from t

-- the walk that lowers indexes leaves a type without indexes at or above its place
pub lowers-nothing : (by from : ℕ) (t : Ty) → bound_of t ≤ from → walked_ty (λ d i. Ty.Var (lifted d (λ j. j - by) i)) from t ≡ t
lowers-nothing by from t p = lifts-nothing (λ i. i - by) from t p

-- lowering leaves an index below its place
pub lower-var_below : (by depth i : ℕ) → i < depth → Ty.Var (lifted depth (λ j. j - by) i) ≡ Ty.Var i
lower-var_below by depth i h = ap Ty.Var (lifted-below depth (λ j. j - by) i h)

-- an index at or above its place is lowered
pub lower-var_above : (by depth i : ℕ) → depth ≤ i → Ty.Var (lifted depth (λ j. j - by) i) ≡ Ty.Var (depth + (i - depth - by))
lower-var_above by depth i h = ap Ty.Var (lifted-above depth (λ j. j - by) i h)

-- new indexes

-- the walk that gives variables new indexes is the renumbering
pub walk-moves : (ps : List (Option ℕ)) (depth : ℕ) (t : Ty) → walked_ty (λ d i. Ty.Var (lifted d (moved ps) i)) depth t ≡ renumbered ps depth t
walk-moves ps depth t = walk-lifts (moved ps) depth t

-- the walk that gives variables new indexes leaves a type without indexes at or above its place
pub moves-nothing : (ps : List (Option ℕ)) (depth : ℕ) (t : Ty) → bound_of t ≤ depth → walked_ty (λ d i. Ty.Var (lifted d (moved ps) i)) depth t ≡ t
moves-nothing ps depth t p = lifts-nothing (moved ps) depth t p

pub moved-below : (depth index : ℕ) (ps : List (Option ℕ)) → index < depth → lifted depth (moved ps) index ≡ index
moved-below depth index ps h = lifted-below depth (moved ps) index h

pub moved-new : (depth index : ℕ) (ps : List (Option ℕ)) (new : ℕ) → depth ≤ index → place_in ps (index - depth) ≡ Some new → lifted depth (moved ps) index ≡ new + depth
moved-new depth index ps new h e =
    let b : depth + new ≡ new + depth = omega arith in
    lifted-above depth (moved ps) index h ∙ (ap (λ o. depth + or_stays (index - depth) o) e ∙ b)

pub moved-stays : (depth index : ℕ) (ps : List (Option ℕ)) → depth ≤ index → place_in ps (index - depth) ≡ None → lifted depth (moved ps) index ≡ index
moved-stays depth index ps h e =
    let b : depth + (index - depth) ≡ index = omega (arith, h) in
    lifted-above depth (moved ps) index h ∙ (ap (λ o. depth + or_stays (index - depth) o) e ∙ b)

pub ruleset index_steps = (moved-below, moved-new, moved-stays)

pub place-at : (ps : List (Option ℕ)) (i : ℕ) (o : Option ℕ) → i < length ps → o ≡ get_or ps i o → o ≡ place_in ps i
place-at [] i o lt e = absurd (omega (arith, lt))
place-at (p ∷ ps) zero o lt e = e
place-at (p ∷ ps) (suc i) o lt e = place-at ps i o (omega (arith, lt)) e

-- an index past the list of new ones has none
pub place-past : (ps : List (Option ℕ)) (i : ℕ) → length ps ≤ i → None ≡ place_in ps i
place-past [] i le = refl
place-past (p ∷ ps) zero le = absurd (omega (arith, le))
place-past (p ∷ ps) (suc i) le = place-past ps i (omega (arith, le))

pub ruleset place_steps = (place-at, place-past)

-- raising gives back what lowering was given, where it mentions none of the innermost variables

at-least : (n i : ℕ) (P : Type 0) → (i < n → P → ⊥) → P → n ≤ i
at-least n i P h p = go (dec_lt i n)
  where
    go : Dec (i < n) → n ≤ i
    go (yes e) = absurd (h e p)
    go (no e) = omega arith

-- a type that does not mention the innermost variables, lowered and raised, is itself
pub raised-back : (by : ℕ) (t : Ty) → ((i : ℕ) → i < by → Mentions i t → ⊥) → shift by 0 (lower by t) ≡ t
raised-back by t h = rename-rename (bump by 0) (λ i. i - by) t ∙ (rename-agree (λ i. by + (i - by)) (λ i. i) t (λ i m. back by i (at-least by i (Mentions i t) (h i) m)) ∙ rename-id t)
  where
    back : (n i : ℕ) → n ≤ i → n + (i - n) ≡ i
    back n i e = omega arith
