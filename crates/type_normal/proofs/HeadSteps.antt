-- What types put in for variables do at each form of type, with indexes counted as the code counts them.
-- Main results: sunk-below, put-outside, put-inside.
use Rattle.std.proofs.Common.{◌≡◌, ℕ, zero, suc, ◌+◌, ◌-◌, ◌<◌, ◌≤◌, List, [], ◌∷◌, length, get_or, refl, sym, ap, ap₂, ◌∙◌, arith}
use Rattle.omega_kinds.specs.Kind.{Kind}
use Rattle.omega_types.specs.Ty.{Ty, Row}
use Rattle.omega_types.specs.Inner.Bound.{bound_of, bound_row}
use Rattle.omega_types.specs.Fields.{Pairs, row}
use Rattle.omega_types.specs.Index.{shift}
use Rattle.omega_types.specs.Substitution.{rename}
use Rattle.omega_types.proofs.Single.{shift-zero}
use Rattle.omega_types.proofs.Steps.{deeper, map_parts}
use Rattle.type_normal.specs.Inner.Heads.{Head, stands, came, came_at, tree, raised, apply_head, under_head, sunk, sinks, head_in, row_in, ty_in, front_head, put_heads, putting}

-- an index that is bound inside stays

-- below binders, the change of those outside leaves the binders' variables
pub sunk-below : (depth : ℕ) (h : ℕ → Head) (i : ℕ) → i < depth → sunk depth h i ≡ stands (Ty.Var i)
sunk-below zero h i lt = absurd (omega (arith, lt))
sunk-below (suc depth) h zero lt = refl
sunk-below (suc depth) h (suc i) lt = ap raised (sunk-below depth h i (omega arith))

-- a change that leaves each index leaves each below binders
pub sunk-still : (depth : ℕ) (h : ℕ → Head) → ((i : ℕ) → h i ≡ stands (Ty.Var i)) → (i : ℕ) → sunk depth h i ≡ stands (Ty.Var i)
sunk-still zero h all i = all i
sunk-still (suc depth) h all zero = refl
sunk-still (suc depth) h all (suc i) = ap raised (sunk-still depth h all i)

-- the first indexes stay
abbrev pub Keeps : ℕ → (ℕ → Head) → Type 0
Keeps n h = (i : ℕ) → i < n → h i ≡ stands (Ty.Var i)

-- a change that leaves the first indexes leaves one more below a binder
pub under-keeps : (n : ℕ) (h : ℕ → Head) → Keeps n h → Keeps (suc n) (under_head h)
under-keeps n h k zero lt = refl
under-keeps n h k (suc i) lt = ap raised (k i (omega arith))

-- what mentions only indexes that stay is unchanged
mutual
  -- a change that leaves the first indexes leaves a type whose free indexes are among them
  pub head-unchanged : (n : ℕ) (h : ℕ → Head) (t : Ty) → Keeps n h → bound_of t ≤ n → head_in h t ≡ stands t
  head-unchanged n h (Ty.Var i) k le = k i (omega arith)
  head-unchanged n h Ty.Int k le = refl
  head-unchanged n h Ty.Bool k le = refl
  head-unchanged n h Ty.Text k le = refl
  head-unchanged n h (Ty.Arrow a b) k le = ap₂ (λ p q. stands (Ty.Arrow (tree p) (tree q))) (head-unchanged n h a k (omega arith)) (head-unchanged n h b k (omega arith))
  head-unchanged n h (Ty.Fields row) k le = ap (λ r. stands (Ty.Fields r)) (row-unchanged n h row k le)
  head-unchanged n h (Ty.Sum row) k le = ap (λ r. stands (Ty.Sum r)) (row-unchanged n h row k le)
  head-unchanged n h (Ty.All l b) k le = ap (λ p. stands (Ty.All l (tree p))) (head-unchanged (suc n) (under_head h) b (under-keeps n h k) (omega arith))
  head-unchanged n h (Ty.Ex l b) k le = ap (λ p. stands (Ty.Ex l (tree p))) (head-unchanged (suc n) (under_head h) b (under-keeps n h k) (omega arith))
  head-unchanged n h (Ty.Mu b) k le = ap (λ p. stands (Ty.Mu (tree p))) (head-unchanged (suc n) (under_head h) b (under-keeps n h k) (omega arith))
  head-unchanged n h (Ty.Lam l b) k le = ap (λ p. stands (Ty.Lam l (tree p))) (head-unchanged (suc n) (under_head h) b (under-keeps n h k) (omega arith))
  head-unchanged n h (Ty.Apply f a) k le = ap₂ (λ p q. apply_head p (tree q)) (head-unchanged n h f k (omega arith)) (head-unchanged n h a k (omega arith))

  pub row-unchanged : (n : ℕ) (h : ℕ → Head) (row : Row) → Keeps n h → bound_row row ≤ n → row_in h row ≡ row
  row-unchanged n h Row.End k le = refl
  row-unchanged n h (Row.More l t rest) k le = ap₂ (λ p r. Row.More l (tree p) r) (head-unchanged n h t k (omega arith)) (row-unchanged n h rest k (omega arith))

-- below a binder
pub ty-under : (depth : ℕ) (h : ℕ → Head) (b : Ty) → ty_in (under_head (sunk depth h)) b ≡ ty_in (sunk (depth + 1) h) b
ty-under depth h b = ap (λ n. ty_in (sunk n h) b) (next depth)
  where
    next : (n : ℕ) → suc n ≡ n + 1
    next n = omega arith

-- below the binders of a list
pub sinks-sunk : (ks : List Kind) (depth : ℕ) (h : ℕ → Head) → sinks ks (sunk depth h) ≡ sunk (length ks + depth) h
sinks-sunk [] depth h = ap (λ n. sunk n h) (omega arith)
sinks-sunk (k ∷ ks) depth h = sinks-sunk ks (suc depth) h ∙ ap (λ n. sunk n h) (omega arith)

-- a change of variables in a list of fields is that in their row
pub row-changed : (h : ℕ → Head) (xs : Pairs) → row (map_parts (ty_in h) xs) ≡ row_in h (row xs)
row-changed h [] = refl
row-changed h (x ∷ xs) = ap (Row.More x.0 (ty_in h x.1)) (row-changed h xs)

-- what comes in for an index from outside, below so many binders
abbrev pub shifted : ℕ → Head → Head
shifted depth (stands t) = stands (shift depth 0 t)
shifted depth (came t) = came (shift depth 0 t)
shifted depth (came_at t k) = came_at (shift depth 0 t) k

shifted-zero : (p : Head) → p ≡ shifted 0 p
shifted-zero (stands t) = ap stands (sym (shift-zero 0 t))
shifted-zero (came t) = ap came (sym (shift-zero 0 t))
shifted-zero (came_at t k) = ap (λ u. came_at u k) (sym (shift-zero 0 t))

next-shift : (depth : ℕ) (t : Ty) → rename suc (shift depth 0 t) ≡ shift (suc depth) 0 t
next-shift depth t = deeper depth t ∙ ap (λ n. shift n 0 t) (next depth)
  where
    next : (n : ℕ) → n + 1 ≡ suc n
    next n = omega arith

raised-shifted : (depth : ℕ) (p : Head) → raised (shifted depth p) ≡ shifted (suc depth) p
raised-shifted depth (stands t) = ap stands (next-shift depth t)
raised-shifted depth (came t) = ap came (next-shift depth t)
raised-shifted depth (came_at t k) = ap (λ u. came_at u k) (next-shift depth t)

-- below binders, an index from outside them is that index outside, with what comes in shifted
pub sunk-above : (depth : ℕ) (h : ℕ → Head) (i j : ℕ) → i ≡ depth + j → sunk depth h i ≡ shifted depth (h j)
sunk-above zero h i j e = ap h (omega arith) ∙ shifted-zero (h j)
sunk-above (suc depth) h zero j e = absurd (omega (arith, e))
sunk-above (suc depth) h (suc i) j e = ap raised (sunk-above depth h i j (omega arith)) ∙ raised-shifted depth (h j)

-- the types that are put in

put_heads-outside : (ts : List Ty) (h : ℕ → Head) (i j : ℕ) → i ≡ length ts + j → put_heads ts h i ≡ h j
put_heads-outside [] h i j e = ap h (omega arith)
put_heads-outside (t ∷ ts) h i j e = put_heads-outside ts (front_head t h) i (suc j) (omega arith)

put_heads-inside : (ts : List Ty) (h : ℕ → Head) (i j : ℕ) (d : Ty) → i + suc j ≡ length ts → put_heads ts h i ≡ came (get_or ts j d)
put_heads-inside [] h i j d e = absurd (omega (arith, e))
put_heads-inside (t ∷ ts) h i zero d e = put_heads-outside ts (front_head t h) i zero (omega arith)
put_heads-inside (t ∷ ts) h i (suc j) d e = put_heads-inside ts (front_head t h) i j d (omega arith)

-- a variable below binders
pub var-above : (depth n i : ℕ) → i ≡ depth + n → stands (shift depth 0 (Ty.Var n)) ≡ stands (Ty.Var i)
var-above depth n i e = ap (λ m. stands (Ty.Var m)) (sym e)

-- an index beyond the types put in is less by how many they are
pub put-outside : (ts : List Ty) (depth index : ℕ) → depth ≤ index → length ts ≤ index - depth → stands (Ty.Var (index - length ts)) ≡ sunk depth (putting ts) index
put-outside ts depth index le out =
    let j = index - depth - length ts in
    sym (sunk-above depth (putting ts) index (index - depth) (omega arith) ∙ (ap (shifted depth) (put_heads-outside ts (λ i. stands (Ty.Var i)) (index - depth) j (omega arith)) ∙ var-above depth j (index - length ts) (omega arith)))

-- an index of the types put in becomes its type, raised past the binders on the way
pub put-inside : (ts : List Ty) (depth index at : ℕ) (d : Ty) → depth ≤ index → index - depth < length ts → at ≡ length ts - 1 - (index - depth) → came (shift depth 0 (get_or ts at d)) ≡ sunk depth (putting ts) index
put-inside ts depth index at d le within e =
    sym (sunk-above depth (putting ts) index (index - depth) (omega arith) ∙ ap (shifted depth) (put_heads-inside ts (λ i. stands (Ty.Var i)) (index - depth) at d (omega arith)))
