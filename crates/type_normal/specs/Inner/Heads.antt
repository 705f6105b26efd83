-- Types put in for variables, and the normal form of the result at once: a type that comes in for the head of an
-- application takes the argument by hereditary substitution.
use Rattle.std.specs.Prelude.{ℕ, zero, suc, List, [], ◌∷◌}
use Rattle.omega_kinds.specs.Kind.{Kind}
use Rattle.omega_types.specs.Ty.{Ty, Row}
use Rattle.omega_types.specs.Substitution.{rename}
use Rattle.omega_types.specs.Index.{Slot, taken, kept, slot}
use Rattle.omega_types.specs.Normaliser.{beta, hsubst}

-- what becomes of a part of a type: its own head stands, or a normal type came in for the head, by itself or at a kind
pub data Head : Type 0 where
  stands : (t : Ty) → Head
  came : (t : Ty) → Head
  came_at : (t : Ty) → Kind → Head

abbrev pub tree : Head → Ty
tree (stands t) = t
tree (came t) = t
tree (came_at t k) = t

abbrev pub raised : Head → Head
raised (stands t) = stands (rename suc t)
raised (came t) = came (rename suc t)
raised (came_at t k) = came_at (rename suc t) k

abbrev pub apply_head : Head → Ty → Head
apply_head (stands f) a = stands (Ty.Apply f a)
apply_head (came f) a = came (beta f a)
apply_head (came_at (Ty.Lam j b) (Kind.Arrow k l)) a = came_at (hsubst k zero a b) l
apply_head (came_at f k) a = stands (Ty.Apply f a)

-- what each index becomes, below one more binder
abbrev pub under_head : (ℕ → Head) → ℕ → Head
under_head h zero = stands (Ty.Var zero)
under_head h (suc i) = raised (h i)

-- the same below so many, and below the binders of a list
abbrev pub sunk : ℕ → (ℕ → Head) → ℕ → Head
sunk zero h = h
sunk (suc depth) h = under_head (sunk depth h)

abbrev pub sinks : List Kind → (ℕ → Head) → ℕ → Head
sinks [] h = h
sinks (k ∷ ks) h = sinks ks (under_head h)

abbrev mutual
  pub head_in : (ℕ → Head) → Ty → Head
  head_in h (Ty.Var i) = h i
  head_in h Ty.Int = stands Ty.Int
  head_in h Ty.Bool = stands Ty.Bool
  head_in h Ty.Text = stands Ty.Text
  head_in h (Ty.Arrow a b) = stands (Ty.Arrow (tree (head_in h a)) (tree (head_in h b)))
  head_in h (Ty.Fields row) = stands (Ty.Fields (row_in h row))
  head_in h (Ty.Sum row) = stands (Ty.Sum (row_in h row))
  head_in h (Ty.All k b) = stands (Ty.All k (tree (head_in (under_head h) b)))
  head_in h (Ty.Ex k b) = stands (Ty.Ex k (tree (head_in (under_head h) b)))
  head_in h (Ty.Mu b) = stands (Ty.Mu (tree (head_in (under_head h) b)))
  head_in h (Ty.Lam k b) = stands (Ty.Lam k (tree (head_in (under_head h) b)))
  head_in h (Ty.Apply f a) = apply_head (head_in h f) (tree (head_in h a))

  pub row_in : (ℕ → Head) → Row → Row
  row_in h Row.End = Row.End
  row_in h (Row.More l t rest) = Row.More l (tree (head_in h t)) (row_in h rest)

abbrev pub ty_in : (ℕ → Head) → Ty → Ty
ty_in h t = tree (head_in h t)

-- index 0 becomes t, and each other index what h has for the one before
abbrev pub front_head : Ty → (ℕ → Head) → ℕ → Head
front_head t h zero = came t
front_head t h (suc i) = h i

-- one type for each binder's variable, the first for the outermost, and h for the variables outside
abbrev pub put_heads : List Ty → (ℕ → Head) → ℕ → Head
put_heads [] h = h
put_heads (t ∷ ts) h = put_heads ts (front_head t h)

abbrev pub putting : List Ty → ℕ → Head
putting ts = put_heads ts (λ i. stands (Ty.Var i))

-- one index becomes a type of a kind, and each greater index one less
abbrev pub slot_head : Kind → Ty → Slot → Head
slot_head k t taken = came_at t k
slot_head k t (kept n) = stands (Ty.Var n)

abbrev pub one_head : Kind → (index : ℕ) → Ty → ℕ → Head
one_head k i t j = slot_head k t (slot i j)
