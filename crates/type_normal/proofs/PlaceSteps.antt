-- What types that come in for variables do: one of a kind is hereditary substitution, and no variable below the first changes.
-- Main results: ty-one, coming-closed, place-same, place-above.
use Rattle.std.proofs.Common.{◌≡◌, ℕ, zero, suc, ◌+◌, ◌-◌, ◌<◌, ◌≤◌, refl, sym, ap, ap₂, ◌∙◌, subst, arith}
use Rattle.std.proofs.Math.Path.{fun_ext}
use Rattle.omega_kinds.specs.Kind.{Kind}
use Rattle.omega_kinds.specs.View.{kind_tree}
use Rattle.omega_types.specs.Ty.{Ty, Row}
use Rattle.omega_types.specs.Inner.Bound.{bound_of}
use Rattle.omega_types.specs.Index.{shift, Slot, taken, kept, slot, raised as raised_slot}
use Rattle.omega_types.specs.Normaliser.{Part, stuck, whole, tree as part_tree, apply_part, fill_part, put_in, put_in_row, args, hsubst}
use Rattle.omega_types.specs.Substitution.{rename}
use Rattle.omega_types.proofs.Steps.{may_follow-at}
use Rattle.type_normal.specs.Inner.Heads.{Head, stands, came_at, tree, raised, apply_head, under_head, sunk, head_in, row_in, ty_in, slot_head, one_head}
use Rattle.type_normal.specs.Inner.Placed.{coming_of, first_of}
use Rattle.type_normal.specs.declared.placing.Coming.{Coming}
use Rattle.type_normal.specs.declared.placing.Coming.TheVariants as coming
use Rattle.type_normal.proofs.FillSteps.{slot-below, slot-same, slot-above}
use Rattle.type_normal.proofs.HeadSteps.{Keeps, under-keeps, head-unchanged, shifted, sunk-above, var-above, ty-under, row-changed}

-- one type that comes in, below a binder

slot-raised : (k : Kind) (t : Ty) (s : Slot) → raised (slot_head k t s) ≡ slot_head k (rename suc t) (raised_slot s)
slot-raised k t taken = refl
slot-raised k t (kept n) = refl

pub one-under : (k : Kind) (i : ℕ) (t : Ty) → under_head (one_head k i t) ≡ one_head k (suc i) (rename suc t)
one-under k i t = fun_ext go
  where
    go : (j : ℕ) → under_head (one_head k i t) j ≡ one_head k (suc i) (rename suc t) j
    go zero = refl
    go (suc j) = slot-raised k t (slot i j)

-- a head is what a part is, where the part's substitutions are those of its kind
data Alike : Head → Part → Type 0 where
  a_stands : (t : Ty) → Alike (stands t) (stuck t)
  a_came : (t : Ty) (k : Kind) → Alike (came_at t k) (whole t k (args k))

alike-tree : {h : Head} {p : Part} → Alike h p → tree h ≡ part_tree p
alike-tree (a_stands t) = refl
alike-tree (a_came t k) = refl

alike-apply : {h : Head} {p : Part} → Alike h p → (a : Ty) → Alike (apply_head h a) (apply_part p a)
alike-apply (a_stands t) a = a_stands (Ty.Apply t a)
alike-apply (a_came (Ty.Lam j b) (Kind.Arrow k l)) a = a_came (hsubst k zero a b) l
alike-apply (a_came (Ty.Lam j b) Kind.Star) a = a_stands (Ty.Apply (Ty.Lam j b) a)
alike-apply (a_came (Ty.Var i) k) a = a_stands (Ty.Apply (Ty.Var i) a)
alike-apply (a_came Ty.Int k) a = a_stands (Ty.Apply Ty.Int a)
alike-apply (a_came Ty.Bool k) a = a_stands (Ty.Apply Ty.Bool a)
alike-apply (a_came Ty.Text k) a = a_stands (Ty.Apply Ty.Text a)
alike-apply (a_came (Ty.Arrow s t) k) a = a_stands (Ty.Apply (Ty.Arrow s t) a)
alike-apply (a_came (Ty.Fields r) k) a = a_stands (Ty.Apply (Ty.Fields r) a)
alike-apply (a_came (Ty.Sum r) k) a = a_stands (Ty.Apply (Ty.Sum r) a)
alike-apply (a_came (Ty.All l b) k) a = a_stands (Ty.Apply (Ty.All l b) a)
alike-apply (a_came (Ty.Ex l b) k) a = a_stands (Ty.Apply (Ty.Ex l b) a)
alike-apply (a_came (Ty.Mu b) k) a = a_stands (Ty.Apply (Ty.Mu b) a)
alike-apply (a_came (Ty.Apply f t) k) a = a_stands (Ty.Apply (Ty.Apply f t) a)

alike-slot : (k : Kind) (t : Ty) (s : Slot) → Alike (slot_head k t s) (fill_part k (args k) t s)
alike-slot k t taken = a_came t k
alike-slot k t (kept n) = a_stands (Ty.Var n)

-- a head that stands, whatever is in it
alike-stands : {s t : Ty} → s ≡ t → Alike (stands s) (stuck t)
alike-stands {s} e = subst (λ u. Alike (stands s) (stuck u)) e (a_stands s)

-- the body of a binder
under-tree : (k : Kind) (i : ℕ) (a b : Ty) → Alike (head_in (one_head k (suc i) (rename suc a)) b) (put_in k (args k) (suc i) (rename suc a) b) →
    ty_in (under_head (one_head k i a)) b ≡ hsubst k (suc i) (rename suc a) b
under-tree k i a b e = ap (λ h. ty_in h b) (one-under k i a) ∙ alike-tree e

mutual
  alike-one : (k : Kind) (i : ℕ) (a t : Ty) → Alike (head_in (one_head k i a) t) (put_in k (args k) i a t)
  alike-one k i a (Ty.Var j) = alike-slot k a (slot i j)
  alike-one k i a Ty.Int = a_stands Ty.Int
  alike-one k i a Ty.Bool = a_stands Ty.Bool
  alike-one k i a Ty.Text = a_stands Ty.Text
  alike-one k i a (Ty.Arrow s t) = alike-stands (ap₂ Ty.Arrow (alike-tree (alike-one k i a s)) (alike-tree (alike-one k i a t)))
  alike-one k i a (Ty.Fields row) = alike-stands (ap Ty.Fields (row-one k i a row))
  alike-one k i a (Ty.Sum row) = alike-stands (ap Ty.Sum (row-one k i a row))
  alike-one k i a (Ty.All l b) = alike-stands (ap (Ty.All l) (under-tree k i a b (alike-one k (suc i) (rename suc a) b)))
  alike-one k i a (Ty.Ex l b) = alike-stands (ap (Ty.Ex l) (under-tree k i a b (alike-one k (suc i) (rename suc a) b)))
  alike-one k i a (Ty.Mu b) = alike-stands (ap Ty.Mu (under-tree k i a b (alike-one k (suc i) (rename suc a) b)))
  alike-one k i a (Ty.Lam l b) = alike-stands (ap (Ty.Lam l) (under-tree k i a b (alike-one k (suc i) (rename suc a) b)))
  alike-one k i a (Ty.Apply f t) =
      let e = sym (alike-tree (alike-one k i a t)) in
      let r = alike-apply (alike-one k i a f) (hsubst k i a t) in
      subst (λ u. Alike (apply_head (head_in (one_head k i a) f) u) (apply_part (put_in k (args k) i a f) (hsubst k i a t))) e r

  row-one : (k : Kind) (i : ℕ) (a : Ty) (row : Row) → row_in (one_head k i a) row ≡ put_in_row k (args k) i a row
  row-one k i a Row.End = refl
  row-one k i a (Row.More l t rest) = ap₂ (Row.More l) (alike-tree (alike-one k i a t)) (row-one k i a rest)

-- one type that comes in is put in by hereditary substitution
pub ty-one : (k : Kind) (i : ℕ) (a t : Ty) → ty_in (one_head k i a) t ≡ hsubst k i a t
ty-one k i a t = alike-tree (alike-one k i a t)

-- the variables before the first that changes

one-keeps : (k : Kind) (i : ℕ) (t : Ty) → Keeps i (one_head k i t)
one-keeps k i t j lt = ap (slot_head k t) (slot-below i j lt)

sunk-keeps : (depth n : ℕ) (h : ℕ → Head) → Keeps n h → Keeps (n + depth) (sunk depth h)
sunk-keeps zero n h k i lt = k i (omega (arith, lt))
sunk-keeps (suc depth) n h k zero lt = refl
sunk-keeps (suc depth) n h k (suc i) lt = ap raised (sunk-keeps depth n h k i (omega (arith, lt)))

first-keeps : (c : Coming) → Keeps (first_of c) (coming_of c)
first-keeps (coming.One i t k) j lt = one-keeps (kind_tree k.now) i t.now j lt
first-keeps (coming.Many ts) j lt = absurd (omega (arith, lt))

-- a type whose free indexes are all before the first that changes is left
pub coming-closed : (c : Coming) (depth : ℕ) (t : Ty) → bound_of t ≤ first_of c + depth → head_in (sunk depth (coming_of c)) t ≡ stands t
coming-closed c depth t le = head-unchanged (first_of c + depth) (sunk depth (coming_of c)) t (sunk-keeps depth (first_of c) (coming_of c) (first-keeps c)) le

-- below binders, the type comes in for the variable itself
pub place-same : (k j : Kind) (t a : Ty) (i depth index : ℕ) → i + depth ≤ index → index - depth ≡ i → j ≡ k → t ≡ shift depth 0 a →
    came_at t j ≡ sunk depth (one_head k i a) index
place-same k j t a i depth index le e f g =
    let m = ap (λ s. shifted depth (slot_head k a s)) (slot-same i (index - depth) e) in
    ap₂ came_at g f ∙ sym (sunk-above depth (one_head k i a) index (index - depth) (omega arith) ∙ m)

-- a greater variable is one less
pub place-above : (k : Kind) (a : Ty) (i depth index : ℕ) → i + depth < index → stands (Ty.Var (index - 1)) ≡ sunk depth (one_head k i a) index
place-above k a i depth index lt =
    let m = ap (λ s. shifted depth (slot_head k a s)) (slot-above i (index - depth) (omega arith)) in
    let v = var-above depth (index - depth - 1) (index - 1) (omega arith) in
    sym (sunk-above depth (one_head k i a) index (index - depth) (omega arith) ∙ (m ∙ v))

pub ruleset place_steps = (coming-closed, ty-one, ty-under, row-changed, may_follow-at)
