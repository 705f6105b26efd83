-- A recursive type whose unfolding is convertible to it: by the sizes of normal forms its body is its own variable.
-- Main results: mu_unfolds.
use Rattle.std.specs.Prelude.{ℕ, zero, suc, ◌+◌, ◌≤◌, ◌∷◌, ◌≡◌}
use Rattle.std.proofs.Common.{arith}
use Rattle.std.proofs.Math.Path.{refl, sym, ◌∙◌, ap, subst}
use Rattle.omega_kinds.specs.Kind.{Kind}
use Rattle.omega_types.specs.Ty.{Ty, Row, lift}
use Rattle.omega_types.specs.Inner.Size.{nodes, nodes_row}
use Rattle.omega_types.specs.Substitution.{rename, rename_row}
use Rattle.omega_types.specs.Kinding.{HasKind}
use Rattle.omega_types.specs.Conversion.{Conv}
use Rattle.omega_types.specs.Index.{Slot, taken, kept, slot, i_here}
use Rattle.omega_types.specs.Normaliser.{Args, Part, stuck, whole, tree, apply_part, fill_part, put_in, put_in_row, hsubst, normal}
use Rattle.omega_types.specs.Inversion.{MuUnfolds}
use Rattle.omega_types.proofs.Single.{substitute_at-zero}
use Rattle.omega_types.proofs.Preservation.{conv-kinds}
use Rattle.omega_types.proofs.Hereditary.{normal-gives}
use Rattle.omega_types.proofs.Inverse.{same-normal, mu-kinds}
use Rattle.omega_types.proofs.LawProofs.{normal_of_substitute}

-- renaming keeps the size

mutual
  nodes-rename : (r : ℕ → ℕ) (t : Ty) → nodes (rename r t) ≡ nodes t
  nodes-rename r (Ty.Var i) = refl
  nodes-rename r Ty.Int = refl
  nodes-rename r Ty.Bool = refl
  nodes-rename r Ty.Text = refl
  nodes-rename r (Ty.Arrow a b) = omega (arith, nodes-rename r a, nodes-rename r b)
  nodes-rename r (Ty.Fields row) = omega (arith, nodes_row-rename r row)
  nodes-rename r (Ty.Sum row) = omega (arith, nodes_row-rename r row)
  nodes-rename r (Ty.All k b) = omega (arith, nodes-rename (lift r) b)
  nodes-rename r (Ty.Ex k b) = omega (arith, nodes-rename (lift r) b)
  nodes-rename r (Ty.Mu b) = omega (arith, nodes-rename (lift r) b)
  nodes-rename r (Ty.Lam k b) = omega (arith, nodes-rename (lift r) b)
  nodes-rename r (Ty.Apply f a) = omega (arith, nodes-rename r f, nodes-rename r a)

  nodes_row-rename : (r : ℕ → ℕ) (row : Row) → nodes_row (rename_row r row) ≡ nodes_row row
  nodes_row-rename r Row.End = refl
  nodes_row-rename r (Row.More l t rest) = omega (arith, nodes-rename r t, nodes_row-rename r rest)

-- an argument of kind * takes no argument of its own

Ground : Part → Type 0
Ground (stuck t) = Unit {0}
Ground (whole t Kind.Star A) = Unit {0}
Ground (whole t (Kind.Arrow k l) A) = ⊥

apply-stuck : (p : Part) (a : Ty) → Ground p → apply_part p a ≡ stuck (Ty.Apply (tree p) a)
unfolding Ground
apply-stuck (stuck t) a g = refl
apply-stuck (whole (Ty.Lam j b) Kind.Star A) a g = refl
apply-stuck (whole (Ty.Lam j b) (Kind.Arrow k l) A) a g = absurd g
apply-stuck (whole (Ty.Var i) k A) a g = refl
apply-stuck (whole _ k A) a g = refl

put_in-ground : (A : Args Kind.Star) (i : ℕ) (a t : Ty) → Ground (put_in Kind.Star A i a t)
unfolding Ground
put_in-ground A i a (Ty.Var j) = go (slot i j)
  where
    go : (s : Slot) → Ground (fill_part Kind.Star A a s)
    go taken = tt
    go (kept n) = tt
put_in-ground A i a (Ty.Apply f t) = subst Ground (sym (apply-stuck (put_in Kind.Star A i a f) (tree (put_in Kind.Star A i a t)) (put_in-ground A i a f))) tt
put_in-ground A i a _ = tt

-- a size stays, or grows by that of an argument but for the one variable in whose place it came

data Grown (x y n : ℕ) : Type 0 where
  same : y ≡ x → Grown x y n
  more : x + n ≤ y + 1 → Grown x y n

grown-one : {x y n : ℕ} → Grown x y n → Grown (x + 1) (y + 1) n
grown-one (same e) = same (omega (arith, e))
grown-one (more e) = more (omega (arith, e))

grown-two : {x y u v n : ℕ} → 1 ≤ n → Grown x y n → Grown u v n → Grown (x + u + 1) (y + v + 1) n
grown-two h (same e) (same f) = same (omega (arith, e, f))
grown-two h (same e) (more f) = more (omega (arith, e, f))
grown-two h (more e) (same f) = more (omega (arith, e, f))
grown-two h (more e) (more f) = more (omega (arith, h, e, f))

mutual
  put_in-grown : (A : Args Kind.Star) (i : ℕ) (a t : Ty) (n : ℕ) → nodes a ≡ n → 1 ≤ n → Grown (nodes t) (nodes (tree (put_in Kind.Star A i a t))) n
  put_in-grown A i a (Ty.Var j) n e h = go (slot i j)
    where
      go : (s : Slot) → Grown 1 (nodes (tree (fill_part Kind.Star A a s))) n
      go taken = more (omega (arith, e))
      go (kept m) = same refl
  put_in-grown A i a Ty.Int n e h = same refl
  put_in-grown A i a Ty.Bool n e h = same refl
  put_in-grown A i a Ty.Text n e h = same refl
  put_in-grown A i a (Ty.Arrow s t) n e h = grown-two h (put_in-grown A i a s n e h) (put_in-grown A i a t n e h)
  put_in-grown A i a (Ty.Fields row) n e h = grown-one (put_in_row-grown A i a row n e h)
  put_in-grown A i a (Ty.Sum row) n e h = grown-one (put_in_row-grown A i a row n e h)
  put_in-grown A i a (Ty.All k b) n e h = grown-one (put_in-grown A (suc i) (rename suc a) b n (nodes-rename suc a ∙ e) h)
  put_in-grown A i a (Ty.Ex k b) n e h = grown-one (put_in-grown A (suc i) (rename suc a) b n (nodes-rename suc a ∙ e) h)
  put_in-grown A i a (Ty.Mu b) n e h = grown-one (put_in-grown A (suc i) (rename suc a) b n (nodes-rename suc a ∙ e) h)
  put_in-grown A i a (Ty.Lam k b) n e h = grown-one (put_in-grown A (suc i) (rename suc a) b n (nodes-rename suc a ∙ e) h)
  put_in-grown A i a (Ty.Apply f t) n e h =
      let g = grown-two h (put_in-grown A i a f n e h) (put_in-grown A i a t n e h) in
      subst (λ p. Grown (nodes f + nodes t + 1) (nodes (tree p)) n) (sym (apply-stuck (put_in Kind.Star A i a f) (tree (put_in Kind.Star A i a t)) (put_in-ground A i a f))) g

  put_in_row-grown : (A : Args Kind.Star) (i : ℕ) (a : Ty) (row : Row) (n : ℕ) → nodes a ≡ n → 1 ≤ n → Grown (nodes_row row) (nodes_row (put_in_row Kind.Star A i a row)) n
  put_in_row-grown A i a Row.End n e h = same refl
  put_in_row-grown A i a (Row.More l t rest) n e h = grown-two h (put_in-grown A i a t n e h) (put_in_row-grown A i a rest n e h)

-- a normal form that is its own unfolding is its own variable

nodes-some : (t : Ty) → 1 ≤ nodes t
nodes-some Ty.Int = omega arith
nodes-some _ = omega arith

small : (n a m : Ty) → nodes n ≤ 1 → Ty.Mu m ≡ hsubst Kind.Star zero a n → n ≡ Ty.Var zero
small (Ty.Var zero) a m h e = refl
small (Ty.Var (suc j)) a m h e = cc
small Ty.Int a m h e = cc
small Ty.Bool a m h e = cc
small Ty.Text a m h e = cc
small (Ty.Arrow s t) a m h e = cc
small (Ty.Fields row) a m h e = cc
small (Ty.Sum row) a m h e = cc
small (Ty.All k b) a m h e = cc
small (Ty.Ex k b) a m h e = cc
small (Ty.Mu b) a m h e = absurd (omega (arith, h, nodes-some b))
small (Ty.Lam k b) a m h e = cc
small (Ty.Apply f t) a m h e = absurd (omega (arith, h, nodes-some f))

own-variable : (n : Ty) → Ty.Mu n ≡ hsubst Kind.Star zero (Ty.Mu n) n → n ≡ Ty.Var zero
own-variable n e = go (put_in-grown tt zero (Ty.Mu n) n (nodes n + 1) refl (omega arith))
  where
    sizes : nodes n + 1 ≡ nodes (hsubst Kind.Star zero (Ty.Mu n) n)
    sizes = ap nodes e

    go : Grown (nodes n) (nodes (hsubst Kind.Star zero (Ty.Mu n) n)) (nodes n + 1) → n ≡ Ty.Var zero
    go (same f) = absurd (omega (arith, sizes, f))
    go (more f) = small n (Ty.Mu n) n (omega (arith, sizes, f)) e

-- a recursive type is convertible to its unfolding only where its body is convertible to its own variable
pub mu_unfolds : MuUnfolds
mu_unfolds ctx b e =
    let h = conv-kinds e in
    let hb : HasKind (Kind.Star ∷ ctx) b Kind.Star = mu-kinds h.0 in
    let n : Ty = normal (Kind.Star ∷ ctx) b in
    let p : Ty.Mu n ≡ hsubst Kind.Star zero (Ty.Mu n) n = same-normal e ∙ (ap (normal ctx) (sym (substitute_at-zero (Ty.Mu b) b)) ∙ normal_of_substitute ctx (Kind.Star ∷ ctx) zero (Ty.Mu b) b Kind.Star Kind.Star i_here h.0 hb) in
    subst (λ u. Conv (Kind.Star ∷ ctx) b u Kind.Star) (own-variable n p) (normal-gives hb).1
