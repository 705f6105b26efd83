-- What a type with another one put in, and a shifted one, is at each form, as a test finds it.
-- Main results: shifted-all, filled-all, filled-apply, filled-raised, no-apply.
use Rattle.std.proofs.Common.{◌≡◌, ◌↔◌, ℕ, suc, ◌+◌, List, Bool as Truth, IsTrue, false, length, refl, sym, ap, ap₂, ◌∙◌}
use Rattle.omega_kinds.specs.Kind.{Kind}
use Rattle.omega_types.specs.Index.{bump, shift}
use Rattle.omega_types.specs.Normaliser.{Args, args, put_in_row}
use Rattle.omega_types.specs.Substitution.{rename_row}
use Rattle.omega_types.specs.Ty.{Ty, Row}
use Rattle.omega_types.proofs.Single.{shift-zero}
use Rattle.omega_types.proofs.Unchanged.{shift-unchanged}
use Rattle.omega_types.proofs.Steps.{shift-still}
use Rattle.type_store.specs.declared.node.Form.{Form}
use Rattle.type_store.specs.declared.node.Form.TheVariants as form
use Rattle.type_store.specs.Inner.Memo.{filled, filled_row}
use Rattle.type_store.specs.Inner.Places.{how_many}
use Rattle.type_store.specs.Inner.View.{shape_of}
use Rattle.type_store.specs.Shape.{Parts}
use Rattle.type_store.specs.Trees.{row_at, tree_at}
use Rattle.type_store.proofs.FillSteps.{filled-still, filled-var_same, filled-var_above, filled-under, put-apply}
use Rattle.type_store.proofs.HintSteps.{how_many-parts}
use Rattle.type_store.proofs.LowerSteps.{filled-lowers, lowered-raised, raised-misses}
use Rattle.type_store.proofs.ShiftSteps.{shift-var_below, shift-var_above, shift-under}
use Rattle.type_store.proofs.TreeLaws.{part-below}

-- ---- rows of two lengths differ

many-renamed : (r : ℕ → ℕ) (row : Row) → how_many (rename_row r row) ≡ how_many row
many-renamed r Row.End = refl
many-renamed r (Row.More l t row) = ap suc (many-renamed r row)

many-put : (k : Kind) (A : Args k) (i : ℕ) (a : Ty) (row : Row) → how_many (put_in_row k A i a row) ≡ how_many row
many-put k A i a Row.End = refl
many-put k A i a (Row.More l t row) = ap suc (many-put k A i a row)

-- where the shifted fields of one list of parts are those of another, both lists have as many parts
pub shifted-long : (by from : ℕ) (ts : List Ty) (parts wholes : Parts) → rename_row (bump by from) (row_at ts parts) ≡ row_at ts wholes
    → length parts ≡ length wholes
shifted-long by from ts parts wholes e =
    sym (how_many-parts ts parts) ∙ (sym (many-renamed (bump by from) (row_at ts parts)) ∙ (ap how_many e ∙ how_many-parts ts wholes))

-- where the fields of one list of parts, with a type put in, are those of another, both lists have as many parts
pub filled-long : (index : ℕ) (a : Ty) (ts : List Ty) (parts wholes : Parts) → filled_row index a (row_at ts parts) ≡ row_at ts wholes
    → length parts ≡ length wholes
filled-long index a ts parts wholes e =
    sym (how_many-parts ts parts) ∙ (sym (many-put Kind.Star (args Kind.Star) index (shift index 0 a) (row_at ts parts)) ∙
    (ap how_many e ∙ how_many-parts ts wholes))

-- ---- below a binder

module _ (binder : Kind → Ty → Ty) (inner : (j k : Kind) (s t : Ty) → binder j s ≡ binder k t → s ≡ t) (change below : Ty → Ty)
    (goes : (k : Kind) (b : Ty) → change (binder k b) ≡ binder k (below b)) where
  pub under-test : (b : Truth) (j k : Kind) (s t whole full : Ty) → binder j s ≡ whole → binder k t ≡ full → j ≡ k → (IsTrue b ↔ below s ≡ t)
      → (IsTrue b ↔ change whole ≡ full)
  under-test b j k s t whole full e f same h = (
    λ p. ap change (sym e) ∙ (goes j s ∙ (ap₂ binder same (h.0 p) ∙ f)),
    λ g. h.1 (inner j k (below s) t (sym (goes j s) ∙ (ap change e ∙ (g ∙ sym f)))),
  )

all-inner : (j k : Kind) (s t : Ty) → Ty.All j s ≡ Ty.All k t → s ≡ t
all-inner j k s t e = cc

ex-inner : (j k : Kind) (s t : Ty) → Ty.Ex j s ≡ Ty.Ex k t → s ≡ t
ex-inner j k s t e = cc

lam-inner : (j k : Kind) (s t : Ty) → Ty.Lam j s ≡ Ty.Lam k t → s ≡ t
lam-inner j k s t e = cc

mu-inner : (j k : Kind) (s t : Ty) → Ty.Mu s ≡ Ty.Mu t → s ≡ t
mu-inner j k s t e = cc

-- a universal type is the shift of another one of the same kind if and only if its body is that of the other body
pub shifted-all : (by from : ℕ) (b : Truth) (j k : Kind) (s t whole full : Ty) → Ty.All j s ≡ whole → Ty.All k t ≡ full → j ≡ k
    → (IsTrue b ↔ shift by (from + 1) s ≡ t) → (IsTrue b ↔ shift by from whole ≡ full)
shifted-all by from = under-test Ty.All all-inner (shift by from) (shift by (from + 1)) (λ k b. ap (Ty.All k) (shift-under by from b))

-- an existential type is the shift of another one of the same kind if and only if its body is that of the other body
pub shifted-ex : (by from : ℕ) (b : Truth) (j k : Kind) (s t whole full : Ty) → Ty.Ex j s ≡ whole → Ty.Ex k t ≡ full → j ≡ k
    → (IsTrue b ↔ shift by (from + 1) s ≡ t) → (IsTrue b ↔ shift by from whole ≡ full)
shifted-ex by from = under-test Ty.Ex ex-inner (shift by from) (shift by (from + 1)) (λ k b. ap (Ty.Ex k) (shift-under by from b))

-- a type operator is the shift of another one of the same kind if and only if its body is that of the other body
pub shifted-lam : (by from : ℕ) (b : Truth) (j k : Kind) (s t whole full : Ty) → Ty.Lam j s ≡ whole → Ty.Lam k t ≡ full → j ≡ k
    → (IsTrue b ↔ shift by (from + 1) s ≡ t) → (IsTrue b ↔ shift by from whole ≡ full)
shifted-lam by from = under-test Ty.Lam lam-inner (shift by from) (shift by (from + 1)) (λ k b. ap (Ty.Lam k) (shift-under by from b))

-- a recursive type is the shift of another one if and only if its body is that of the other body
pub shifted-mu : (by from : ℕ) (b : Truth) (s t whole full : Ty) → Ty.Mu s ≡ whole → Ty.Mu t ≡ full → (IsTrue b ↔ shift by (from + 1) s ≡ t)
    → (IsTrue b ↔ shift by from whole ≡ full)
shifted-mu by from b s t whole full e f h =
    under-test (λ k t. Ty.Mu t) mu-inner (shift by from) (shift by (from + 1))
    (λ k b. ap Ty.Mu (shift-under by from b)) b Kind.Star Kind.Star s t whole full e f refl h

-- putting a type into a universal type gives another one of the same kind if and only if its body gives the other body
pub filled-all : (index : ℕ) (a : Ty) (b : Truth) (j k : Kind) (s t whole full : Ty) → Ty.All j s ≡ whole → Ty.All k t ≡ full → j ≡ k
    → (IsTrue b ↔ filled (index + 1) a s ≡ t) → (IsTrue b ↔ filled index a whole ≡ full)
filled-all index a = under-test Ty.All all-inner (filled index a) (filled (index + 1) a) (λ k b. ap (Ty.All k) (filled-under index a b))

-- putting a type into an existential type gives another one of the same kind if and only if its body gives the other body
pub filled-ex : (index : ℕ) (a : Ty) (b : Truth) (j k : Kind) (s t whole full : Ty) → Ty.Ex j s ≡ whole → Ty.Ex k t ≡ full → j ≡ k
    → (IsTrue b ↔ filled (index + 1) a s ≡ t) → (IsTrue b ↔ filled index a whole ≡ full)
filled-ex index a = under-test Ty.Ex ex-inner (filled index a) (filled (index + 1) a) (λ k b. ap (Ty.Ex k) (filled-under index a b))

-- putting a type into a type operator gives another one of the same kind if and only if its body gives the other body
pub filled-lam : (index : ℕ) (a : Ty) (b : Truth) (j k : Kind) (s t whole full : Ty) → Ty.Lam j s ≡ whole → Ty.Lam k t ≡ full → j ≡ k
    → (IsTrue b ↔ filled (index + 1) a s ≡ t) → (IsTrue b ↔ filled index a whole ≡ full)
filled-lam index a = under-test Ty.Lam lam-inner (filled index a) (filled (index + 1) a) (λ k b. ap (Ty.Lam k) (filled-under index a b))

-- putting a type into a recursive type gives another one if and only if its body gives the other body
pub filled-mu : (index : ℕ) (a : Ty) (b : Truth) (s t whole full : Ty) → Ty.Mu s ≡ whole → Ty.Mu t ≡ full → (IsTrue b ↔ filled (index + 1) a s ≡ t)
    → (IsTrue b ↔ filled index a whole ≡ full)
filled-mu index a b s t whole full e f h =
    under-test (λ k t. Ty.Mu t) mu-inner (filled index a) (filled (index + 1) a)
    (λ k b. ap Ty.Mu (filled-under index a b)) b Kind.Star Kind.Star s t whole full e f refl h

-- ---- applications

sides : {s t u v : Ty} → Ty.Apply s t ≡ Ty.Apply u v → (s ≡ u) × (t ≡ v)
sides e = (cc, cc)

-- a type is put into an application by putting it into the operator and into the argument
pub at-apply : (index : ℕ) (a f t whole : Ty) → Ty.Apply f t ≡ whole → filled index a whole ≡ Ty.Apply (filled index a f) (filled index a t)
at-apply index a f t whole e = ap (filled index a) (sym e) ∙ put-apply (args Kind.Star) index (shift index 0 a) f t

-- where the operators agree, the arguments decide
pub filled-apply : (index : ℕ) (a : Ty) (b : Truth) (f t g u whole full : Ty) → Ty.Apply f t ≡ whole → Ty.Apply g u ≡ full → filled index a f ≡ g
    → (IsTrue b ↔ filled index a t ≡ u) → (IsTrue b ↔ filled index a whole ≡ full)
filled-apply index a b f t g u whole full e i same h = (
  λ p. at-apply index a f t whole e ∙ (ap₂ Ty.Apply same (h.0 p) ∙ i),
  λ q. h.1 (sides (sym (at-apply index a f t whole e) ∙ (q ∙ sym i))).1,
)

-- putting a type into an application does not give one whose operator is not what the operator gives
pub filled-apart : (index : ℕ) (a : Ty) (b : Truth) (f t g u whole full : Ty) → Ty.Apply f t ≡ whole → Ty.Apply g u ≡ full → b ≡ false
    → (IsTrue b ↔ filled index a f ≡ g) → (IsTrue b ↔ filled index a whole ≡ full)
filled-apart index a b f t g u whole full e i fails h = (λ p. cc, λ q. h.1 (sides (sym (at-apply index a f t whole e) ∙ (q ∙ sym i))).0)

-- only an application is made of an application
pub no-apply : (ts : List Ty) (f : Form) (s t : Ty) → tree_at ts (shape_of f) ≡ Ty.Apply s t → ((g a : ℕ) → f ≡ form.Apply g a → ⊥) → ⊥
no-apply ts (form.Var i) s t e h = absurd (cc)
no-apply ts form.Int s t e h = absurd (cc)
no-apply ts form.Bool s t e h = absurd (cc)
no-apply ts form.Text s t e h = absurd (cc)
no-apply ts (form.Arrow a b) s t e h = absurd (cc)
no-apply ts (form.Fields parts) s t e h = absurd (cc)
no-apply ts (form.Sum parts) s t e h = absurd (cc)
no-apply ts (form.All k b) s t e h = absurd (cc)
no-apply ts (form.Ex k b) s t e h = absurd (cc)
no-apply ts (form.Mu b) s t e h = absurd (cc)
no-apply ts (form.Lam k b) s t e h = absurd (cc)
no-apply ts (form.Apply g a) s t e h = h g a refl

-- ---- a raised type

-- what comes in for the variable that a raised type does not mention changes nothing
pub filled-raised : (index : ℕ) (a t whole : Ty) → index ≡ 0 → whole ≡ shift 1 0 t → filled index a whole ≡ t
filled-raised index a t whole z e =
    (λ i. filled (z i) a (e i)) ∙ (filled-lowers a (shift 1 0 t) (raised-misses t) ∙ lowered-raised t)

pub ruleset filled_steps = (filled-still, filled-var_same, filled-var_above, part-below)

pub ruleset shifted_steps = (shift-zero, shift-still, shift-unchanged, shift-var_below, shift-var_above, part-below)
