-- From the conditions of a rule to its conclusion, and from one that fails to the refusal.
-- Main results: mu-given, roll-given, unroll-given.
use Rattle.std.proofs.Common.{◌≡◌, ◌≢◌, List, ◌∷◌, zero, Option, Some, None, Result, IfErr, IfSome, IsErrAnd, refl, sym, ap, ◌∙◌, subst}
use Rattle.std.proofs.lemmas.Result.{err_from_is_err_and}
use Rattle.omega_kinds.specs.Kind.{Kind}
use Rattle.omega_types.specs.Ty.{Ty}
use Rattle.omega_types.specs.Inner.View.{ty_of}
use Rattle.omega_types.specs.declared.tree.Ty.{Ty as TyHandle}
use Rattle.omega_types.specs.declared.tree.TyNode.{TyNode}
use Rattle.omega_types.specs.declared.tree.TyNode.TheVariants as node
use Rattle.omega_types.specs.Index.{i_here}
use Rattle.omega_types.specs.Normality.{Normal}
use Rattle.omega_types.specs.Normalises.{NormalForm}
use Rattle.omega_types.specs.Normaliser.{hsubst}
use Rattle.omega_types.proofs.Hereditary.{hsubst-gives}
use Rattle.omega_types.proofs.Single.{substitute_at-zero}
use Rattle.omega_terms.specs.Term.{Term}
use Rattle.omega_terms.proofs.NormalTyping.{normal-mu}
use Rattle.core_judgments.specs.DataRules.{DataWhy, IsNoMu, Unfolds, MuGives, MuRefuses, RollGives, RollRefuses, UnrollGives, UnrollRefuses}
use Rattle.core_judgments.specs.DataRules.DataWhy.{NotData, Differ, KindDiffer}
use Rattle.data_types.specs.declared.refusal.DataRefusal.{DataRefusal}
use Rattle.data_types.specs.Inner.Plain.{plain_why, unfolded}

some-weaker : (o : Option DataWhy) (P Q : DataWhy → Type 0) → ((w : DataWhy) → P w → Q w) → IfSome o P → IfSome o Q
some-weaker None P Q f h = tt
some-weaker (Some w) P Q f h = f w h

-- the exit at a condition that fails
pub passed : {T : Type 0} (P Q : DataWhy → Type 0) → ((w : DataWhy) → P w → Q w) → (r : Result T DataRefusal) (e : DataRefusal) → IsErrAnd r (λ y. y ≡ e) → IfSome (plain_why e) P → IfErr r (λ y. IfSome (plain_why y) Q)
passed {T} P Q f r e out h =
    let p = err_from_is_err_and r out in
    let R : Result T DataRefusal → Type 0 = λ s. IfErr s (λ y. IfSome (plain_why y) Q) in
    subst R (sym p.1) (subst (λ y. IfSome (plain_why y) Q) (sym p.2) (some-weaker (plain_why e) P Q f h))

-- a type whose outermost form is another
mu-node : (n : TyNode) → ((b : TyHandle) → n ≡ node.Mu b → ⊥) → IsNoMu (ty_of n)
mu-node (node.Var i) h = tt
mu-node node.Int h = tt
mu-node node.Bool h = tt
mu-node node.Text h = tt
mu-node (node.Arrow a b) h = tt
mu-node (node.Fields f) h = tt
mu-node (node.Sum f) h = tt
mu-node (node.All k b) h = tt
mu-node (node.Ex k b) h = tt
mu-node (node.Mu b) h = absurd (h b refl)
mu-node (node.Lam k b) h = tt
mu-node (node.Apply a b) h = tt

-- a type whose outermost form is another is no recursive type
pub no-mu : (n : TyNode) (s t : Ty) → ty_of n ≡ s → s ≡ t → ((b : TyHandle) → n ≡ node.Mu b → ⊥) → IsNoMu t
no-mu n s t p q h = subst IsNoMu (p ∙ q) (mu-node n h)

-- the code's substitution gives what a recursive type unfolds to
pub mu-unfolds : (t u v b : Ty) → t ≡ Ty.Mu b → v ≡ b → u ≡ hsubst Kind.Star zero t v → u ≡ unfolded b
mu-unfolds t u v b q iv iu = iu ∙ (ap (λ w. hsubst Kind.Star zero w v) q ∙ ap (hsubst Kind.Star zero (Ty.Mu b)) iv)

-- what a normal recursive type unfolds to
unfolds : {ctx : List Kind} {b : Ty} → Normal ctx (Ty.Mu b) Kind.Star → Unfolds ctx b (unfolded b)
unfolds {ctx} {b} n =
    subst (λ s. NormalForm ctx s Kind.Star (unfolded b)) (substitute_at-zero (Ty.Mu b) b) (hsubst-gives ctx (Kind.Star ∷ ctx) zero (Ty.Mu b) b Kind.Star Kind.Star i_here n (normal-mu n))

at-mu : {ctx : List Kind} {t b : Ty} {k : Kind} → k ≡ Kind.Star → t ≡ Ty.Mu b → Normal ctx t k → Normal ctx (Ty.Mu b) Kind.Star
at-mu {ctx} {t} e q n = subst (λ s. Normal ctx s Kind.Star) q (subst (Normal ctx t) e n)

-- the rules

-- a body of kind * gives the recursive type
pub mu-given : (t u : Ty) (k j : Kind) → k ≡ Kind.Star → u ≡ Ty.Mu t → j ≡ Kind.Star → MuGives t k u j
mu-given t u k j e iu ij = rw (e, iu, ij) MuGives.mu

-- a body of another kind is refused
pub mu-refused : (t : Ty) (k : Kind) (why : DataWhy) → (k ≢ Kind.Star) × (why ≡ KindDiffer k Kind.Star) → MuRefuses t k why
mu-refused t k why h = rw (h.1) (MuRefuses.body_kind h.0)

-- a rolled value whose type is of another kind than * is refused
pub roll-kind : (ctx : List Kind) (v t : Ty) (k : Kind) (why : DataWhy) → (k ≢ Kind.Star) × (why ≡ KindDiffer k Kind.Star) → RollRefuses ctx v t k why
roll-kind ctx v t k why h = rw (h.1) (RollRefuses.target_kind h.0)

-- a value of the unfolded type gives the rolled value
pub roll-given : (ctx : List Kind) (v t u w b : Ty) (k : Kind) (d x : Term) → k ≡ Kind.Star → t ≡ Ty.Mu b → u ≡ unfolded b → v ≡ u → w ≡ t → x ≡ Term.Roll d t → Normal ctx t k → RollGives ctx v d t k w x
roll-given ctx v t u w b k d x e q iu iv iw ix n = rw (e, iw, ix, q, iv ∙ iu) (RollGives.roll (unfolds (at-mu e q n)))

-- a rolled value whose type is no recursive one is refused
pub roll-no_data : (ctx : List Kind) (v t : Ty) (k : Kind) (why : DataWhy) → k ≡ Kind.Star → IsNoMu t × (why ≡ NotData t) → RollRefuses ctx v t k why
roll-no_data ctx v t k why e h = rw (e, h.1) (RollRefuses.no_data h.0)

-- a value of another type than the unfolded one is refused
pub roll-differs : (ctx : List Kind) (v t u b : Ty) (k : Kind) (why : DataWhy) → k ≡ Kind.Star → t ≡ Ty.Mu b → u ≡ unfolded b → (v ≢ u) × (why ≡ Differ v u) → Normal ctx t k → RollRefuses ctx v t k why
roll-differs ctx v t u b k why e q iu h n = rw (e, h.1, q, iu) (RollRefuses.value_type (unfolds (at-mu e q n)) (λ p. h.0 (p ∙ sym iu)))

-- a value of a recursive type gives the unrolled value of the unfolded type
pub unroll-given : (ctx : List Kind) (t u b : Ty) (d x : Term) → t ≡ Ty.Mu b → u ≡ unfolded b → x ≡ Term.Unroll d → Normal ctx t Kind.Star → UnrollGives ctx t d u x
unroll-given ctx t u b d x q iu ix n = rw (q, iu, ix) (UnrollGives.unroll (unfolds (at-mu refl q n)))

-- an unrolled value of another type is refused
pub unroll-no_data : (t : Ty) (why : DataWhy) → IsNoMu t × (why ≡ NotData t) → UnrollRefuses t why
unroll-no_data t why h = rw (h.1) (UnrollRefuses.no_data h.0)
