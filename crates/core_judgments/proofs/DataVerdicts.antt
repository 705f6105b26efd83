-- Each rule of recursive types has exactly one conclusion or exactly one refusal.
-- Main results: one_mu, one_roll, one_unroll.
use Rattle.std.specs.Prelude.{List, ◌≡◌, ◌≢◌, ◌⊎◌}
use Rattle.std.proofs.Common.{inl, inr}
use Rattle.std.proofs.Math.Path.{refl, sym, subst, ap, ◌∙◌}
use Rattle.omega_kinds.specs.Kind.{Kind, Kind-discrete}
use Rattle.omega_types.specs.Ty.{Ty}
use Rattle.omega_types.specs.Kinding.{HasKind}
use Rattle.omega_types.specs.Substitution.{instantiate, single}
use Rattle.omega_types.proofs.Hereditary.{each_has_one}
use Rattle.omega_types.proofs.Inverse.{mu-kinds}
use Rattle.omega_types.proofs.Preservation.{kind-substitute, single-substitutes}
use Rattle.omega_terms.specs.Term.{Term}
use Rattle.sig_definitions.specs.Verdict.{Verdict, holds, refuses, One}
use Rattle.sig_laws.specs.Decide.{dec_ty}
use Rattle.sig_laws.proofs.Formed.Forms.{pair-same}
use Rattle.core_judgments.proofs.Equal.{equal}
use Rattle.core_judgments.specs.DataRules.{DataWhy, IsNoMu, Unfolds, MuGives, MuRefuses, RollGives, RollRefuses, UnrollGives, UnrollRefuses}
use Rattle.core_judgments.specs.DataRules.DataWhy.{NotData, Differ, KindDiffer}
use Rattle.core_judgments.specs.OneOutcome.{OneMu, OneRoll, OneUnroll}

mu-or-not : (f : Ty) → ((body : Ty) × (f ≡ Ty.Mu body)) ⊎ IsNoMu f
mu-or-not (Ty.Mu b) = inl (b, refl)
mu-or-not _ = inr tt

-- a recursive type unfolds to one type
unfolds : (ctx : List Kind) (b : Ty) → HasKind ctx (Ty.Mu b) Kind.Star → One (Unfolds ctx b)
unfolds ctx b h = each_has_one ctx (instantiate b (Ty.Mu b)) Kind.Star (kind-substitute (single (Ty.Mu b)) (single-substitutes h) (mu-kinds h))

mu-only : {t : Ty} (o : Ty × Kind) → MuGives t Kind.Star o.0 o.1 → o ≡ (Ty.Mu t, Kind.Star)
mu-only _ MuGives.mu = refl

mu-kind : {t u : Ty} {k j : Kind} → MuGives t k u j → k ≡ Kind.Star
mu-kind MuGives.mu = refl

mu-refused : {t : Ty} {k : Kind} {why : DataWhy} → MuRefuses t k why → (k ≢ Kind.Star) × (why ≡ KindDiffer k Kind.Star)
mu-refused (MuRefuses.body_kind n) = (n, refl)

-- the rule of recursive types has exactly one conclusion or one refusal
pub one_mu : OneMu
one_mu t k =
    equal (λ k (o : Ty × Kind). MuGives t k o.0 o.1) (MuRefuses t) (KindDiffer k Kind.Star) (Kind-discrete k Kind.Star) (λ i. holds (Ty.Mu t, Kind.Star) MuGives.mu mu-only (λ r q. (mu-refused q).0 refl))
    MuRefuses.body_kind (λ n r q. (mu-refused q).1) (λ o g. mu-kind g)

-- rolled values

module _ {ctx : List Kind} where
  roll-view : {v b : Ty} {e : Term} {k : Kind} (o : Ty × Term) → RollGives ctx v e (Ty.Mu b) k o.0 o.1 → Unfolds ctx b v × (o ≡ (Ty.Mu b, Term.Roll e (Ty.Mu b)))
  roll-view _ (RollGives.roll n) = (n, refl)

  roll-kind : {v t u : Ty} {e d : Term} {k : Kind} → RollGives ctx v e t k u d → k ≡ Kind.Star
  roll-kind (RollGives.roll n) = refl

  roll-mu : {v t u : Ty} {e d : Term} {k : Kind} → RollGives ctx v e t k u d → IsNoMu t → ⊥
  roll-mu (RollGives.roll n) m = m

  roll-other_kind : {v t : Ty} {k : Kind} {why : DataWhy} → k ≢ Kind.Star → RollRefuses ctx v t k why → why ≡ KindDiffer k Kind.Star
  roll-other_kind n (RollRefuses.target_kind m) = refl
  roll-other_kind n (RollRefuses.no_data m) = absurd (n refl)
  roll-other_kind n (RollRefuses.value_type u m) = absurd (n refl)

  roll-no_data : {v t : Ty} {why : DataWhy} → IsNoMu t → RollRefuses ctx v t Kind.Star why → why ≡ NotData t
  roll-no_data n (RollRefuses.target_kind m) = absurd (m refl)
  roll-no_data n (RollRefuses.no_data m) = refl
  roll-no_data n (RollRefuses.value_type u m) = absurd n

  roll-refused : {v b : Ty} {why : DataWhy} → RollRefuses ctx v (Ty.Mu b) Kind.Star why → (u : Ty) × Unfolds ctx b u × (v ≢ u) × (why ≡ Differ v u)
  roll-refused (RollRefuses.target_kind m) = absurd (m refl)
  roll-refused (RollRefuses.no_data m) = absurd m
  roll-refused (RollRefuses.value_type {u = u} n m) = (u, n, m, refl)

-- the rule of rolled values has exactly one conclusion or one refusal
pub one_roll : OneRoll
one_roll ctx v e t k h =
    equal (λ k (o : Ty × Term). RollGives ctx v e t k o.0 o.1) (RollRefuses ctx v t) (KindDiffer k Kind.Star) (Kind-discrete k Kind.Star) (λ i. go (mu-or-not t) (subst (HasKind ctx t) i h))
    RollRefuses.target_kind (λ n q r. roll-other_kind n r) (λ o g. roll-kind g)
  where
    at : (b : Ty) → One (Unfolds ctx b) → Verdict (λ (o : Ty × Term). RollGives ctx v e (Ty.Mu b) Kind.Star o.0 o.1) (RollRefuses ctx v (Ty.Mu b) Kind.Star)
    at b (u, n, only) =
        equal (λ v (o : Ty × Term). RollGives ctx v e (Ty.Mu b) Kind.Star o.0 o.1) (λ v. RollRefuses ctx v (Ty.Mu b) Kind.Star) (Differ v u) (dec_ty v u)
        (λ i. holds (Ty.Mu b, Term.Roll e (Ty.Mu b)) (RollGives.roll n) (λ o g. (roll-view o g).1) (λ r q. let w = roll-refused q in w.2 (sym (only w.0 w.1))))
        (λ m. RollRefuses.value_type n m) (λ m q r. let w = roll-refused r in w.3 ∙ ap (Differ v) (only w.0 w.1)) (λ o g. only v (roll-view o g).0)

    go : ((b : Ty) × (t ≡ Ty.Mu b)) ⊎ IsNoMu t → HasKind ctx t Kind.Star → Verdict (λ (o : Ty × Term). RollGives ctx v e t Kind.Star o.0 o.1) (RollRefuses ctx v t Kind.Star)
    go (inl p) g = subst (λ t. Verdict (λ (o : Ty × Term). RollGives ctx v e t Kind.Star o.0 o.1) (RollRefuses ctx v t Kind.Star)) (sym p.1) (at p.0 (unfolds ctx p.0 (subst (λ t. HasKind ctx t Kind.Star) p.1 g)))
    go (inr n) g = refuses (NotData t) (RollRefuses.no_data n) (λ q r. roll-no_data n r) (λ o g. roll-mu g n)

-- unrolled values

unroll-view : {ctx : List Kind} {b : Ty} {e : Term} (o : Ty × Term) → UnrollGives ctx (Ty.Mu b) e o.0 o.1 → Unfolds ctx b o.0 × (o.1 ≡ Term.Unroll e)
unroll-view _ (UnrollGives.unroll n) = (n, refl)

unroll-mu : {ctx : List Kind} {t u : Ty} {e d : Term} → UnrollGives ctx t e u d → IsNoMu t → ⊥
unroll-mu (UnrollGives.unroll n) m = m

unroll-refused : {t : Ty} {why : DataWhy} → UnrollRefuses t why → IsNoMu t × (why ≡ NotData t)
unroll-refused (UnrollRefuses.no_data n) = (n, refl)

-- the rule of unrolled values has exactly one conclusion or one refusal
pub one_unroll : OneUnroll
one_unroll ctx t e h = go (mu-or-not t)
  where
    at : (b : Ty) → One (Unfolds ctx b) → Verdict (λ (o : Ty × Term). UnrollGives ctx (Ty.Mu b) e o.0 o.1) (UnrollRefuses (Ty.Mu b))
    at b (u, n, only) = holds (u, Term.Unroll e) (UnrollGives.unroll n) (λ o g. let w = unroll-view o g in pair-same o (only o.0 w.0) w.1) (λ r q. (unroll-refused q).0)

    go : ((b : Ty) × (t ≡ Ty.Mu b)) ⊎ IsNoMu t → Verdict (λ (o : Ty × Term). UnrollGives ctx t e o.0 o.1) (UnrollRefuses t)
    go (inl p) = subst (λ t. Verdict (λ (o : Ty × Term). UnrollGives ctx t e o.0 o.1) (UnrollRefuses t)) (sym p.1) (at p.0 (unfolds ctx p.0 (subst (λ t. HasKind ctx t Kind.Star) p.1 h)))
    go (inr n) = refuses (NotData t) (UnrollRefuses.no_data n) (λ q r. (unroll-refused r).1) (λ o g. unroll-mu g n)
