-- From the steps of a rule to exactly one answer.
-- Main results: runs-sound, perhaps-some.
use Rattle.std.specs.Prelude.{◌≡◌, ◌⊎◌}
use Rattle.std.proofs.Common.{inl, inr}
use Rattle.std.proofs.Math.Path.{refl, sym, subst}
use Rattle.sig_definitions.specs.Env.{Env}
use Rattle.refusal_reasons.specs.Refusal.{Refusal}
use Rattle.sig_definitions.specs.Verdict.{Verdict, holds, refuses, One, Perhaps, one, none}
use Rattle.elab_judgments.specs.Refusals.Task.{Task, Result, Means}
use Rattle.elab_judgments.specs.Refusals.Rule.{Rule, Runs, Fails, Enters}
use Rattle.elab_judgments.specs.Refusals.Steps.{steps}
use Rattle.elab_judgments.specs.Refusals.Refused.{Refused}

-- a refusal of the rule, at whichever step
abbrev pub Stops : {A : Type 0} → Rule A → Refusal → Type 0
Stops (Rule.gives x) r = ⊥
Stops (Rule.need g a go) r = Refused g a r ⊎ ((o : Result a) × Means g a o × Stops (go o) r)
Stops (Rule.ask {B} P Q go) r = Q r ⊎ ((b : B) × P b × Stops (go b) r)

fails-stops : {A : Type 0} (R : Rule A) (r : Refusal) → Fails R r → Stops R r
fails-stops (Rule.gives x) r f = f
fails-stops (Rule.need g a go) r f = inr (f.0, f.1, fails-stops (go f.0) r f.2)
fails-stops (Rule.ask P Q go) r (inl q) = inl q
fails-stops (Rule.ask P Q go) r (inr f) = inr (f.0, f.1, fails-stops (go f.0) r f.2)

moved : {g h : Env} {a b : Task} {r : Refusal} → g ≡ h → a ≡ b → Refused h b r → Refused g a r
moved {g} {h} {a} {b} {r} e f d = subst (λ g. Refused g a r) (sym e) (subst (λ a. Refused h a r) (sym f) d)

enters-stops : {A : Type 0} (R : Rule A) {h : Env} {b : Task} {r : Refusal} → Enters R h b → Refused h b r → Stops R r
enters-stops (Rule.gives x) e d = e
enters-stops (Rule.need g a go) (inl e) d = inl (moved e.0 e.1 d)
enters-stops (Rule.need g a go) (inr e) d = inr (e.0, e.1, enters-stops (go e.0) e.2 d)
enters-stops (Rule.ask P Q go) e d = inr (e.0, e.1, enters-stops (go e.0) e.2 d)

pub refused-stops : {g : Env} {a : Task} {r : Refusal} → Refused g a r → Stops (steps g a) r
refused-stops {g} {a} {r} (Refused.here f) = fails-stops (steps g a) r f
refused-stops {g} {a} (Refused.inside e d) = enters-stops (steps g a) e d

-- a refusal of the rule is at a condition or inside a premise
AtStep : {A : Type 0} → Rule A → Refusal → Type 0
AtStep R r = Fails R r ⊎ ((h : Env) × (b : Task) × Enters R h b × Refused h b r)

at-step : {A : Type 0} (R : Rule A) (r : Refusal) → Stops R r → AtStep R r
unfolding AtStep
at-step (Rule.gives x) r s = inl s
at-step (Rule.need g a go) r (inl d) = inr (g, a, inl (refl, refl), d)
at-step (Rule.need g a go) r (inr s) = later (at-step (go s.0) r s.2)
  where
    later : AtStep (go s.0) r → AtStep (Rule.need g a go) r
    later (inl f) = inl (s.0, s.1, f)
    later (inr e) = inr (e.0, e.1, inr (s.0, s.1, e.2), e.3)
at-step (Rule.ask P Q go) r (inl q) = inl (inl q)
at-step (Rule.ask P Q go) r (inr s) = later (at-step (go s.0) r s.2)
  where
    later : AtStep (go s.0) r → AtStep (Rule.ask P Q go) r
    later (inl f) = inl (inr (s.0, s.1, f))
    later (inr e) = inr (e.0, e.1, (s.0, s.1, e.2), e.3)

pub stops-refused : {g : Env} {a : Task} {r : Refusal} → Stops (steps g a) r → Refused g a r
unfolding AtStep
stops-refused {g} {a} {r} s = go (at-step (steps g a) r s)
  where
    go : AtStep (steps g a) r → Refused g a r
    go (inl f) = Refused.here f
    go (inr e) = Refused.inside e.2 e.3

-- ---- two steps, one after the other

pub bind : {A B R : Type 0} {P : B → Type 0} {Q : R → Type 0} {S : B → A → Type 0} {T : B → R → Type 0}
    → Verdict P Q
    → ((b : B) → P b → Verdict (S b) (T b))
    → Verdict (λ (y : A). (b : B) × P b × S b y) (λ r. Q r ⊎ ((b : B) × P b × T b r))
bind {A} {B} {R} {P} {Q} {S} {T} (holds b p only never) f = go (f b p)
  where
    go : Verdict (S b) (T b) → Verdict (λ (y : A). (b : B) × P b × S b y) (λ r. Q r ⊎ ((b : B) × P b × T b r))
    go (holds y s s_only s_no) = holds y (b, p, s) (λ z q. s_only z (subst (λ b. S b z) (only q.0 q.1) q.2)) none_left
      where
        none_left : (r : R) → Q r ⊎ ((b : B) × P b × T b r) → ⊥
        none_left r (inl q) = never r q
        none_left r (inr q) = s_no r (subst (λ b. T b r) (only q.0 q.1) q.2)
    go (refuses r t t_only t_no) = refuses r (inr (b, p, t)) same (λ z q. t_no z (subst (λ b. S b z) (only q.0 q.1) q.2))
      where
        same : (q : R) → Q q ⊎ ((b : B) × P b × T b q) → q ≡ r
        same q (inl u) = absurd (never q u)
        same q (inr u) = t_only q (subst (λ b. T b q) (only u.0 u.1) u.2)
bind {A} {B} {R} {P} {Q} {S} {T} (refuses r q only never) f = refuses r (inl q) same (λ z u. never u.0 u.1)
  where
    same : (s : R) → Q s ⊎ ((b : B) × P b × T b s) → s ≡ r
    same s (inl u) = only s u
    same s (inr u) = absurd (never u.0 u.1)

-- each premise and each condition has exactly one answer
abbrev pub Ready : {A : Type 0} → Rule A → Type 0
Ready (Rule.gives x) = Unit {0}
Ready (Rule.need g a go) = Verdict (Means g a) (Refused g a) × ((o : Result a) → Means g a o → Ready (go o))
Ready (Rule.ask {B} P Q go) = Verdict P Q × ((b : B) → P b → Ready (go b))

pub answers : {A : Type 0} (R : Rule A) → Ready R → Verdict (Runs R) (Stops R)
answers (Rule.gives x) t = holds x refl (λ y e. sym e) (λ r f. f)
answers (Rule.need g a go) t = bind t.0 (λ o h. answers (go o) (t.1 o h))
answers (Rule.ask P Q go) t = bind t.0 (λ b p. answers (go b) (t.1 b p))

pub carried : {A R : Type 0} {P S : A → Type 0} {Q T : R → Type 0} → ((x : A) → P x → S x) → ((x : A) → S x → P x) → ((r : R) → Q r → T r) → ((r : R) → T r → Q r) → Verdict P Q → Verdict S T
carried a b c d (holds x p only never) = holds x (a x p) (λ y s. only y (b y s)) (λ r t. never r (d r t))
carried a b c d (refuses r q only never) = refuses r (c r q) (λ s t. only s (d s t)) (λ x s. never x (b x s))

-- what holds of all that a rule gives
abbrev pub Sound : {A : Type 0} → Rule A → (A → Type 0) → Type 0
Sound (Rule.gives x) P = P x
Sound (Rule.need g a go) P = (o : Result a) → Means g a o → Sound (go o) P
Sound (Rule.ask {B} Q T go) P = (b : B) → Q b → Sound (go b) P

-- what holds of all that a rule gives holds of what it gives at the end of a run
pub runs-sound : {A : Type 0} (R : Rule A) (P : A → Type 0) → Sound R P → (y : A) → Runs R y → P y
runs-sound (Rule.gives x) P s y e = subst P e s
runs-sound (Rule.need g a go) P s y r = runs-sound (go r.0) P (s r.0 r.1) y r.2
runs-sound (Rule.ask Q T go) P s y r = runs-sound (go r.0) P (s r.0 r.1) y r.2

-- a task whose judgment is what its rule gives, and whose steps are ready, has exactly one answer
pub answer : (g : Env) (a : Task) → ((o : Result a) → Means g a o → Runs (steps g a) o) → Sound (steps g a) (Means g a) → Ready (steps g a) → Verdict (Means g a) (Refused g a)
answer g a c s t = carried (runs-sound (steps g a) (Means g a) s) c (λ r. stops-refused) (λ r. refused-stops) (answers (steps g a) t)

-- ---- single steps

-- a condition that one value at most meets has exactly one outcome, the value or the one refusal
pub perhaps-some : {B : Type 0} {P : B → Type 0} (r : Refusal) → Perhaps P → Verdict P (λ q. ((b : B) → P b → ⊥) × (q ≡ r))
perhaps-some r (one b p only) = holds b p only (λ q h. h.0 b p)
perhaps-some r (none n) = refuses r (n, refl) (λ q h. h.1) n

-- a condition that is decided has exactly one outcome: it holds, or the one refusal
pub dec-test : {P : Type 0} (r : Refusal) → Dec P → Verdict {A = Unit {0}} (λ u. P) (λ q. (P → ⊥) × (q ≡ r))
dec-test r (yes p) = holds tt p (λ u q. refl) (λ q h. h.0 p)
dec-test r (no n) = refuses r (n, refl) (λ q h. h.1) (λ u p. n p)

-- a condition that exactly one value meets has exactly one outcome, and no refusal
pub one-the : {B : Type 0} {P : B → Type 0} → One P → Verdict {R = Refusal} P (λ q. ⊥)
one-the o = holds o.0 o.1 o.2 (λ q h. h)

-- a rule that stops has exactly one outcome, its refusal
pub stopped : (r : Refusal) → Verdict {A = ⊥} (λ b. Unit {0}) (λ q. q ≡ r)
stopped r = refuses r refl (λ q e. e) (λ b u. b)
