-- What is given along the way: good environments, and answers where the environment is as before.
-- Main results: value-env, fix-env.
use Rattle.std.proofs.Common.{◌≡◌, ◌≢◌, inl, inr, ◌∷◌, Option, Some, None, Result, Ok, Err, IfErr, IfOk, IfSome, IsErrAnd, OnOk, sym, subst}
use Rattle.std.specs.Prelude.{MatchOption}
use Rattle.std.proofs.lemmas.Result.{IfErr-weaker, IfOk-weaker, err_from_is_err_and}
use Rattle.omega_kinds.specs.Kind.{Kind}
use Rattle.omega_kinds.specs.Name.{Name}
use Rattle.omega_types.specs.Ty.{Ty}
use Rattle.omega_types.specs.Normality.Normal.{n_arrow}
use Rattle.sig_definitions.specs.Env.{Env, Value}
use Rattle.sig_laws.specs.Good.{OkEnv}
use Rattle.fing_syntax.specs.Phrase.{Span, TyEx}
use Rattle.fing_syntax.specs.Place.{ty_span}
use Rattle.refusal_reasons.specs.Refusal.{KindDiffer}
use Rattle.elab_judgments.specs.Judgments.Meaning.{TyMeans}
use Rattle.elab_judgments.specs.Refusals.Task.{a_type}
use Rattle.elab_laws.proofs.Kept.{type_ok}
use Rattle.fing_refusals.specs.declared.refusal.Refusal.{Refusal as CodeRefusal}
use Rattle.elab_rules.specs.Inner.Answered.{RefusedAs, ByTest, NoValueType}
use Rattle.elab_rules.proofs.Placing.{says-map}

-- the exit with a refusal
pub exit : {T E : Type 0} (Q : E → Type 0) (r : Result T E) (e : E) → IsErrAnd r (λ y. y ≡ e) → Q e → IfErr r Q
exit Q r e out h = let p = err_from_is_err_and r out in subst (λ s. IfErr s Q) (sym p.1) (subst Q (sym p.2) h)

-- from what a last call answers
pub ok-map : {T E : Type 0} {P Q : T → Type 0} (r : Result T E) → IfOk r P → ((x : T) → P x → Q x) → IfOk r Q
ok-map {P = P} {Q = Q} r h f = IfOk-weaker r P Q f h

-- what holds of an error, if there is one, may be weakened
pub err-map : {T E : Type 0} {P Q : E → Type 0} (r : Result T E) → IfErr r P → ((e : E) → P e → Q e) → IfErr r Q
err-map {P = P} {Q = Q} r h f = IfErr-weaker r P Q f h

-- what holds of what a call gives for each value of a parameter, if it gives something
pub ok-at : {T E A : Type 0} {P : T → Type 0} {Q : T → A → Type 0} (r : Result T E) → IfOk r P → ((x : T) → P x → (a : A) → Q x a) → IfOk r (λ x. (a : A) → Q x a)
ok-at {A = A} {P = P} {Q = Q} r h f = IfOk-weaker r P (λ x. (a : A) → Q x a) f h

-- what holds of an error for each value of a parameter, if there is an error
pub err-at : {T E A : Type 0} {P : E → Type 0} {Q : E → A → Type 0} (r : Result T E) → IfErr r P → ((e : E) → P e → (a : A) → Q e a) → IfErr r (λ e. (a : A) → Q e a)
err-at {A = A} {P = P} {Q = Q} r h f = IfErr-weaker r P (λ e. (a : A) → Q e a) f h

-- what holds anyhow holds where a call gives something
pub stays : {T E P : Type 0} (r : Result T E) → P → OnOk r P
stays (Ok x) h = h
stays (Err e) h = tt

-- a good environment with a value parameter of a derived type is good
pub value-env : {g : Env} {a : TyEx} {t : Ty} (x : Name) → OkEnv g → TyMeans g a t Kind.Star → OkEnv (Value x t ∷ g)
value-env {g} {a} {t} x h m = (type_ok g a t Kind.Star h m, h)

-- a good environment with a recursive function and its parameter is good
pub fix-env : {g : Env} {a b : TyEx} {t u : Ty} (f x : Name) → OkEnv g → TyMeans g a t Kind.Star → TyMeans g b u Kind.Star → OkEnv (Value x t ∷ Value f (Ty.Arrow t u) ∷ g)
fix-env {g} {a} {b} {t} {u} f x h m n = let p = type_ok g a t Kind.Star h m in (p, (n_arrow p (type_ok g b u Kind.Star h n), h))

-- a type phrase that is refused is refused where a type of values is asked for
pub no_type : {g : Env} {a : TyEx} {e : CodeRefusal} → RefusedAs g (a_type a) e → NoValueType g a e
no_type {e = e} h = record { stands = says-map e (λ r q. inl q) h.stands }

-- a type phrase of another kind than * is refused where a type of values is asked for
pub no_star : {g h : Env} {at : Span} {a : TyEx} {t : Ty} {k : Kind} {e : CodeRefusal} → h ≡ g → at ≡ ty_span a → TyMeans g a t k → ByTest h at (k ≢ Kind.Star) (KindDiffer k Kind.Star) e → NoValueType g a e
no_star {g} {h} {at} {a} {t} {k} {e} s p m b = record { stands = says-map e (λ r q. inr (t, k, m, (q.0, rw (← s, ← p) q.1))) b.stands }

-- what holds of the value that there may be
pub found-map : {A : Type 0} (N : Type 0) {P Q : A → Type 0} (o : Option A) → MatchOption o N P → ((a : A) → P a → Q a) → IfSome o Q
found-map N None h f = tt
found-map N (Some a) h f = f a h

-- what holds of an option's value, if there is one, holds of the value that it has
pub found-is : {A : Type 0} (P : A → Type 0) (o : Option A) (a : A) → o ≡ Some a → IfSome o P → P a
found-is P o a e h = subst (λ p. IfSome p P) e h
