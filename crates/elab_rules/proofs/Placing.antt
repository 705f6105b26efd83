-- From a rule's reason, and its place, to a refusal of the rule.
-- Main results: by-rule, by-test, mapped.
use Rattle.std.proofs.Common.{◌≡◌, Option, Some, None, Result, Ok, Err, IfErr, IfOk, IfSome, IsErrAnd, sym, subst, ap, ◌∙◌}
use Rattle.std.specs.Prelude.{MatchOption, MatchResult}
use Rattle.std.proofs.lemmas.Result.{err_from_is_err_and}
use Rattle.std.specs.Option.{option_map}
use Rattle.sig_definitions.specs.Env.{Env}
use Rattle.fing_syntax.specs.Phrase.{Span}
use Rattle.refusal_reasons.specs.Refusal.{ElabWhy, Refusal}
use Rattle.elab_judgments.specs.Refusals.Refusal.{refuse}
use Rattle.fing_refusals.specs.Inner.Plain.{Says, plain_refusal, want_of_memory}
use Rattle.fing_refusals.specs.declared.refusal.Refusal.{Refusal as CodeRefusal}
use Rattle.elab_rules.specs.Inner.Answered.{Placed, ByRule, ByTest}

-- what holds of an option's value, if there is one, may be weakened
pub if_some-map : {A : Type 0} {P Q : A → Type 0} (o : Option A) → ((a : A) → P a → Q a) → IfSome o P → IfSome o Q
if_some-map None f h = tt
if_some-map (Some a) f h = f a h

told-map : {A : Type 0} (N : Type 0) {P Q : A → Type 0} (o : Option A) → ((a : A) → P a → Q a) → MatchOption o N P → MatchOption o N Q
told-map N None f h = h
told-map N (Some a) f h = f a h

-- what a refusal of the code says may be weakened
pub says-map : {P Q : Refusal → Type 0} (e : CodeRefusal) → ((r : Refusal) → P r → Q r) → Says e P → Says e Q
says-map e f h = told-map (e ≡ want_of_memory) (plain_refusal e) f h

reasoned : {W : Type 0} (reason : W → ElabWhy) (o : Option W) {Refuses : W → Type 0} {w : ElabWhy} → IfSome o Refuses → option_map reason o ≡ Some w → (why : W) × Refuses why × (w ≡ reason why)
reasoned reason None h e = absurd cc
reasoned reason (Some why) h e = (why, h, cc)

-- the reason of a rule, where it is placed, is a refusal by the rule
pub by-rule : {W : Type 0} (reason : W → ElabWhy) (o : Option W) (Refuses : W → Type 0) (g : Env) (at : Span) (e : CodeRefusal) → IfSome o Refuses → Placed g at (option_map reason o) e → ByRule reason g at Refuses e
by-rule {W} reason o Refuses g at e h p = record { stands = says-map e (λ r q. let v : (why : W) × Refuses why × (q.0 ≡ reason why) = reasoned reason o h q.1 in (v.0, v.1, q.2 ∙ ap (refuse g at) v.2)) p.stands }

-- a test that fails, with its reason where it is placed, is a refusal by the test
pub by-test : (why : ElabWhy) (fails : Type 0) (g : Env) (at : Span) (e : CodeRefusal) → fails → Placed g at (Some why) e → ByTest g at fails why e
by-test why fails g at e h p = record { stands = says-map e (λ r q. (h, q.2 ∙ ap (refuse g at) (some-is q.1))) p.stands }
  where
    some-is : {v w : ElabWhy} → Some v ≡ Some w → w ≡ v
    some-is e = cc

-- what a rule answers, where a call places its reason
pub kept : {T E F : Type 0} {P Q : T → Type 0} (post : E → F → Type 0) (s : Result T E) (r : Result T F) → MatchResult s (λ x. r ≡ Ok x) (λ e. IsErrAnd r (post e)) → IfOk s P → ((x : T) → P x → Q x) → IfOk r Q
kept {Q = Q} post (Ok x) r m h f = subst (λ y. IfOk y Q) (sym m) (f x h)
kept {Q = Q} post (Err e) r m h f = let p = err_from_is_err_and {Q = post e} r m in subst (λ y. IfOk y Q) (sym p.1) tt

-- an error of a rule, placed on the way, is a refusal by the rule, for a reason that is made of the error's
pub mapped-by : {W E T : Type 0} (reason : W → ElabWhy) (plain : E → Option W) {P : W → Type 0} (Refuses : W → Type 0) {g : Env} {at : Span} {post : E → CodeRefusal → Type 0} (s : Result T E) (r : Result T CodeRefusal)
    → MatchResult s (λ x. r ≡ Ok x) (λ e. IsErrAnd r (post e))
    → IfErr s (λ e. IfSome (plain e) P)
    → ((w : W) → P w → Refuses w)
    → ((e : E) (f : CodeRefusal) → post e f → Placed g at (option_map reason (plain e)) f)
    → IfErr r (ByRule reason g at Refuses)
mapped-by reason plain Refuses {g} {at} (Ok x) r m h i f = subst (λ y. IfErr y (ByRule reason g at Refuses)) (sym m) tt
mapped-by reason plain Refuses {g} {at} (Err e) r m h i f =
    let p = err_from_is_err_and r m in
    subst (λ y. IfErr y (ByRule reason g at Refuses)) (sym p.1) (by-rule reason (plain e) Refuses g at p.0 (if_some-map (plain e) i h) (f e p.0 p.2))

-- an error of a rule, placed on the way, is a refusal by the rule
pub mapped : {W E T : Type 0} (reason : W → ElabWhy) (plain : E → Option W) (Refuses : W → Type 0) {g : Env} {at : Span} {post : E → CodeRefusal → Type 0} (s : Result T E) (r : Result T CodeRefusal)
    → MatchResult s (λ x. r ≡ Ok x) (λ e. IsErrAnd r (post e))
    → IfErr s (λ e. IfSome (plain e) Refuses)
    → ((e : E) (f : CodeRefusal) → post e f → Placed g at (option_map reason (plain e)) f)
    → IfErr r (ByRule reason g at Refuses)
mapped reason plain Refuses s r m h f = mapped-by reason plain Refuses s r m h (λ w x. x) f
