-- A rule as a list of steps, each a premise or a condition; the first step that fails refuses.
use Rattle.std.specs.Prelude.{List, ◌≡◌, ◌⊎◌}
use Rattle.omega_types.specs.Ty.{Ty}
use Rattle.omega_terms.specs.Term.{Term}
use Rattle.sig_definitions.specs.Signatures.Sig.{Sig, Abs}
use Rattle.sig_definitions.specs.Env.{Env, kinds}
use Rattle.sig_definitions.specs.Matching.Subtyping.{Match}
use Rattle.sig_definitions.specs.Matching.MatchRefusal.{MatchRefusal, RefusesMatch}
use Rattle.fing_syntax.specs.Phrase.{Span}
use Rattle.refusal_reasons.specs.Refusal.{Refusal, ElabWhy}
use Rattle.elab_judgments.specs.Refusals.Refusal.{refuse, refuse_match}
use Rattle.elab_judgments.specs.Refusals.Task.{Task, Result, Means}

pub data Rule (A : Type 0) : Type 1 where
  -- all steps are done
  gives : A → Rule A
  -- a premise: another task in its environment
  need : (g : Env) (a : Task) → (Result a → Rule A) → Rule A
  -- a condition: some value that P has, or else the refusals that Q has
  ask : {B : Type 0} (P : B → Type 0) (Q : Refusal → Type 0) → (B → Rule A) → Rule A

-- what a rule gives
abbrev pub Runs : {A : Type 0} → Rule A → A → Type 0
Runs (Rule.gives x) y = x ≡ y
Runs (Rule.need g a go) y = (o : Result a) × Means g a o × Runs (go o) y
Runs (Rule.ask {B} P Q go) y = (b : B) × P b × Runs (go b) y

-- a condition of the rule fails with the refusal, all steps before it holding
abbrev pub Fails : {A : Type 0} → Rule A → Refusal → Type 0
Fails (Rule.gives x) r = ⊥
Fails (Rule.need g a go) r = (o : Result a) × Means g a o × Fails (go o) r
Fails (Rule.ask {B} P Q go) r = Q r ⊎ ((b : B) × P b × Fails (go b) r)

-- a task in an environment is a premise of the rule, all steps before it holding
abbrev pub Enters : {A : Type 0} → Rule A → Env → Task → Type 0
Enters (Rule.gives x) h b = ⊥
Enters (Rule.need g a go) h b = ((g ≡ h) × (a ≡ b)) ⊎ ((o : Result a) × Means g a o × Enters (go o) h b)
Enters (Rule.ask {B} P Q go) h b = (x : B) × P x × Enters (go x) h b

-- a value that P has, or else this refusal
abbrev pub some : {A B : Type 0} → (B → Type 0) → Refusal → (B → Rule A) → Rule A
some {B = B} P r go = Rule.ask P (λ q. ((b : B) → P b → ⊥) × (q ≡ r)) go

-- a condition without a value
abbrev pub test : {A : Type 0} → Type 0 → Refusal → (Unit {0} → Rule A) → Rule A
test P r go = Rule.ask {B = Unit {0}} (λ u. P) (λ q. (P → ⊥) × (q ≡ r)) go

-- the value that P has, where there always is one
abbrev pub the : {A B : Type 0} → (B → Type 0) → (B → Rule A) → Rule A
the P go = Rule.ask P (λ q. ⊥) go

-- the rule ends here
abbrev pub stop : {A : Type 0} → Refusal → Rule A
stop r = Rule.ask {B = ⊥} (λ b. Unit {0}) (λ q. q ≡ r) (λ b. absurd b)

-- the conclusion of a rule, or its refusal, for this reason, at a place
abbrev pub by_rule : {A B W : Type 0} → (W → ElabWhy) → Env → Span → (B → Type 0) → (W → Type 0) → (B → Rule A) → Rule A
by_rule {W = W} reason g at Gives Refuses go = Rule.ask Gives (λ q. (why : W) × Refuses why × (q ≡ refuse g at (reason why))) go

-- the types and the coercion of a match
abbrev pub matched : {A : Type 0} → Env → Span → Sig → Abs → (List Ty × Term → Rule A) → Rule A
matched g at s y go = Rule.ask (λ (o : List Ty × Term). Match (kinds g) s y o.0 o.1) (λ q. (r : MatchRefusal) × RefusesMatch (kinds g) s y r × (q ≡ refuse_match g at r)) go
