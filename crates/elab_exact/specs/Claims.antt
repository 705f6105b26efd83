-- The theorems.
use Rattle.std.specs.Prelude.{◌≡◌, ◌⊎◌}
use Rattle.omega_kinds.specs.Kind.{Kind}
use Rattle.omega_types.specs.Kinding.{HasKind}
use Rattle.omega_types.specs.Normality.{Normal}
use Rattle.omega_terms.specs.Term.{Term}
use Rattle.sig_definitions.specs.Signatures.Sig.{Module}
use Rattle.sig_definitions.specs.Env.{Env, kinds}
use Rattle.fing_syntax.specs.Phrase.{Binds}
use Rattle.refusal_reasons.specs.Refusal.{Refusal}
use Rattle.refusal_reasons.specs.Good.{GoodRefusal}
use Rattle.elab_judgments.specs.Judgments.Program.{ProgramMeans, ProgramRefused}
use Rattle.sig_definitions.specs.Verdict.{Verdict}
use Rattle.elab_judgments.specs.Refusals.Task.{Task, Result, Means, type_args, args, branches, binds}
use Rattle.elab_judgments.specs.Refusals.Rule.{Runs}
use Rattle.elab_judgments.specs.Refusals.Steps.{steps}
use Rattle.elab_judgments.specs.Refusals.Refused.{Refused}
use Rattle.sig_laws.specs.Good.{OkEnv, Names}

-- what a task holds besides its phrases is right in the environment
abbrev pub Fit : Env → Task → Type 0
Fit g (type_args at t k rest) = HasKind (kinds g) t k
Fit g (args at t e rest) = HasKind (kinds g) t Kind.Star
Fit g (branches w t before rest) = Normal (kinds g) w Kind.Star
Fit g (binds before bs) = Names g before
Fit g a = Unit {0}

-- the steps of each task's rule give just what the inductive rules derive
abbrev pub StepsSayTheRules : Type 0
StepsSayTheRules = (g : Env) (a : Task) (o : Result a) → (Means g a o → Runs (steps g a) o) × (Runs (steps g a) o → Means g a o)

-- one outcome, or one refusal
abbrev pub Exactly : Env → Task → Type 0
Exactly g a = Verdict (Means g a) (Refused g a)

abbrev pub EachAnswered : Type 0
EachAnswered = (g : Env) (a : Task) → OkEnv g → Fit g a → Exactly g a

-- the same in four parts: outcomes are equal, an outcome and a refusal exclude each other, refusals are equal, and there
-- is one of the two
abbrev pub OutcomesEqual : Type 0
OutcomesEqual = (g : Env) (a : Task) → OkEnv g → Fit g a → (o p : Result a) → Means g a o → Means g a p → o ≡ p

abbrev pub Exclusive : Type 0
Exclusive = (g : Env) (a : Task) → OkEnv g → Fit g a → (o : Result a) (r : Refusal) → Means g a o → Refused g a r → ⊥

abbrev pub RefusalsEqual : Type 0
RefusalsEqual = (g : Env) (a : Task) → OkEnv g → Fit g a → (r q : Refusal) → Refused g a r → Refused g a q → r ≡ q

abbrev pub Total : Type 0
Total = (g : Env) (a : Task) → OkEnv g → Fit g a → ((o : Result a) × Means g a o) ⊎ ((r : Refusal) × Refused g a r)

-- What a program may answer: an outcome, a refusal, or that memory ran out. If its outcomes are meant and its refusals
-- stand, then what is meant, or refused, is answered, unless memory runs out.
pub data Answer (A : Type 0) : Type 0 where
  Ok : A → Answer A
  Err : Refusal → Answer A
  Mem : Answer A

abbrev pub Follows : (g : Env) (a : Task) → Answer (Result a) → Type 0
Follows g a (Ok o) = Means g a o
Follows g a (Err r) = Refused g a r
Follows g a Mem = Unit {0}

abbrev pub AnswersExact : Type 0
AnswersExact = (g : Env) (a : Task) → OkEnv g → Fit g a → (answer : Answer (Result a)) → Follows g a answer
    → ((o : Result a) → Means g a o → (answer ≡ Ok o) ⊎ (answer ≡ Mem)) × ((r : Refusal) → Refused g a r → (answer ≡ Err r) ⊎ (answer ≡ Mem))

-- a whole program means one module and term, or is refused in one way
abbrev pub ProgramExactly : Binds → Type 0
ProgramExactly bs = Verdict (λ (o : Module × Term). ProgramMeans bs o.0 o.1) (ProgramRefused bs)

abbrev pub EachProgram : Type 0
EachProgram = (bs : Binds) → ProgramExactly bs

-- the types that a program's refusal tells are normal, where as many type variables are in scope as it tells
abbrev pub RefusalsAreGood : Type 0
RefusalsAreGood = (bs : Binds) (r : Refusal) → ProgramRefused bs r → GoodRefusal r
