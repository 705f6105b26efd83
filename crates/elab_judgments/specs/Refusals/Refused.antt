-- Refusals of phrases: at a condition that fails, or inside a premise.
use Rattle.sig_definitions.specs.Env.{Env}
use Rattle.refusal_reasons.specs.Refusal.{Refusal}
use Rattle.elab_judgments.specs.Refusals.Task.{Task}
use Rattle.elab_judgments.specs.Refusals.Rule.{Fails, Enters}
use Rattle.elab_judgments.specs.Refusals.Steps.{steps}

pub data Refused : Env → Task → Refusal → Type 0 where
  here : {g : Env} {a : Task} {r : Refusal} → Fails (steps g a) r → Refused g a r
  inside : {g h : Env} {a b : Task} {r : Refusal} → Enters (steps g a) h b → Refused h b r → Refused g a r
