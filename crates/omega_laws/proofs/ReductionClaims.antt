-- The statements on reduction, from the lemmas.
-- Main results: types_are_unique, steps_keep_types, reached_is_typed, budgets_have_outcomes.
use Rattle.omega_laws.specs.Reduction.{TypesAreUnique, StepsKeepTypes, ReachedIsTyped, BudgetsHaveOutcomes}
use Rattle.omega_laws.proofs.Unique.{unique}
use Rattle.omega_laws.proofs.Keep.{keeps}
use Rattle.omega_laws.proofs.Runs.{reaches_type, reached_not_stuck, outcome, outcome_unique, spent_iff}

-- two types of one term are convertible
pub types_are_unique : TypesAreUnique
types_are_unique e ctx vars t u g h i = unique e ctx vars t u g h i

-- a step keeps the type of a term
pub steps_keep_types : StepsKeepTypes
steps_keep_types ctx vars e d t g s h = keeps s ctx vars t g h

-- a term that is reached from a closed typed one has its type and is not stuck
pub reached_is_typed : ReachedIsTyped
reached_is_typed e d n t h r = (reaches_type t h r, reached_not_stuck t h r)

-- a closed typed term has exactly one outcome within each budget
pub budgets_have_outcomes : BudgetsHaveOutcomes
budgets_have_outcomes b e t h = let o = outcome b e t h in ((o.0, o.1, λ s x. outcome_unique x o.1), spent_iff b e t h)
