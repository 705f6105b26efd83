use Rattle.omega_laws.proofs.reduction.Goals as goal
use Rattle.omega_laws.proofs.ReductionClaims.{types_are_unique, steps_keep_types, reached_is_typed, budgets_have_outcomes}

pub returns-clause-unique : goal.returns-clause-unique
returns-clause-unique c = types_are_unique

pub returns-clause-keep : goal.returns-clause-keep
returns-clause-keep c = steps_keep_types

pub returns-clause-reached : goal.returns-clause-reached
returns-clause-reached c = reached_is_typed

pub returns-clause-outcomes : goal.returns-clause-outcomes
returns-clause-outcomes c = budgets_have_outcomes
