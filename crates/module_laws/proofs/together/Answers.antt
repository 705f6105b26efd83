use Rattle.module_laws.proofs.together.Goals as goal
use Rattle.module_laws.proofs.Composed.{instances_compose, types_compose}

pub returns-clause-substitutions : goal.returns-clause-substitutions
returns-clause-substitutions c = instances_compose

pub returns-clause-types : goal.returns-clause-types
returns-clause-types c = types_compose
