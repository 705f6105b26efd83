use Rattle.elab_spelling.proofs.closed_trees.Goals as goal
use Rattle.elab_spelling.proofs.Theorems.{closed_types_in_scope, closed_terms_in_scope}

pub returns-clause-of_types : goal.returns-clause-of_types
returns-clause-of_types c = closed_types_in_scope

pub returns-clause-of_terms : goal.returns-clause-of_terms
returns-clause-of_terms c = closed_terms_in_scope
