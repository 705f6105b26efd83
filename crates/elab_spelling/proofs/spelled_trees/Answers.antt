use Rattle.elab_spelling.proofs.spelled_trees.Goals as goal
use Rattle.elab_spelling.proofs.Theorems.{types_are_spelled, terms_are_spelled}

pub returns-clause-of_types : goal.returns-clause-of_types
returns-clause-of_types c = types_are_spelled

pub returns-clause-of_terms : goal.returns-clause-of_terms
returns-clause-of_terms c = terms_are_spelled
