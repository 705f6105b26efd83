use Rattle.elab_spelling.proofs.legible_matches.Goals as goal
use Rattle.elab_spelling.proofs.Theorems.{encodings_are_legible, matches_are_legible}

pub returns-clause-encodings : goal.returns-clause-encodings
returns-clause-encodings c = encodings_are_legible

pub returns-clause-matches : goal.returns-clause-matches
returns-clause-matches c = matches_are_legible
