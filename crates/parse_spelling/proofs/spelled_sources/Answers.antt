use Rattle.parse_spelling.proofs.Theorems.{tokens_are_spelled, keywords_are_spelled, phrases_are_spelled, programs_are_spelled, units_are_spelled}
use Rattle.parse_spelling.proofs.spelled_sources.Goals as goal

pub returns-clause-tokens : goal.returns-clause-tokens
returns-clause-tokens c = tokens_are_spelled

pub returns-clause-keywords : goal.returns-clause-keywords
returns-clause-keywords c = keywords_are_spelled

pub returns-clause-phrases : goal.returns-clause-phrases
returns-clause-phrases c = phrases_are_spelled

pub returns-clause-programs : goal.returns-clause-programs
returns-clause-programs c = programs_are_spelled

pub returns-clause-units : goal.returns-clause-units
returns-clause-units c = units_are_spelled
