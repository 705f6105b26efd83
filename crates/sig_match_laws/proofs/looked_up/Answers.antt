use Rattle.sig_match_laws.proofs.looked_up.Goals as goal
use Rattle.sig_match_laws.proofs.Theorems.{search_gives, match_is_looked_up, one_found}
use Rattle.sig_match_laws.proofs.Function.StepFacts.{look_gives, later_types}

pub returns-clause-search : goal.returns-clause-search
returns-clause-search c = search_gives

pub returns-clause-whole : goal.returns-clause-whole
returns-clause-whole c = match_is_looked_up

pub returns-clause-one : goal.returns-clause-one
returns-clause-one c = one_found

pub returns-clause-look : goal.returns-clause-look
returns-clause-look c = look_gives

pub returns-clause-later : goal.returns-clause-later
returns-clause-later c = later_types
