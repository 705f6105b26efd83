use Rattle.sig_match_laws.proofs.found_or_not.Goals as goal
use Rattle.sig_match_laws.proofs.ExampleProofs.{int_is_found, nothing_is_found}

pub returns-clause-found : goal.returns-clause-found
returns-clause-found c = int_is_found

pub returns-clause-missing : goal.returns-clause-missing
returns-clause-missing c = nothing_is_found
