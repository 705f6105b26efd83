use Rattle.package_type_laws.proofs.Claims.{norm_matches, normal_norm_matches}
use Rattle.package_type_laws.proofs.norms_match.Goals as goal

pub returns-clause-any : goal.returns-clause-any
returns-clause-any c = norm_matches

pub returns-clause-normal : goal.returns-clause-normal
returns-clause-normal c = normal_norm_matches
