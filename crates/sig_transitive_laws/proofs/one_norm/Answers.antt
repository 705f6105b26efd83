use Rattle.sig_transitive_laws.proofs.one_norm.Goals as goal
use Rattle.sig_transitive_laws.proofs.Claims.{norm_below, one_norm_below, part_of_one_norm}

pub returns-clause-norm : goal.returns-clause-norm
returns-clause-norm c = norm_below

pub returns-clause-both : goal.returns-clause-both
returns-clause-both c = one_norm_below

pub returns-clause-part : goal.returns-clause-part
returns-clause-part c = part_of_one_norm
