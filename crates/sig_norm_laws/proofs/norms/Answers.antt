use Rattle.sig_norm_laws.proofs.norms.Goals as goal
use Rattle.sig_norm_laws.proofs.NormClaims.{roots_found, one_least_root, order_found, order_one, norm_found, norm_one, norm-one, norm_keeps, norm_of_norm}

pub returns-clause-roots : goal.returns-clause-roots
returns-clause-roots c = roots_found

pub returns-clause-one_root : goal.returns-clause-one_root
returns-clause-one_root c = one_least_root

pub returns-clause-order : goal.returns-clause-order
returns-clause-order c = order_found

pub returns-clause-one_order : goal.returns-clause-one_order
returns-clause-one_order c = order_one

pub returns-clause-exists : goal.returns-clause-exists
returns-clause-exists c = norm_found

pub returns-clause-unique : goal.returns-clause-unique
returns-clause-unique c = norm_one

pub returns-clause-keeps : goal.returns-clause-keeps
returns-clause-keeps c = norm_keeps

pub returns-clause-again : goal.returns-clause-again
returns-clause-again c = norm_of_norm

pub returns-clause-one_norm : goal.returns-clause-one_norm
returns-clause-one_norm c = norm-one
