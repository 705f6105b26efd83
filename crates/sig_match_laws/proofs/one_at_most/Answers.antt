use Rattle.sig_match_laws.proofs.one_at_most.Goals as goal
use Rattle.sig_match_laws.proofs.Theorems.{one_match, one_sub, one_sub_abs}

pub returns-clause-matching : goal.returns-clause-matching
returns-clause-matching c = one_match

pub returns-clause-sub : goal.returns-clause-sub
returns-clause-sub c = one_sub

pub returns-clause-abs : goal.returns-clause-abs
returns-clause-abs c = one_sub_abs
