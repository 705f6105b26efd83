use Rattle.sig_reflexive_laws.proofs.itself.Goals as goal
use Rattle.sig_reflexive_laws.proofs.Same.{self_sub, self_sub_abs, self_match, one_self_match}

pub returns-clause-sub : goal.returns-clause-sub
returns-clause-sub c = self_sub

pub returns-clause-abs : goal.returns-clause-abs
returns-clause-abs c = self_sub_abs

pub returns-clause-matching : goal.returns-clause-matching
returns-clause-matching c = self_match

pub returns-clause-one : goal.returns-clause-one
returns-clause-one c = one_self_match
