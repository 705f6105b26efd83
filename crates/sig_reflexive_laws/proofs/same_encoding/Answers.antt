use Rattle.sig_reflexive_laws.proofs.same_encoding.Goals as goal
use Rattle.sig_reflexive_laws.proofs.Encodings.{below_each_other, part_gives, one_part, part_not_refused, function_skips}

pub returns-clause-both : goal.returns-clause-both
returns-clause-both c = below_each_other

pub returns-clause-part : goal.returns-clause-part
returns-clause-part c = part_gives

pub returns-clause-one : goal.returns-clause-one
returns-clause-one c = one_part

pub returns-clause-not_refused : goal.returns-clause-not_refused
returns-clause-not_refused c = part_not_refused

pub returns-clause-function : goal.returns-clause-function
returns-clause-function c = function_skips
