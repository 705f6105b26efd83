use Rattle.sig_cut_laws.proofs.along.Goals as goal
use Rattle.sig_cut_laws.proofs.Cuts.{found_in_cut, cut_left, cut_right, cut_before, no_larger}

pub returns-clause-found : goal.returns-clause-found
returns-clause-found c = found_in_cut

pub returns-clause-left : goal.returns-clause-left
returns-clause-left c = cut_left

pub returns-clause-right : goal.returns-clause-right
returns-clause-right c = cut_right

pub returns-clause-before : goal.returns-clause-before
returns-clause-before c = cut_before

pub returns-clause-size : goal.returns-clause-size
returns-clause-size c = no_larger
