use Rattle.sig_match_laws.proofs.decided.Goals as goal
use Rattle.sig_match_laws.proofs.Theorems.{match_or_refusal, match-verdict, sub_or_refusal, sub_abs_or_refusal, not_both, one_refusal, sub_not_both, sub_abs_not_both, one_sub_refusal, one_sub_abs_refusal}

pub returns-clause-matching : goal.returns-clause-matching
returns-clause-matching c = match_or_refusal

pub returns-clause-sub : goal.returns-clause-sub
returns-clause-sub c = sub_or_refusal

pub returns-clause-abs : goal.returns-clause-abs
returns-clause-abs c = sub_abs_or_refusal

pub returns-clause-exclude : goal.returns-clause-exclude
returns-clause-exclude c = not_both

pub returns-clause-one : goal.returns-clause-one
returns-clause-one c = one_refusal

pub returns-clause-sub_exclude : goal.returns-clause-sub_exclude
returns-clause-sub_exclude c = sub_not_both

pub returns-clause-abs_exclude : goal.returns-clause-abs_exclude
returns-clause-abs_exclude c = sub_abs_not_both

pub returns-clause-one_sub : goal.returns-clause-one_sub
returns-clause-one_sub c = one_sub_refusal

pub returns-clause-one_abs : goal.returns-clause-one_abs
returns-clause-one_abs c = one_sub_abs_refusal

pub returns-clause-verdict : goal.returns-clause-verdict
returns-clause-verdict c = match-verdict
