use Rattle.sig_match_laws.proofs.functions.Goals as goal
use Rattle.sig_match_laws.proofs.Theorems.{match_sig_gives, sub_sig_gives, sub_abs_gives, match_sig_step, sub_sig_step, sub_abs_step}

pub returns-clause-matching : goal.returns-clause-matching
returns-clause-matching c = match_sig_gives

pub returns-clause-sub : goal.returns-clause-sub
returns-clause-sub c = sub_sig_gives

pub returns-clause-abs : goal.returns-clause-abs
returns-clause-abs c = sub_abs_gives

pub returns-clause-match_step : goal.returns-clause-match_step
returns-clause-match_step c = match_sig_step

pub returns-clause-sub_step : goal.returns-clause-sub_step
returns-clause-sub_step c = sub_sig_step

pub returns-clause-abs_step : goal.returns-clause-abs_step
returns-clause-abs_step c = sub_abs_step
