use Rattle.sig_laws.proofs.coercions.Goals as goal
use Rattle.sig_laws.proofs.LawTheorems.{sub_is_typed, sub_abs_is_typed, match_is_typed}

pub returns-clause-sub : goal.returns-clause-sub
returns-clause-sub c = sub_is_typed

pub returns-clause-sub_abs : goal.returns-clause-sub_abs
returns-clause-sub_abs c = sub_abs_is_typed

pub returns-clause-match_at : goal.returns-clause-match_at
returns-clause-match_at c = match_is_typed
