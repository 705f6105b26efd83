use Rattle.sig_match_laws.proofs.substituted.Goals as goal
use Rattle.sig_match_laws.proofs.AnyTypes.SubSubst.{sub_substitute, sub_abs_substitute}

pub returns-clause-sub : goal.returns-clause-sub
returns-clause-sub c = sub_substitute

pub returns-clause-abs : goal.returns-clause-abs
returns-clause-abs c = sub_abs_substitute
