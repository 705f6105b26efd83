use Rattle.sig_transitive_laws.proofs.transitive.Goals as goal
use Rattle.sig_transitive_laws.proofs.Claims.{sub_transitive, sub_abs_transitive}

pub returns-clause-sub : goal.returns-clause-sub
returns-clause-sub c = sub_transitive

pub returns-clause-abs : goal.returns-clause-abs
returns-clause-abs c = sub_abs_transitive
