use Rattle.omega_simplify_laws.proofs.simplification.Goals as goal
use Rattle.omega_simplify_laws.proofs.Kept.{kept}
use Rattle.omega_simplify_laws.proofs.Returned.{flat_calls_come_back}
use Rattle.omega_simplify_laws.proofs.Ended.{simplified_comes_too, term_comes_too}

pub returns-clause-types : goal.returns-clause-types
returns-clause-types c = λ ctx vars e t g h. kept g h

pub returns-clause-returned : goal.returns-clause-returned
returns-clause-returned c = flat_calls_come_back

pub returns-clause-forwards : goal.returns-clause-forwards
returns-clause-forwards c = simplified_comes_too

pub returns-clause-backwards : goal.returns-clause-backwards
returns-clause-backwards c = term_comes_too
