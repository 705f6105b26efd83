use Rattle.sig_laws.proofs.substitution.Goals as goal
use Rattle.sig_laws.proofs.LawTheorems.{substitute_id, substitute_twice, substitute_agree, size_kept, part_kept, root_kept, well_formed_kept, results_kept, explicit_kept}

pub returns-clause-same : goal.returns-clause-same
returns-clause-same c = substitute_id

pub returns-clause-twice : goal.returns-clause-twice
returns-clause-twice c = substitute_twice

pub returns-clause-agree : goal.returns-clause-agree
returns-clause-agree c = substitute_agree

pub returns-clause-size : goal.returns-clause-size
returns-clause-size c = size_kept

pub returns-clause-part : goal.returns-clause-part
returns-clause-part c = part_kept

pub returns-clause-root : goal.returns-clause-root
returns-clause-root c = root_kept

pub returns-clause-formed : goal.returns-clause-formed
returns-clause-formed c = well_formed_kept

pub returns-clause-results : goal.returns-clause-results
returns-clause-results c = results_kept

pub returns-clause-explicit : goal.returns-clause-explicit
returns-clause-explicit c = explicit_kept
