use Rattle.sig_laws.proofs.lifting_laws.Goals as goal
use Rattle.sig_laws.proofs.LiftLaws.{lifting_kinds, lifting_maps}

pub returns-clause-kinds : goal.returns-clause-kinds
returns-clause-kinds c = lifting_kinds

pub returns-clause-maps : goal.returns-clause-maps
returns-clause-maps c = lifting_maps
