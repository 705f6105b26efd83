use Rattle.omega_simplify_laws.proofs.flatness.Goals as goal
use Rattle.omega_simplify_laws.proofs.PartsTested.{parts_are_tested}

pub returns : goal.returns
returns c = parts_are_tested
