use Rattle.omega_simplify_laws.proofs.example.Goals as goal
use Rattle.omega_simplify_laws.proofs.SealedRow.{sealed_row}

pub returns : goal.returns
returns c = sealed_row
