use Rattle.omega_spelling.proofs.Refusing.{exclusive}
use Rattle.omega_spelling.proofs.Answering.{answered}
use Rattle.omega_spelling.proofs.one_refusal.Goals as goal

pub returns : goal.returns
returns c = record { unique = exclusive; some = answered }
