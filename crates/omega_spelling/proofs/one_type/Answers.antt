use Rattle.omega_spelling.proofs.Texts.{one-type}
use Rattle.omega_spelling.proofs.one_type.Goals as goal

pub returns : goal.returns
returns c = one-type
