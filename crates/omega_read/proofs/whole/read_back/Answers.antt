use Rattle.omega_read.proofs.Wholes.{read_again}
use Rattle.omega_read.proofs.whole.read_back.Goals as goal

pub returns : goal.returns
returns c = read_again
