use Rattle.module_laws.proofs.Put.{sequence_put_in}
use Rattle.module_laws.proofs.put_in.Goals as goal

pub returns : goal.returns
returns c = sequence_put_in
