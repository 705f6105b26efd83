use Rattle.fing_top.proofs.Emitted.{emitted_is_verified}
use Rattle.fing_top.proofs.top.emitted_is_verified.Goals as goal

pub returns : goal.returns
returns c = emitted_is_verified
