use Rattle.omega_compact.proofs.Texts.{denoted, read}
use Rattle.omega_compact.proofs.laws.same_meaning.Goals as goal

pub returns : goal.returns
returns c = λ bytes t e. (denoted bytes t e, read bytes t e)
