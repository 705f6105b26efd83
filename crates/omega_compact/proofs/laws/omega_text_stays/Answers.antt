use Rattle.omega_compact.proofs.Texts.{texts_stay}
use Rattle.omega_compact.proofs.laws.omega_text_stays.Goals as goal

pub returns : goal.returns
returns c = texts_stay
