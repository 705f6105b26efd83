use Rattle.omega_spelling.proofs.Versions.{ty-later, term-later}
use Rattle.omega_spelling.proofs.later_version.Goals as goal

pub returns : goal.returns
returns c = record { types = ty-later; terms = term-later }
