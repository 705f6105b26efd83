use Rattle.omega_spelling.proofs.Wholes.{not-refused}
use Rattle.omega_spelling.proofs.Answering.{unrefused}
use Rattle.omega_spelling.proofs.texts_are_not_refused.Goals as goal

pub returns : goal.returns
returns c = record { tests = not-refused; refusals = unrefused }
