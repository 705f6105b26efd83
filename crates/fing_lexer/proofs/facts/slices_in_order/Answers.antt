use Rattle.fing_lexer.proofs.Slices.{sliced}
use Rattle.fing_lexer.proofs.facts.slices_in_order.Goals as goal

pub returns : goal.returns
returns c = λ bytes ts h. sliced bytes ts h
