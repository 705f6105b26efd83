use Rattle.fing_words.proofs.OneLine.{one_line}
use Rattle.fing_words.proofs.command_line.one_line.Goals as goal

pub returns : goal.returns
returns c = one_line
