use Rattle.fing_top.proofs.Meanings.{mean_or_refused}
use Rattle.fing_top.proofs.top.one_meaning.Goals as goal

pub returns : goal.returns
returns c = mean_or_refused
