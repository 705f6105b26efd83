use Rattle.fing_show.proofs.Ran.{without-budget}
use Rattle.fing_show.proofs.running.steps_of.Goals as goal

pub returns-in_default : goal.returns-in_default
returns-in_default c = without-budget c.args.view c.in_default.not-Steps
