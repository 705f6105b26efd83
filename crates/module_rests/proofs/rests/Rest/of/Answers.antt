use Rattle.module_rests.proofs.Rows.{none-comes}
use Rattle.module_rests.proofs.rests.Rest.of.Goals as goal

pub returns : goal.returns
returns c = none-comes c.new.result.items c.args.last c.new.ensures.items
