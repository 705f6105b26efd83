use Rattle.fing_top.proofs.Simplest.{of_compiled}
use Rattle.fing_top.proofs.emitting.whole.Goals as goal

pub returns-clause-confirmed : goal.returns-clause-confirmed
returns-clause-confirmed c = of_compiled c.args.bytes.now _ c.in_ok-compile.ensures.compiled
