use Rattle.elab_rules.proofs.Entering.{left-one}
use Rattle.elab_rules.proofs.scopes.leave.Goals as goal

pub loop-step-preserved : goal.loop-step-preserved
loop-step-preserved c = left-one c.loop-step.step _ c.loop-step.env c.pop.new.self c.pop.result c.loop-step.invariant c.pop.ensures
