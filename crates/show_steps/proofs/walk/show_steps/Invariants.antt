use Rattle.omega_machine.proofs.Stepped.{Walking}
use Rattle.show_steps.proofs.walk.show_steps.Given as goal

abbrev pub invariant-loop-steps : goal.invariant-loop-steps
invariant-loop-steps l = Walking l.term l.steps l.run
