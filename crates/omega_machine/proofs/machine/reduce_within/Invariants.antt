use Rattle.omega_machine.proofs.Runs.{Going}
use Rattle.omega_machine.proofs.machine.reduce_within.Given as goal

abbrev pub invariant-loop-steps : goal.invariant-loop-steps
invariant-loop-steps l = Going l.term l.steps l.frames.items l.focus
