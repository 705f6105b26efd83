use Rattle.omega_machine.specs.Inner.Contexts.{plug, term_in}
use Rattle.omega_machine.proofs.Refocused.{Stands, left_work}
use Rattle.omega_machine.proofs.refocus.refocus.Given as goal

abbrev pub invariant-loop-focus : goal.invariant-loop-focus
invariant-loop-focus l = Stands (plug l.fn.frames.items (term_in l.fn.focus)) l.frames.items l.focus

abbrev pub decreases-loop-focus : goal.decreases-loop-focus
decreases-loop-focus l = left_work l.frames.items l.focus
