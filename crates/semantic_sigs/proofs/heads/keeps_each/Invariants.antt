use Rattle.semantic_sigs.proofs.StillSteps.{StillBelow}
use Rattle.semantic_sigs.proofs.heads.keeps_each.Given as goal

abbrev pub invariant-loop-i : goal.invariant-loop-i
invariant-loop-i l = StillBelow l.places l.i
