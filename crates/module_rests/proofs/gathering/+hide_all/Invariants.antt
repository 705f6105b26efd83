use Rattle.std.proofs.Common.{length}
use Rattle.module_rests.proofs.gathering.+hide_all.Given as goal

abbrev pub decreases-hide_all : goal.decreases-hide_all
decreases-hide_all l = length l.steps.now
