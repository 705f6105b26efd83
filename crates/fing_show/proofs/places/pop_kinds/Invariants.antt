use Rattle.std.proofs.Common.{length}
use Rattle.fing_show.proofs.places.pop_kinds.Given as goal

abbrev pub decreases-loop-kind : goal.decreases-loop-kind
decreases-loop-kind l = length l.env
