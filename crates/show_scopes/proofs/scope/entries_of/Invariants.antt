use Rattle.std.proofs.Common.{length}
use Rattle.show_scopes.proofs.scope.entries_of.Given as goal

abbrev pub decreases-loop-entry : goal.decreases-loop-entry
decreases-loop-entry l = length l.env
