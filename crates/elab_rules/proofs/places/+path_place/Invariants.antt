use Rattle.std.proofs.Common.{length}
use Rattle.elab_rules.proofs.places.+path_place.Given as goal

abbrev pub decreases-path_place : goal.decreases-path_place
decreases-path_place l = length l.rest.now
