use Rattle.std.proofs.Common.{length}
use Rattle.elab_rules.proofs.places.+name_place.Given as goal

abbrev pub decreases-name_place : goal.decreases-name_place
decreases-name_place l = length l.rest.now
