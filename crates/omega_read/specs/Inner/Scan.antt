-- The place of a byte, as the code keeps it.
use Rattle.omega_spelling.specs.Refusals.{Place, Outside, Inside, Escaped}
use Rattle.omega_read.specs.declared.depth.Spot.{Spot}
use Rattle.omega_read.specs.declared.depth.Spot.TheVariants as spot

abbrev pub place_of : Spot → Place
place_of spot.Outside = Outside
place_of spot.Inside = Inside
place_of spot.Escaped = Escaped
