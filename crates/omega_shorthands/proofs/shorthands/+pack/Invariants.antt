use Rattle.std.proofs.Common.{◌+◌, ◌*◌, length}
use Rattle.omega_shorthands.proofs.shorthands.+pack.Given as goal

abbrev pub decreases-pack_all : goal.decreases-pack_all
decreases-pack_all l = 2 * length l.types.now

abbrev pub decreases-pack_one : goal.decreases-pack_one
decreases-pack_one l = 2 * length l.rest.now + 1
