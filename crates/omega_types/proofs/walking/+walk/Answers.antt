use Rattle.std.proofs.Common.{arith}
use Rattle.std.proofs.lemmas.Grind.{common_steps}
use Rattle.omega_types.proofs.Steps.{row-walked}
use Rattle.omega_types.proofs.walking.+walk.Goals as goal

pub walk_fields-returns : goal.walk_fields-returns
walk_fields-returns g t c = grind (arith, common_steps, row-walked)
