use Rattle.std.proofs.Common.{arith}
use Rattle.std.proofs.lemmas.Grind.{common_steps}
use Rattle.omega_types.proofs.KindsFound.{rises-distinct}
use Rattle.omega_types.proofs.kinding.+find.Goals as goal

pub all_star-returns-clause-all : goal.all_star-returns-clause-all
all_star-returns-clause-all t c =
    let r = rises-distinct c.items-field-items.result.now c.items-field-items.ensures.rising in
    grind (arith, common_steps)
