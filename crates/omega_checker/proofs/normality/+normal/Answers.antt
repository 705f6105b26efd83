use Rattle.std.proofs.Common.{arith}
use Rattle.std.proofs.lemmas.Grind.{common_steps}
use Rattle.omega_types.proofs.KindsFound.{rises-distinct}
use Rattle.omega_checker.proofs.normality.+normal.Goals as goal

pub normal_fields-returns-then-not-branch-clause-value : goal.normal_fields-returns-then-not-branch-clause-value
normal_fields-returns-then-not-branch-clause-value t c =
    let r = rises-distinct c.items-field-items.result.now c.items-field-items.ensures.rising in
    grind (arith, common_steps)

pub normal_fields-returns-clause-value : goal.normal_fields-returns-clause-value
normal_fields-returns-clause-value t c =
    let r = rises-distinct c.items-field-items.result.now c.items-field-items.ensures.rising in
    grind (arith, common_steps)
