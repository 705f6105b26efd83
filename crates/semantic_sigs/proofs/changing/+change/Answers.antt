use Rattle.std.proofs.Common.{arith}
use Rattle.std.proofs.lemmas.Grind.{common_steps}
use Rattle.semantic_sigs.proofs.SigSteps.{sig_row-changed}
use Rattle.semantic_sigs.proofs.changing.+change.Goals as goal

pub change_sig_fields-returns : goal.change_sig_fields-returns
change_sig_fields-returns t c = grind (arith, common_steps, sig_row-changed)
