use Rattle.std.proofs.Common.{arith}
use Rattle.std.proofs.lemmas.Grind.{common_steps}
use Rattle.semantic_sigs.proofs.EncodeSteps.{row-encoded}
use Rattle.semantic_sigs.proofs.encoding.encode_fields.Goals as goal

pub returns : goal.returns
returns c = grind (arith, common_steps, row-encoded)
