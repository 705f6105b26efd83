use Rattle.std.proofs.Common.{◌≡◌, take}
use Rattle.semantic_sigs.proofs.EncodeSteps.{encoded_pairs}
use Rattle.semantic_sigs.proofs.encoding.encode_fields.Given as goal

abbrev pub invariant-loop-field : goal.invariant-loop-field
invariant-loop-field l = l.encoded ≡ encoded_pairs (take l.field-index l.field-items)
