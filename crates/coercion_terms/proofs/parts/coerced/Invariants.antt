use Rattle.std.proofs.Common.{◌≡◌, take}
use Rattle.coercion_terms.proofs.RowSteps.{coerced_pairs}
use Rattle.coercion_terms.proofs.parts.coerced.Given as goal

abbrev pub invariant-loop-field : goal.invariant-loop-field
invariant-loop-field l = l.coerced ≡ coerced_pairs (take l.field-index l.field-items)
