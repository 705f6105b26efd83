use Rattle.std.proofs.Common.{◌≡◌, drop, fold}
use Rattle.type_store.specs.Inner.Low.{highest, with_part}
use Rattle.type_store.proofs.low.low_of_parts.Given as goal

abbrev pub invariant-loop-part : goal.invariant-loop-part
invariant-loop-part l = fold (with_part l.lows) l.low (drop l.part-index l.parts) ≡ fold (with_part l.lows) highest l.parts
