use Rattle.std.proofs.Common.{◌≡◌, take}
use Rattle.type_store.proofs.finding.copied.Given as goal

abbrev pub invariant-loop-part : goal.invariant-loop-part
invariant-loop-part l = l.copied.items ≡ take l.part-index l.parts
