use Rattle.std.proofs.Common.{◌≡◌, drop, fold}
use Rattle.type_store.specs.Inner.Feed.{part_digest}
use Rattle.type_store.proofs.digest.digest_of_parts.Given as goal

abbrev pub invariant-loop-part : goal.invariant-loop-part
invariant-loop-part l = fold part_digest l.digest (drop l.part-index l.parts) ≡ fold part_digest l.start l.parts
