use Rattle.std.proofs.Common.{◌≡◌, drop, fold}
use Rattle.type_store.specs.Inner.Feed.{mixed}
use Rattle.type_store.proofs.digest.digest_of_bytes.Given as goal

abbrev pub invariant-loop-byte : goal.invariant-loop-byte
invariant-loop-byte l = fold mixed l.digest (drop l.byte-index l.bytes) ≡ fold mixed l.start l.bytes
