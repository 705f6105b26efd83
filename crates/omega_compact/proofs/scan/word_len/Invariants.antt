use Rattle.std.proofs.Common.{◌≡◌, take, drop}
use Rattle.omega_compact.specs.Tokens.{InWord, tokens_from}
use Rattle.omega_compact.proofs.Scans.{with_front}
use Rattle.omega_compact.proofs.scan.word_len.Given as goal

abbrev pub invariant-loop-i : goal.invariant-loop-i
invariant-loop-i l = with_front (take l.i l.bytes) (tokens_from InWord (drop l.i l.bytes)) ≡ tokens_from InWord l.bytes
