use Rattle.std.proofs.Common.{◌≡◌, drop}
use Rattle.omega_compact.specs.Tokens.{Comment, tokens_from}
use Rattle.omega_compact.proofs.scan.comment_len.Given as goal

abbrev pub invariant-loop-i : goal.invariant-loop-i
invariant-loop-i l = tokens_from Comment (drop l.i l.bytes) ≡ tokens_from Comment l.bytes
