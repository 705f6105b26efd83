use Rattle.std.proofs.Common.{◌≡◌}
use Rattle.omega_compact.specs.Tokens.{InText, tokens_from}
use Rattle.omega_compact.proofs.Scans.{text_left}
use Rattle.omega_compact.proofs.scan.text_len.Given as goal

abbrev pub invariant-loop-i : goal.invariant-loop-i
invariant-loop-i l = text_left l.is_escaped l.i l.bytes ≡ tokens_from InText l.bytes
