use Rattle.std.proofs.Common.{◌≡◌, drop}
use Rattle.std.specs.Char.{is_ascii_digit}
use Rattle.omega_spelling.specs.Reading.{passes}
use Rattle.omega_read.proofs.wide.all_digits.Given as goal

abbrev pub invariant-loop-b : goal.invariant-loop-b
invariant-loop-b l = passes is_ascii_digit (drop l.b-index l.bytes) ≡ passes is_ascii_digit l.bytes
