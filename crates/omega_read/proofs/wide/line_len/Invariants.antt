use Rattle.std.proofs.Common.{◌≡◌, true, take}
use Rattle.omega_spelling.specs.Reading.{passes}
use Rattle.omega_read.proofs.Lines.{no_end}
use Rattle.omega_read.proofs.wide.line_len.Given as goal

abbrev pub invariant-loop-i : goal.invariant-loop-i
invariant-loop-i l = passes no_end (take l.i l.bytes) ≡ true
