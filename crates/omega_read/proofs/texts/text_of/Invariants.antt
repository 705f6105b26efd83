use Rattle.std.proofs.Common.{◌≡◌, false, drop}
use Rattle.omega_spelling.specs.TermReading.{chars_at}
use Rattle.omega_read.proofs.TextBytes.{with_text}
use Rattle.omega_read.proofs.texts.text_of.Given as goal

abbrev pub invariant-loop-i : goal.invariant-loop-i
invariant-loop-i l = with_text l.text.items (chars_at l.escaped (drop l.i l.whole)) ≡ chars_at false l.whole
