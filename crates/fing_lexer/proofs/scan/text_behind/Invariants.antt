use Rattle.std.proofs.Common.{◌-◌, length, drop}
use Rattle.fing_lexer.proofs.Texts.{Reads}
use Rattle.fing_lexer.proofs.scan.text_behind.Given as goal

abbrev pub invariant-loop-at : goal.invariant-loop-at
invariant-loop-at l = Reads l.bytes (drop l.at l.bytes) l.at l.meaning.items

abbrev pub decreases-loop-at : goal.decreases-loop-at
decreases-loop-at l = length l.bytes - l.at
