use Rattle.std.proofs.Common.{◌≤◌, ◌-◌, length}
use Rattle.fing_lexer.specs.Nest.{total}
use Rattle.fing_lexer.proofs.Going.{GoesOn}
use Rattle.fing_lexer.proofs.lexer.tokens.Given as goal

abbrev pub invariant-scan : goal.invariant-scan
invariant-scan l = record { within : l.at ≤ length l.bytes; shallow : total l.nest ≤ 1000; on : GoesOn l.bytes l.at l.nest l.found.items }

abbrev pub decreases-scan : goal.decreases-scan
decreases-scan l = length l.bytes - l.at
