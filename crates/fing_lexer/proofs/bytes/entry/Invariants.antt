use Rattle.std.proofs.Common.{◌≡◌, length, map}
use Rattle.fing_lexer.specs.Lexeme as plain
use Rattle.fing_lexer.proofs.bytes.entry.Given as goal

abbrev pub invariant-loop-table : goal.invariant-loop-table
invariant-loop-table l = plain.entry (map (λ e. (e.0.now, e.1)) l.table) l.bytes ≡ plain.entry (map (λ e. (e.0.now, e.1)) l.initial.table) l.bytes

abbrev pub decreases-loop-table : goal.decreases-loop-table
decreases-loop-table l = length l.table
