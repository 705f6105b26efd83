use Rattle.std.proofs.Common.{◌≡◌, ◌<◌, ◌^◌, drop}
use Rattle.fing_lexer.specs.Lexeme.{value_behind}
use Rattle.fing_lexer.proofs.bytes.digits.Given as goal

abbrev pub invariant-loop-byte : goal.invariant-loop-byte
invariant-loop-byte l = record { value : value_behind l.value (drop l.byte-index l.bytes) ≡ value_behind 0 l.bytes; fits : l.value < 2 ^ 63 }
