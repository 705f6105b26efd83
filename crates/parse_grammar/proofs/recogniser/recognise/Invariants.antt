use Rattle.std.proofs.Common.{length}
use Rattle.parse_grammar.specs.Reading.{need}
use Rattle.parse_grammar.specs.Inner.Steps.{moves, wanted}
use Rattle.parse_grammar.specs.Inner.View.{class_in}
use Rattle.parse_grammar.proofs.Moves.{Reached}
use Rattle.parse_grammar.proofs.recogniser.recognise.Given as goal

abbrev pub invariant-read : goal.invariant-read
invariant-read l = Reached (class_in l.fn.start) l.tokens l.rest (wanted l.stack.items) (moves l.steps.items)

abbrev pub decreases-read : goal.decreases-read
decreases-read l = need (wanted l.stack.items) (length l.rest)
