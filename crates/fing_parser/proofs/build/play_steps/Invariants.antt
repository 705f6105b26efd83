use Rattle.std.proofs.Common.{◌≡◌, [], length}
use Rattle.parse_grammar.specs.Inner.Steps.{moves}
use Rattle.parse_stack.specs.Inner.Part.{held}
use Rattle.parse_stack.specs.Inner.Play.{play_all}
use Rattle.fing_parser.proofs.build.play_steps.Given as goal

abbrev pub invariant-play : goal.invariant-play
invariant-play l = play_all (moves l.left.items) (held l.stack) ≡ play_all (moves l.fn.steps.items) []

abbrev pub decreases-play : goal.decreases-play
decreases-play l = length l.left.items
