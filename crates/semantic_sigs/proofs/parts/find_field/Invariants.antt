use Rattle.std.proofs.Common.{◌-◌}
use Rattle.semantic_sigs.proofs.Halving.{Sought}
use Rattle.semantic_sigs.proofs.parts.find_field.Given as goal

abbrev pub invariant-loop-low : goal.invariant-loop-low
invariant-loop-low l = Sought l.items l.name l.low l.high

abbrev pub decreases-loop-low : goal.decreases-loop-low
decreases-loop-low l = l.high - l.low
