use Rattle.std.proofs.Common.{◌≡◌}
use Rattle.omega_shorthands.specs.Inner.Packed.{opened_times}
use Rattle.omega_shorthands.proofs.shorthands.opens_after.Given as goal

abbrev pub invariant-loop-left : goal.invariant-loop-left
invariant-loop-left l = opened_times l.left l.term ≡ opened_times l.count l.fn.body

abbrev pub decreases-loop-left : goal.decreases-loop-left
decreases-loop-left l = l.left
