use Rattle.std.proofs.Common.{◌≡◌, ◌≤◌, ◌-◌, length}
use Rattle.omega_types.proofs.BinderLaws.{spread}
use Rattle.applicative_functors.proofs.parameters.all_applied.Given as goal

abbrev pub invariant-loop-left : goal.invariant-loop-left
invariant-loop-left l =
    (l.left ≤ length l.kinds) × (l.ty ≡ spread (length l.kinds) l.left (length l.kinds - l.left))

abbrev pub decreases-loop-left : goal.decreases-loop-left
decreases-loop-left l = l.left
