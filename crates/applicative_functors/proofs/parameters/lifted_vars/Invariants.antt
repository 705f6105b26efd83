use Rattle.std.proofs.Common.{◌≡◌, ◌++◌, map, drop, length, IfSome}
use Rattle.omega_kinds.specs.View.{kind_tree}
use Rattle.applicative_functors.specs.Inner.Lifted.{IsLifted}
use Rattle.applicative_functors.specs.Inner.LiftedVars.{lifted_vars}
use Rattle.applicative_functors.proofs.parameters.lifted_vars.Given as goal

abbrev pub invariant-loop-kind : goal.invariant-loop-kind
invariant-loop-kind l =
    (l.inner ≡ length (drop l.kind-index l.kind-items)) × (l.types ++ lifted_vars l.kinds (map kind_tree (drop l.kind-index l.kind-items)) ≡ lifted_vars l.kinds l.hidden) × IfSome l.before (IsLifted l.kinds)
