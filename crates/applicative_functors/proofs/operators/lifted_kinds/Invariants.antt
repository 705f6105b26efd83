use Rattle.std.proofs.Common.{◌≡◌, map, take}
use Rattle.omega_kinds.specs.View.{kind_tree}
use Rattle.sig_definitions.specs.Lifting.{lifted_kinds}
use Rattle.applicative_functors.proofs.operators.lifted_kinds.Given as goal

abbrev pub invariant-loop-kind : goal.invariant-loop-kind
invariant-loop-kind l = l.lifted ≡ lifted_kinds l.kinds (map kind_tree (take l.kind-index l.kind-items))
