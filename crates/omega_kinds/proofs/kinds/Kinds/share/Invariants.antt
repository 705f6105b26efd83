use Rattle.std.proofs.Common.{◌≡◌, map, take}
use Rattle.omega_kinds.specs.View.{kind_tree}
use Rattle.omega_kinds.proofs.kinds.Kinds.share.Given as goal

abbrev pub invariant-loop-kind : goal.invariant-loop-kind
invariant-loop-kind l = l.copy ≡ map kind_tree (take l.kind-index l.kind-items)
