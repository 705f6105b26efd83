use Rattle.std.proofs.Common.{◌≡◌, ◌++◌, map, take}
use Rattle.omega_kinds.specs.View.{kind_tree}
use Rattle.module_rests.proofs.gathering.hide.Given as goal

abbrev pub invariant-loop-kind : goal.invariant-loop-kind
invariant-loop-kind l = l.kinds ≡ l.initial.kinds ++ map kind_tree (take l.kind-index l.kind-items)
