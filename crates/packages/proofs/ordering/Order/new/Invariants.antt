use Rattle.std.proofs.Common.{◌≡◌, map, take}
use Rattle.omega_kinds.specs.View.{kind_tree}
use Rattle.packages.specs.Inner.Turns.{untaken}
use Rattle.packages.proofs.ordering.Order.new.Given as goal

abbrev pub invariant-loop-kind : goal.invariant-loop-kind
invariant-loop-kind l = l.places.items ≡ untaken (map kind_tree (take l._kind-index l._kind-items))
