use Rattle.std.proofs.Common.{◌≡◌, None, map, take}
use Rattle.omega_kinds.specs.View.{kind_tree}
use Rattle.sig_roots.proofs.walk.Walk.new.Given as goal

abbrev pub invariant-loop-kind : goal.invariant-loop-kind
invariant-loop-kind l = l.found.items ≡ map (λ k. None) (map kind_tree (take l._kind-index l._kind-items))
