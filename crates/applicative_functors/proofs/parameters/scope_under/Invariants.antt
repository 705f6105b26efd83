use Rattle.std.proofs.Common.{◌≡◌, [], ◌∷◌, map, take}
use Rattle.omega_kinds.specs.View.{kind_tree}
use Rattle.omega_types.specs.Inner.Scope.{scope_of}
use Rattle.omega_types.specs.Binders.{extend}
use Rattle.applicative_functors.proofs.parameters.scope_under.Given as goal

abbrev pub invariant-loop-kind : goal.invariant-loop-kind
invariant-loop-kind l =
    scope_of l.scope.items ≡ extend (kind_tree l.fn.outermost ∷ []) (map kind_tree (take l.kind-index l.kind-items))
