use Rattle.std.proofs.Common.{◌≡◌, map, take}
use Rattle.omega_kinds.specs.View.{kind_tree}
use Rattle.omega_types.proofs.kinding.share_context.Given as goal

abbrev pub invariant-loop-kind : goal.invariant-loop-kind
invariant-loop-kind l = map kind_tree l.scope.items ≡ map kind_tree (take l.kind-index l.ctx)
