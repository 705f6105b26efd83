use Rattle.std.proofs.Common.{◌≡◌, map}
use Rattle.omega_kinds.specs.View.{kind_tree}
use Rattle.omega_types.specs.Binders.{lam_over}
use Rattle.applicative_functors.proofs.operators.lam_over.Given as goal

abbrev pub invariant-loop-kind : goal.invariant-loop-kind
invariant-loop-kind l =
    lam_over (map kind_tree l.kind-iterator.iter.rest.now) l.ty ≡ lam_over l.kinds l.fn.body
