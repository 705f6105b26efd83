use Rattle.std.proofs.Common.{◌≡◌, map}
use Rattle.omega_kinds.specs.View.{kind_tree}
use Rattle.omega_types.specs.Binders.{arrow_over}
use Rattle.applicative_functors.proofs.operators.arrow_over.Given as goal

abbrev pub invariant-loop-from : goal.invariant-loop-from
invariant-loop-from l =
    arrow_over (map kind_tree l.from-iterator.iter.rest.now) (kind_tree l.kind) ≡ arrow_over l.kinds (kind_tree l.fn.target)
