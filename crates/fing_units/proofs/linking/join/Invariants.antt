use Rattle.std.proofs.Common.{vec_len}
use Rattle.fing_units.specs.Inner.Units.{units_of}
use Rattle.fing_units.proofs.Linked.{LinkedRest}
use Rattle.fing_units.proofs.linking.join.Given as goal

abbrev pub invariant-loop-unit : goal.invariant-loop-unit
invariant-loop-unit l = LinkedRest (units_of l.fn.units.items) l.left.items l.rest

abbrev pub decreases-loop-unit : goal.decreases-loop-unit
decreases-loop-unit l = vec_len l.left
