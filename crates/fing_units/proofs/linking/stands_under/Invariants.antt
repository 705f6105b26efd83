use Rattle.std.proofs.Common.{◌≡◌, ◌↔◌, drop, map}
use Rattle.unit_judgments.specs.Link.{interface_of}
use Rattle.fing_units.specs.Inner.Units.{units_of}
use Rattle.fing_units.proofs.linking.stands_under.Given as goal

abbrev pub invariant-loop-i : goal.invariant-loop-i
invariant-loop-i l = l.items ≡ map interface_of (units_of l.before) ↔ drop l.i l.items ≡ map interface_of (units_of (drop l.i l.before))
