use Rattle.std.proofs.Common.{◌≡◌, [], take, map}
use Rattle.unit_judgments.specs.Interfaces.{env_of}
use Rattle.unit_judgments.specs.Link.{interface_of, names_after}
use Rattle.fing_units.specs.Inner.Units.{units_of}
use Rattle.fing_units.proofs.linking.end_of.Given as goal

abbrev pub invariant-loop-unit : goal.invariant-loop-unit
invariant-loop-unit l = (l.env ≡ env_of (map interface_of (units_of (take l.unit-index l.units)))) × (l.names ≡ names_after [] (units_of (take l.unit-index l.units)))
