use Rattle.std.proofs.Common.{◌≡◌, [], take, map}
use Rattle.unit_judgments.specs.Interfaces.{env_of}
use Rattle.unit_judgments.specs.Link.{interface_of}
use Rattle.unit_laws.specs.Derived.{UnitsMean}
use Rattle.fing_units.specs.Inner.Units.{units_of}
use Rattle.fing_top.proofs.linking.elaborated.Given as goal

-- the units so far are elaborated, each under the interfaces of those before it, which give the environment
abbrev pub invariant-loop-unit : goal.invariant-loop-unit
invariant-loop-unit l = UnitsMean [] (take l.unit-index l.units) (units_of l.made.items) × (l.under ≡ map interface_of (units_of l.made.items)) × (l.env ≡ env_of l.under)
