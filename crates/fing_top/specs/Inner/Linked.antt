-- A unit that the code elaborated under interfaces.
use Rattle.std.specs.Prelude.{◌≡◌, List}
use Rattle.semantic_sigs.specs.Inner.Made.{module_of}
use Rattle.fing_syntax.specs.Units.{UnitTree}
use Rattle.unit_judgments.specs.Interfaces.{Interface, env_of}
use Rattle.unit_laws.specs.Derived.{UnitMeans}
use Rattle.unit_laws.specs.Units.{unit_name}
use Rattle.fing_units.specs.declared.unit_module.UnitModule.{UnitModule}

-- it stands under these interfaces, has the unit's name, and is what the unit means there
pub record IsNext (under : List Interface) (u : UnitTree) (m : UnitModule) : Type 0 where
  pub stands : m.under ≡ under
  pub name : m.name ≡ unit_name u
  pub means : UnitMeans (env_of under) u (module_of m.module)
