-- What the code's units are seen as.
use Rattle.std.specs.Prelude.{List, map}
use Rattle.semantic_sigs.specs.Inner.Made.{module_of}
use Rattle.unit_judgments.specs.Link.{UnitModule, UnitUnder}
use Rattle.fing_units.specs.declared.unit_module.UnitModule.{UnitModule as CodeUnit}

abbrev pub unit_of : CodeUnit → UnitModule
unit_of u = UnitUnder u.under u.name (module_of u.module)

abbrev pub units_of : List CodeUnit → List UnitModule
units_of us = map unit_of us
