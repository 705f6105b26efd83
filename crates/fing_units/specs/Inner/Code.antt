-- The code of a list of interfaces.
use Rattle.std.specs.Prelude.{List}
use Rattle.std.specs.Coded.{Coded, coded_list, coded×, coded_ℕ}
use Rattle.unit_judgments.specs.Interfaces.{Interface}
use Rattle.semantic_sigs.specs.Inner.Code.{abs_code}

abbrev pub interfaces_code : Coded (List Interface)
interfaces_code = coded_list (coded× (coded_list coded_ℕ) abs_code)
