-- What units stand for: the module phrase of one, which is its body sealed by its signature, as the derived form of `M :> S`,
-- and the program of a list of them, one binding for each (Rossberg, Russo, Dreyer, F-ing modules, section 2; units are own).
use Rattle.std.specs.Prelude.{List, [], ◌∷◌, codes}
use Rattle.omega_kinds.specs.Name.{Name}
use Rattle.fing_syntax.specs.Phrase.{Span, Spelled, Mod, ModAt, ModStruct, ModProject, ModSeal, Bind, BindAt, BindModule, Binds, NoBinds, MoreBinds, SigEx}
use Rattle.fing_syntax.specs.Place.{name_of}
use Rattle.fing_syntax.specs.Units.{UnitTree, UnitAt}

abbrev pub unit_name : UnitTree → Name
unit_name (UnitAt at x s m) = name_of x

-- the hidden names of a sealed module and of the module that comes out, which no source can spell
abbrev pub sealing_name : Name
sealing_name = codes "%1"

abbrev pub unit_result : Name
unit_result = codes "%0"

-- `%1 :> S`
abbrev pub unit_sealing : Span → SigEx → Mod
unit_sealing at s = ModAt at (ModSeal (Spelled sealing_name at) s)

-- `M :> S` as its derived form, `(struct module %1 = M module %0 = %1 :> S end).%0`; made phrases have the place `at`
abbrev pub sealed : Span → Mod → SigEx → Mod
sealed at m s =
    ModAt at (ModProject (ModAt at (ModStruct (MoreBinds (BindAt at (BindModule (Spelled sealing_name at) m))
    (MoreBinds (BindAt at (BindModule (Spelled unit_result at) (unit_sealing at s))) NoBinds)))) (Spelled unit_result at))

-- the module phrase that the unit stands for
abbrev pub unit_mod : UnitTree → Mod
unit_mod (UnitAt at x s m) = sealed at m s

abbrev pub unit_bind : UnitTree → Bind
unit_bind (UnitAt at x s m) = BindAt at (BindModule x (sealed at m s))

-- the program of units, in order
abbrev pub program_of : List UnitTree → Binds
program_of [] = NoBinds
program_of (u ∷ us) = MoreBinds (unit_bind u) (program_of us)
