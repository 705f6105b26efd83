-- What is answered for bytes: exactly the type and the term whose text they are, or exactly the first refusal that holds.
use Rattle.std.specs.Prelude.{◌≡◌, List, ℕ, Result, Ok, Err, false}
use Rattle.omega_types.specs.Ty.{Ty}
use Rattle.omega_terms.specs.Term.{Term}
use Rattle.omega_spelling.specs.Omega.{OmegaText}
use Rattle.omega_spelling.specs.Refusals.{is_too_deep}
use Rattle.omega_spelling.specs.Refused.{IsVersion, IsTooDeep, IsWide, IsNotOmega, Refuses}
use Rattle.omega_read.specs.declared.whole.ReadRefusal.{ReadRefusal}
use Rattle.omega_read.specs.declared.whole.ReadRefusal.TheVariants.{NotOmega, Version, Wide, TooDeep, Mem}

-- out of memory may come for all bytes
abbrev pub RefusedAs : List ℕ → ReadRefusal → Type 0
RefusedAs bytes NotOmega = Refuses bytes IsNotOmega
RefusedAs bytes Version = Refuses bytes IsVersion
RefusedAs bytes Wide = Refuses bytes IsWide
RefusedAs bytes TooDeep = Refuses bytes IsTooDeep
RefusedAs bytes Mem = Unit {0}

abbrev pub ReadAs : List ℕ → Result (Ty × Term) ReadRefusal → Type 0
ReadAs bytes (Ok x) = (is_too_deep bytes ≡ false) × OmegaText bytes x.0 x.1
ReadAs bytes (Err e) = RefusedAs bytes e
