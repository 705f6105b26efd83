-- What a reader of the code gives: what the reader on lists gives, unless memory ran out.
use Rattle.std.specs.Prelude.{◌≡◌, List, ℕ, Option, Some, None, Result, Ok, Err}
use Rattle.omega_read.specs.declared.left.Stop.{Stop}
use Rattle.omega_read.specs.declared.left.Stop.TheVariants.{Mem, NotOmega}

abbrev pub Stops : {Y : Type 0} → Stop → Option Y → Type 0
Stops Mem read = Unit {0}
Stops NotOmega read = read ≡ None

-- a reading of a prefix of the bytes, and what is left behind it
abbrev pub Gives : {X Y : Type 0} → (X → Y) → Result X Stop → List ℕ → Option (Y × List ℕ) → Type 0
Gives view (Ok x) rest read = read ≡ Some (view x, rest)
Gives view (Err e) rest read = Stops e read

-- a reading of all the bytes
abbrev pub GivesAll : {X Y : Type 0} → (X → Y) → Result X Stop → Option Y → Type 0
GivesAll view (Ok x) read = read ≡ Some (view x)
GivesAll view (Err e) read = Stops e read
