-- Why bytes are refused: the first of four tests that holds, in this order.
use Rattle.std.specs.Prelude.{◌≡◌, ℕ, List, true, false}
use Rattle.omega_spelling.specs.Refusals.{is_version, is_too_deep, has_wide, zeroed}
use Rattle.omega_spelling.specs.Omega.{IsOmega}

pub data Refused : Type 0 where
  IsVersion IsTooDeep IsWide IsNotOmega : Refused

-- with each number replaced by 0 the bytes are a text, and some number is outside signed 64 bits
abbrev pub HasWide : List ℕ → Type 0
HasWide bytes = IsOmega (zeroed bytes) × (has_wide bytes ≡ true)

abbrev pub Refuses : List ℕ → Refused → Type 0
Refuses bytes IsVersion = is_version bytes ≡ true
Refuses bytes IsTooDeep = (is_version bytes ≡ false) × (is_too_deep bytes ≡ true)
Refuses bytes IsWide = (is_version bytes ≡ false) × (is_too_deep bytes ≡ false) × HasWide bytes
Refuses bytes IsNotOmega = (is_version bytes ≡ false) × (is_too_deep bytes ≡ false) × (HasWide bytes → ⊥) × (IsOmega bytes → ⊥)
