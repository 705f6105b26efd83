-- Numbers of the command line.
use Rattle.std.specs.Prelude.{◌≡◌, ℕ, ◌≤◌, List, length}
use Rattle.std.specs.Str.Parse.{IsNumeral, digits_value}

-- the text is one to eight ASCII digits that write the value
abbrev pub IsNumber : List ℕ → ℕ → Type 0
IsNumber text value = IsNumeral 10 text × (length text ≤ 8) × (value ≡ digits_value 10 text)

-- a number from `least` to `most`
abbrev pub IsNumberFrom : ℕ → ℕ → List ℕ → ℕ → Type 0
IsNumberFrom least most text value = IsNumber text value × (least ≤ value) × (value ≤ most)
