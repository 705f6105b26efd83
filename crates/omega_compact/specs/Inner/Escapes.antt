-- What a byte of a quoted text does, behind a backslash that escapes it or not.
use Rattle.std.specs.Prelude.{ℕ, Bool, not, ◌&&◌, ◌==◌}

abbrev pub ends : (escaped : Bool) → ℕ → Bool
ends escaped b = not escaped && b == 34

abbrev pub escapes : (escaped : Bool) → ℕ → Bool
escapes escaped b = not escaped && b == 92
