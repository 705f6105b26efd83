-- Fields that were read, before those that are still to come.
use Rattle.std.specs.Prelude.{List, [], ◌∷◌, ℕ, Option, Some, None}
use Rattle.omega_kinds.specs.declared.label.Label.{Label}
use Rattle.omega_spelling.specs.Reading.{◌>>=◌}

abbrev pub last_of : {T : Type 0} → List (Label × T) → Option Label
last_of [] = None
last_of (x ∷ []) = Some x.0
last_of (x ∷ y ∷ xs) = last_of (y ∷ xs)

-- more puts a field in front of a row
abbrev pub onto : {T R : Type 0} → (Label → T → R → R) → List (Label × T) → R → R
onto more [] r = r
onto more (x ∷ xs) r = more x.0 x.1 (onto more xs r)

abbrev pub with_front : {T R : Type 0} → (Label → T → R → R) → List (Label × T) → Option (R × List ℕ) → Option (R × List ℕ)
with_front more xs read = read >>= λ z. Some (onto more xs z.0, z.1)
