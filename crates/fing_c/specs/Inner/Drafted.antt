-- The beginning of a reply, in memory.
use Rattle.std.specs.Prelude.{ℕ, List, ◌∷◌, Some}
use Rattle.fing_text.specs.Told.{Told}

-- what was written, the room as a whole, and the count of faults
pub record Drafted : Type 0 where
  pub written : List ℕ
  pub room : ℕ
  pub faults : ℕ

-- The room comes first, as if it had been written before all else: so no write changes it, and who wrote to the draft
-- knows that it still has the room that it had.
abbrev pub draft_told : Drafted → Told
draft_told d = record { bytes = Some (d.room ∷ d.written); faults = d.faults }
