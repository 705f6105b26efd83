-- What the call returns for a view and a source, and what it writes to a page with so much room.
use Rattle.std.specs.Prelude.{◌≡◌, ℕ, ◌<◌, ◌≤◌, List, [], ◌++◌, length}
use Rattle.fing_show.specs.Inner.Judged.{Judges}
use Rattle.fing_show.specs.declared.showing.Verdict.{Verdict}
use Rattle.fing_show.specs.declared.showing.Verdict.TheVariants as verdict
use Rattle.fing_show_c.specs.declared.answering.Status.{Status}
use Rattle.fing_show_c.specs.declared.answering.Status.TheVariants as status

-- the most bytes that a source may have
abbrev pub limit : ℕ
limit = 1048576

-- the number of each status
abbrev pub exit_number : Status → ℕ
exit_number status.Accepted = 0
exit_number status.Refused = 1
exit_number status.NoView = 2
exit_number status.Cut = 6
exit_number status.NoMemory = 7
exit_number status.TooLong = 8

-- the status of a whole page, which is that of its verdict
abbrev pub page_status : Verdict → Status
page_status verdict.Accepted = status.Accepted
page_status (verdict.NoTokens _) = status.Refused
page_status (verdict.NoProgram at) = status.Refused
page_status (verdict.NoMeaning at) = status.Refused

-- the text of a page with this verdict is written whole; or it is longer than the room, which its beginning fills
pub data IsWritten (v : Verdict) (text : List ℕ) (room : ℕ) (written : List ℕ) : Status → Type 0 where
  whole : written ≡ text → IsWritten v text room written (page_status v)
  cut : (rest : List ℕ) → text ≡ written ++ rest → 0 < length rest → length written ≡ room → IsWritten v text room written status.Cut

-- the cause of each status, and what is written with it; the views have the numbers below 8
pub data Returns (view : ℕ) (source : List ℕ) (room : ℕ) (written : List ℕ) : Status → Type 0 where
  shown : {v : Verdict} {text : List ℕ} {s : Status} → view < 8 → length source ≤ limit → Judges source v → IsWritten v text room written s → Returns view source room written s
  no_view : 8 ≤ view → written ≡ [] → Returns view source room written status.NoView
  too_long : view < 8 → limit < length source → written ≡ [] → Returns view source room written status.TooLong
  no_memory : view < 8 → length source ≤ limit → written ≡ [] → Returns view source room written status.NoMemory

-- the same for the number of the status
pub data ReturnsNumber (view : ℕ) (source : List ℕ) (room : ℕ) (written : List ℕ) : ℕ → Type 0 where
  returned : (s : Status) → Returns view source room written s → ReturnsNumber view source room written (exit_number s)
