-- Sources and sinks over std's readers and writers.
use Rattle.std.specs.Prelude.{ℕ, ◌≤◌, List, length, take, Option, None, Result, MatchResult}
use Rattle.std.specs.Io.KnownBytes.{Appends}
use Rattle.fing_text.specs.Told.{Told}
use Rattle.fing_text.specs.declared.standard.StdSource.{StdSource}
use Rattle.fing_text.specs.declared.standard.StdSink.{StdSink}

abbrev pub source_reader : {R : Type 0} → StdSource R → R
source_reader s = s.reader

abbrev pub source_faults : {R : Type 0} → StdSource R → ℕ
source_faults s = s.faults

-- the bytes that the reader has left, where they are known
abbrev pub reader_told : {R : Type 0} → (R → Option (List ℕ)) → StdSource R → Told
reader_told remaining s = record { bytes = remaining s.reader; faults = s.faults }

abbrev pub sink_writer : {W : Type 0} → StdSink W → W
sink_writer s = s.writer

abbrev pub sink_faults : {W : Type 0} → StdSink W → ℕ
sink_faults s = s.faults

-- no bytes: where a flush fails, the writer took some
abbrev pub writer_told : {W : Type 0} → StdSink W → Told
writer_told s = record { bytes = None; faults = s.faults }

-- a writer took a prefix of a piece
pub record TookFront (old new : Option (List ℕ)) (piece : List ℕ) : Type 0 where
  pub count : ℕ
  pub within : count ≤ length piece
  pub taken : Appends old new (take count piece)

-- a writer took the first n bytes of a piece at Ok(n), and a prefix of it at an error
abbrev pub TakesFront : {E : Type 0} → Option (List ℕ) → Option (List ℕ) → List ℕ → Result ℕ E → Type 0
TakesFront old new piece r = MatchResult r (λ n. Appends old new (take n piece)) (λ _. TookFront old new piece)
