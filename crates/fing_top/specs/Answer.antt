-- What the top call answers, by what it read, wrote and confirmed.
use Rattle.std.specs.Prelude.{◌≡◌, ◌⊎◌, ℕ, ◌+◌, ◌≤◌, List, length, Option, Some, None}
use Rattle.fing_text.specs.Told.{Told, Rose}
use Rattle.fing_text.specs.Reads.{BrokeOff, ReadAll, TookMore, TookSome}
use Rattle.fing_text.specs.Writes.{Grew, Broke}
use Rattle.omega_checker.specs.Judgment.{Judgment}
use Rattle.fing_text.specs.declared.reading.ReadEnd.{ReadEnd}
use Rattle.fing_text.specs.declared.reading.ReadEnd.TheVariants as end
use Rattle.fing_gen.specs.Source.{source_text}
use Rattle.fing_words.specs.CommandLines.{IsCommandLine}
use Rattle.fing_words.specs.declared.command_line.CommandLine.{CommandLine}
use Rattle.fing_words.specs.declared.command_line.CommandLine.TheVariants as command
use Rattle.fing_top.specs.declared.status.Status.{Status}
use Rattle.fing_top.specs.declared.status.Status.TheVariants as status
use Rattle.fing_top.specs.Words.{IsLine, IsReadingLine, ReadsSource}
use Rattle.fing_top.specs.Reply.{Reply, Replies, IsOnlyReply}

-- the most bytes that a source has
abbrev pub limit : ℕ
limit = 1048576

-- a value before the call and after it
pub record Change (A : Type 0) : Type 0 where
  pub old : A
  pub new : A

abbrev pub change : {A : Type 0} → (old new : A) → Change A
change x y = record { old = x; new = y }

abbrev pub Stands : {A : Type 0} → Change A → Type 0
Stands c = c.new ≡ c.old

-- what a call leaves behind: what the sink tells, and the term and type that the checker confirmed
pub record Output : Type 0 where
  pub sink : Change Told
  pub confirmed : Change (Option Judgment)

abbrev pub output : Change Told → Change (Option Judgment) → Output
output s c = record { sink = s; confirmed = c }

-- nothing was written, and what was confirmed stands
abbrev pub Untouched : Output → Type 0
Untouched out = Stands out.sink × Stands out.confirmed

-- what the reply confirms is handed out; where it confirms nothing, what was confirmed stands
abbrev pub Confirms : Change (Option Judgment) → Option Judgment → Type 0
Confirms c None = Stands c
Confirms c (Some j) = c.new ≡ Some j

-- the reply to the bytes was written whole
pub record IsWritten (c : CommandLine) (bytes : List ℕ) (out : Output) (answer : Status) : Type 0 where
  pub reply : Reply
  pub replies : Replies c bytes reply
  pub status : answer ≡ reply.status
  pub written : Grew out.sink.old out.sink.new reply.text
  pub confirmed : Confirms out.confirmed reply.confirmed

-- the sink failed, and a prefix of the reply to the bytes was written
pub record IsBroken (c : CommandLine) (bytes : List ℕ) (out : Output) : Type 0 where
  pub reply : Reply
  pub replies : Replies c bytes reply
  pub written : Broke out.sink.old out.sink.new reply.text
  pub confirmed : Confirms out.confirmed reply.confirmed

-- what is answered, written and confirmed for all the bytes of a source
abbrev pub AnswersBytes : CommandLine → List ℕ → Output → Status → Type 0
AnswersBytes c bytes out status.Ok = IsWritten c bytes out status.Ok
AnswersBytes c bytes out status.Refused = IsWritten c bytes out status.Refused
AnswersBytes c bytes out status.Faulted = IsWritten c bytes out status.Faulted
AnswersBytes c bytes out status.Spent = IsWritten c bytes out status.Spent
AnswersBytes c bytes out status.WriteFault = IsBroken c bytes out
AnswersBytes c bytes out status.NoMemory = Untouched out
AnswersBytes c bytes out _ = ⊥

-- the bytes that a command answers for: all that the source had left; or, for `gen`, the generated program, and the source stands
abbrev pub Takes : CommandLine → (source : Change Told) → List ℕ → Type 0
Takes (command.Gen size) source bytes = (bytes ≡ source_text size) × Stands source
Takes _ source bytes = ReadAll source.old source.new limit bytes

-- `gen` leaves the source as it was
abbrev pub Spares : CommandLine → (source : Change Told) → Type 0
Spares c source = (size : ℕ) → c ≡ command.Gen size → Stands source

-- why a command has no bytes to answer for
abbrev pub Lacks : CommandLine → (source : Change Told) → ReadEnd → Type 0
Lacks c source end.ReadFault = ReadsSource c × BrokeOff source.old source.new limit
Lacks c source end.TooLong = ReadsSource c × TookMore source.old source.new limit
Lacks c source end.Mem = Spares c source × TookSome source.old source.new (limit + 1)

-- the words are a command line, and its bytes were taken and answered so
pub record IsReplied (words : List (List ℕ)) (source : Change Told) (out : Output) (answer : Status) : Type 0 where
  pub command : CommandLine
  pub line : IsCommandLine words command
  pub bytes : List ℕ
  pub taken : Takes command source bytes
  pub answered : AnswersBytes command bytes out answer

-- the cause of each answer
abbrev pub Answers : List (List ℕ) → (source : Change Told) → Output → Status → Type 0
Answers words source out status.Ok = IsReplied words source out status.Ok
Answers words source out status.Refused = IsReplied words source out status.Refused
Answers words source out status.Words = (IsLine words → ⊥) × Stands source × Untouched out
Answers words source out status.Faulted = IsReplied words source out status.Faulted
Answers words source out status.Spent = IsReplied words source out status.Spent
Answers words source out status.ReadFault = IsReadingLine words × BrokeOff source.old source.new limit × Untouched out
Answers words source out status.WriteFault = IsReplied words source out status.WriteFault
Answers words source out status.NoMemory = Untouched out × ((IsReadingLine words → ⊥) → Stands source) × TookSome source.old source.new (limit + 1)
Answers words source out status.TooLong = IsReadingLine words × TookMore source.old source.new limit × Untouched out

-- the answer is the status of the one reply to the bytes, its text was written whole, and what it confirms was handed out
pub record IsAnswered (c : CommandLine) (bytes : List ℕ) (out : Output) (answer : Status) : Type 0 where
  pub reply : Reply
  pub one : IsOnlyReply c bytes reply
  pub status : answer ≡ reply.status
  pub written : Grew out.sink.old out.sink.new reply.text
  pub confirmed : Confirms out.confirmed reply.confirmed

-- the bytes that a command is handed: those of a source that tells them, within the limit, where its count does not rise;
-- or, for `gen`, the generated program, whatever the source is
abbrev pub IsHanded : CommandLine → (source : Change Told) → List ℕ → Type 0
IsHanded (command.Gen size) source bytes = bytes ≡ source_text size
IsHanded _ source bytes = (source.old.bytes ≡ Some bytes) × (length bytes ≤ limit) × (Rose source.old.faults source.new.faults → ⊥)

-- where the words are a command line that is handed bytes, and no write fails, these bytes are answered, or there was no
-- memory and nothing was written
abbrev pub Completes : List (List ℕ) → (source : Change Told) → Output → Status → Type 0
Completes words source out answer =
    (c : CommandLine) (bytes : List ℕ) → IsCommandLine words c → IsHanded c source bytes → (Rose out.sink.old.faults out.sink.new.faults → ⊥)
    → IsAnswered c bytes out answer ⊎ (answer ≡ status.NoMemory) × Untouched out
