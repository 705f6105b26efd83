-- What the call returns for words and a source, and what it writes to a page with so much room.
use Rattle.std.specs.Prelude.{◌≡◌, ℕ, ◌<◌, ◌≤◌, List, [], ◌++◌, length}
use Rattle.std.specs.Str.{IsUtf8}
use Rattle.std.specs.Str.Lines.{lines}
use Rattle.fing_gen.specs.Source.{source_text}
use Rattle.fing_words.specs.CommandLines.{IsCommandLine}
use Rattle.fing_words.specs.declared.command_line.CommandLine.{CommandLine}
use Rattle.fing_words.specs.declared.command_line.CommandLine.TheVariants as command
use Rattle.fing_top.specs.Answer.{limit}
use Rattle.fing_top.specs.Exit.{exit_number}
use Rattle.fing_top.specs.Reply.{Reply, IsOnlyReply}
use Rattle.fing_top.specs.Words.{IsLine, IsReadingLine}
use Rattle.fing_top.specs.declared.status.Status.{Status}
use Rattle.fing_top.specs.declared.status.Status.TheVariants as status

-- the status is that of the one reply to the bytes, which was written whole
pub record IsWhole (c : CommandLine) (bytes written : List ℕ) (answer : Status) : Type 0 where
  pub reply : Reply
  pub one : IsOnlyReply c bytes reply
  pub status : answer ≡ reply.status
  pub text : written ≡ reply.text

-- the one reply to the bytes is longer than the room, which its prefix fills
pub record IsCut (c : CommandLine) (bytes : List ℕ) (room : ℕ) (written : List ℕ) : Type 0 where
  pub reply : Reply
  pub one : IsOnlyReply c bytes reply
  pub rest : List ℕ
  pub parts : reply.text ≡ written ++ rest
  pub left : 0 < length rest
  pub full : length written ≡ room

-- what is answered and written for all the bytes that a command answers for
abbrev pub Replied : CommandLine → (bytes : List ℕ) → (room : ℕ) → (written : List ℕ) → Status → Type 0
Replied c bytes room written status.Ok = IsWhole c bytes written status.Ok
Replied c bytes room written status.Refused = IsWhole c bytes written status.Refused
Replied c bytes room written status.Faulted = IsWhole c bytes written status.Faulted
Replied c bytes room written status.Spent = IsWhole c bytes written status.Spent
Replied c bytes room written status.WriteFault = IsCut c bytes room written
Replied c bytes room written status.NoMemory = written ≡ []
Replied c bytes room written _ = ⊥

-- the bytes that a command answers for: the source, within the limit; or, for `gen`, the generated program
abbrev pub IsGiven : CommandLine → (source bytes : List ℕ) → Type 0
IsGiven (command.Gen size) source bytes = bytes ≡ source_text size
IsGiven _ source bytes = (bytes ≡ source) × (length source ≤ limit)

-- the words are a command line, and this was answered and written for its bytes
pub record IsReplied (words : List (List ℕ)) (source : List ℕ) (room : ℕ) (written : List ℕ) (answer : Status) : Type 0 where
  pub command : CommandLine
  pub line : IsCommandLine words command
  pub bytes : List ℕ
  pub given : IsGiven command source bytes
  pub replied : Replied command bytes room written answer

-- the cause of each answer, and what is written with it
abbrev pub Returns : (words : List (List ℕ)) → (source : List ℕ) → (room : ℕ) → (written : List ℕ) → Status → Type 0
Returns words source room written status.Words = (IsLine words → ⊥) × (written ≡ [])
Returns words source room written status.ReadFault = ⊥
Returns words source room written status.NoMemory = written ≡ []
Returns words source room written status.TooLong = IsReadingLine words × (limit < length source) × (written ≡ [])
Returns words source room written answer = IsReplied words source room written answer

-- the same for words that are the lines of a string, and the number of the answer; bytes that are no UTF-8 are no command line
pub data ReturnsNumber (text source : List ℕ) (room : ℕ) (written : List ℕ) : ℕ → Type 0 where
  answered : (answer : Status) → IsUtf8 text → Returns (lines text) source room written answer → ReturnsNumber text source room written (exit_number answer)
  not_utf8 : (IsUtf8 text → ⊥) → written ≡ [] → ReturnsNumber text source room written (exit_number status.Words)
