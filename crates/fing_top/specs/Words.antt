-- Command lines, and which of them read the source.
use Rattle.std.specs.Prelude.{◌≡◌, ℕ, ◌≤◌, List}
use Rattle.fing_words.specs.CommandLines.{IsCommandLine}
use Rattle.fing_words.specs.declared.command_line.CommandLine.{CommandLine}
use Rattle.fing_words.specs.declared.command_line.CommandLine.TheVariants as command

-- the words are a command line
abbrev pub IsLine : List (List ℕ) → Type 0
IsLine words = (c : CommandLine) × IsCommandLine words c

-- all commands but `gen` read the source
abbrev pub ReadsSource : CommandLine → Type 0
ReadsSource (command.Gen size) = ⊥
ReadsSource _ = Unit {0}

-- the words are the command line of a command that reads the source
abbrev pub IsReadingLine : List (List ℕ) → Type 0
IsReadingLine words = (c : CommandLine) × IsCommandLine words c × ReadsSource c

-- a generated program has a size up to 300
abbrev pub IsSized : CommandLine → Type 0
IsSized c = (size : ℕ) → c ≡ command.Gen size → size ≤ 300
