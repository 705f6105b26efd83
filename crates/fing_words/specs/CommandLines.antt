-- Which words are which command line.
use Rattle.std.specs.Prelude.{◌≡◌, ℕ, Bool, List, Option, Some, None, codes, true, false}
use Rattle.clap.specs.Walk.{Row, Text, first_of}
use Rattle.clap.specs.Simple.{matches_of}
use Rattle.clap.specs.Takes.{takes}
use Rattle.fing_words.specs.Numbers.{IsNumberFrom}
use Rattle.fing_words.specs.SimpleCommand.{simple_command}
use Rattle.fing_words.specs.declared.command_line.CommandLine.{CommandLine}
use Rattle.fing_words.specs.declared.command_line.CommandLine.TheVariants.{Check, Emit, Run, Verify, Gen, Link}

-- the steps of `run`: 1,000,000 where no budget is given, or the given number from 0 to 10,000,000
abbrev pub IsBudget : Option Text → ℕ → Type 0
IsBudget None steps = steps ≡ 1000000
IsBudget (Some text) steps = IsNumberFrom 0 10000000 text steps

-- the size of the generated program: the given number, from 1 to 300
abbrev pub IsSize : Option Text → ℕ → Type 0
IsSize None size = ⊥
IsSize (Some text) size = IsNumberFrom 1 300 text size

-- whether a flag with this value is given
abbrev pub IsFlag : Text → Bool → Type 0
IsFlag value true = value ≡ codes "true"
IsFlag value false = value ≡ codes "false"

-- the table of commands, one row for each: the values of `command`, `n`, `--budget` and `--simplify`, and the command line
abbrev pub Table : Text → Option Text → Option Text → Text → CommandLine → Type 0
Table command n budget simplify Check = (command ≡ codes "check") × (n ≡ None) × (budget ≡ None) × IsFlag simplify false
Table command n budget simplify (Emit simple) = (command ≡ codes "emit") × (n ≡ None) × (budget ≡ None) × IsFlag simplify simple
Table command n budget simplify (Run steps) = (command ≡ codes "run") × (n ≡ None) × IsBudget budget steps × IsFlag simplify false
Table command n budget simplify Verify = (command ≡ codes "verify") × (n ≡ None) × (budget ≡ None) × IsFlag simplify false
Table command n budget simplify (Gen size) = (command ≡ codes "gen") × IsSize n size × (budget ≡ None) × IsFlag simplify false
Table command n budget simplify Link = (command ≡ codes "link") × (n ≡ None) × (budget ≡ None) × IsFlag simplify false

-- the row of these values, or no row has them
abbrev pub IsRow : Text → Option Text → Option Text → Text → Option CommandLine → Type 0
IsRow command n budget simplify None = (line : CommandLine) → Table command n budget simplify line → ⊥
IsRow command n budget simplify (Some line) = Table command n budget simplify line

-- the values that a parse found are those of a row of the table
pub record IsLineOf (found : List Row) (line : CommandLine) : Type 0 where
  pub command : Text
  pub given : first_of (codes "command") found ≡ Some command
  pub simplify : Text
  pub flagged : first_of (codes "simplify") found ≡ Some simplify
  pub row : Table command (first_of (codes "n") found) (first_of (codes "budget") found) simplify line

-- the command line of the values that a parse found, or they are those of none
abbrev pub IsFound : List Row → Option CommandLine → Type 0
IsFound found None = (line : CommandLine) → IsLineOf found line → ⊥
IsFound found (Some line) = IsLineOf found line

-- the simple command takes the words, and the values that it finds in them are those of the command line
pub record IsCommandLine (words : List Text) (line : CommandLine) : Type 0 where
  pub taken : takes simple_command words ≡ true
  pub found : IsLineOf (matches_of simple_command words) line

-- the words are this command line, or none
abbrev pub ReadsAs : List Text → Option CommandLine → Type 0
ReadsAs words None = (line : CommandLine) → IsCommandLine words line → ⊥
ReadsAs words (Some line) = IsCommandLine words line

-- words are at most one command line
abbrev pub OneLine : Type 0
OneLine = (words : List Text) (one other : CommandLine) → IsCommandLine words one → IsCommandLine words other → one ≡ other
