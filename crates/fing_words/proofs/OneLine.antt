-- Words are at most one command line.
-- Main results: one_line.
use Rattle.std.proofs.Common.{◌≡◌, List, rules}
use Rattle.clap.specs.Walk.{Text}
use Rattle.fing_words.specs.CommandLines.{IsCommandLine}
use Rattle.fing_words.specs.declared.command_line.CommandLine.{CommandLine}

-- words are at most one command line
pub one_line : (words : List Text) (one other : CommandLine) → IsCommandLine words one → IsCommandLine words other → one ≡ other
one_line words one other p q = search rules
