-- Rows of the table, and the values that a parse found.
-- Main results: found_row, parsed, untaken.
use Rattle.std.proofs.Common.{◌≡◌, ◌∙◌, Bool, List, [], Option, Some, None, sym, ap, subst, codes, true, false}
use Rattle.clap.specs.Walk.{Row, Text, first_of, rows_of}
use Rattle.clap.specs.Matches.{found_of}
use Rattle.clap.specs.Simple.{App, HasMatchesOf, is_simple, matches_of}
use Rattle.clap.specs.Takes.{takes}
use Rattle.clap.specs.Faults.{fault_of, is_simple_and_free}
use Rattle.clap.specs.declared.parser.matches.ArgMatches.{ArgMatches}
use Rattle.fing_words.specs.SimpleCommand.{simple_command}
use Rattle.fing_words.specs.CommandLines.{IsCommandLine, IsFlag, IsFound, IsRow, ReadsAs, Table}
use Rattle.fing_words.specs.declared.command_line.CommandLine.{CommandLine}
use Rattle.fing_words.specs.declared.command_line.CommandLine.TheVariants.{Check, Emit, Run, Verify, Gen, Link}
use Rattle.fing_words.proofs.NoFault.{taken}

-- where no command is given, no line is found
pub none_given : (rows : List Row) (found : Option CommandLine) → found ≡ None → first_of (codes "command") rows ≡ None → IsFound rows found
none_given rows found none missing =
    subst (IsFound rows) (sym none) (λ l is. let bad : Some is.command ≡ None = sym is.given ∙ missing in cc)

-- where no value of the flag is given, no line is found
pub none_flagged : (rows : List Row) (found : Option CommandLine) → found ≡ None → first_of (codes "simplify") rows ≡ None → IsFound rows found
none_flagged rows found none missing =
    subst (IsFound rows) (sym none) (λ l is. let bad : Some is.simplify ≡ None = sym is.flagged ∙ missing in cc)

-- each row has the flag given, or not given
flagged_row : (command : Text) (n budget : Option Text) (simplify : Text) (l : CommandLine) → Table command n budget simplify l → (given : Bool) × IsFlag simplify given
flagged_row command n budget simplify Check row = (false, row.3)
flagged_row command n budget simplify (Emit simple) row = (simple, row.3)
flagged_row command n budget simplify (Run steps) row = (false, row.3)
flagged_row command n budget simplify Verify row = (false, row.3)
flagged_row command n budget simplify (Gen size) row = (false, row.3)
flagged_row command n budget simplify Link row = (false, row.3)

-- where the flag's value is neither, no row has it
pub unflagged : (command : Text) (n budget : Option Text) (simplify : Text) (found : Option CommandLine) → found ≡ None → ((given : Bool) → IsFlag simplify given → ⊥)
    → IsRow command n budget simplify found
unflagged command n budget simplify found none neither =
    subst (IsRow command n budget simplify) (sym none) (λ l row. let flag = flagged_row command n budget simplify l row in neither flag.0 flag.1)

-- the row of the values that were found is the line that was found
pub found_row : (rows : List Row) (command : Text) (n budget : Option Text) (simplify : Text) (found : Option CommandLine)
    → first_of (codes "command") rows ≡ Some command → first_of (codes "n") rows ≡ n → first_of (codes "budget") rows ≡ budget
    → first_of (codes "simplify") rows ≡ Some simplify → IsRow command n budget simplify found → IsFound rows found
found_row rows command n budget simplify None given number steps flagged none = λ l is.
    let same : is.command ≡ command = (let e : Some is.command ≡ Some command = sym is.given ∙ given in cc) in
    let alike : is.simplify ≡ simplify = (let e : Some is.simplify ≡ Some simplify = sym is.flagged ∙ flagged in cc) in
    let with_steps = subst (λ (o : Option Text). Table is.command (first_of (codes "n") rows) o is.simplify l) steps is.row in
    let with_number = subst (λ (o : Option Text). Table is.command o budget is.simplify l) number with_steps in
    let with_flag = subst (λ (t : Text). Table is.command n budget t l) alike with_number in
    none l (subst (λ (t : Text). Table t n budget simplify l) same with_flag)
found_row rows command n budget simplify (Some l) given number steps flagged row = record {
  command = command;
  given = given;
  simplify = simplify;
  flagged = flagged;
  row = subst (λ (o : Option Text). Table command o (first_of (codes "budget") rows) simplify l) (sym number)
      (subst (λ (o : Option Text). Table command n o simplify l) (sym steps) row);
}

-- what is found where the words are taken is what they are read as
read_as_found : (words : List Text) (found : Option CommandLine) → takes simple_command words ≡ true → IsFound (matches_of simple_command words) found → ReadsAs words found
read_as_found words None takes none = λ l is. none l is.found
read_as_found words (Some l) takes is = record { taken = takes; found = is }

-- the words of a parse that succeeded
pub parsed : (a : App) (words : List Text) (m : ArgMatches) (found : Option CommandLine) → a ≡ simple_command → HasMatchesOf a words m
    → (is_simple_and_free a ≡ true → fault_of a words ≡ []) → IsFound (rows_of (found_of m)) found → ReadsAs words found
parsed a words m found is matches faultless line =
    let rows : rows_of (found_of m) ≡ matches_of simple_command words = (matches (ap is_simple is)).0 ∙ ap (λ (x : App). matches_of x words) is in
    let none : fault_of simple_command words ≡ [] = ap (λ (x : App). fault_of x words) (sym is) ∙ faultless (ap is_simple_and_free is) in
    read_as_found words found (taken words none) (subst (λ (r : List Row). IsFound r found) rows line)

-- words that the parse does not take are no command line
pub untaken : (a : App) (words : List Text) → a ≡ simple_command → (takes a words ≡ true → ⊥) → (l : CommandLine) → IsCommandLine words l → ⊥
untaken a words is refused l line = refused (ap (λ (x : App). takes x words) is ∙ line.taken)
