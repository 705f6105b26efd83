-- The code's steps and its stack of wanted symbols, as moves and symbols.
use Rattle.std.specs.Prelude.{List, reverse, map}
use Rattle.parse_grammar.specs.Grammar.{Symbol}
use Rattle.parse_grammar.specs.Inner.Moves.{Move, shift, by}
use Rattle.parse_grammar.specs.Inner.View.{symbol_in, rule_in}
use Rattle.parse_grammar.specs.declared.grammar.Symbol.{Symbol as SymbolIn}
use Rattle.parse_grammar.specs.declared.recogniser.Step.{Step}
use Rattle.parse_grammar.specs.declared.recogniser.Step.TheVariants as a_step

abbrev pub move_in : Step → Move
move_in (a_step.Token t) = shift t.now
move_in (a_step.Rule r) = by (rule_in r)

-- the symbols of a stack, the top one first
abbrev pub wanted : List SymbolIn → List Symbol
wanted xs = map symbol_in (reverse xs)

-- the moves, the last one first
abbrev pub moves : List Step → List Move
moves xs = map move_in (reverse xs)
