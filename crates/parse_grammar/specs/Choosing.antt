-- Each production in trees is the one that the table has for its class before the token that comes there.
use Rattle.std.specs.Prelude.{◌≡◌, List, ◌++◌, Some}
use Rattle.fing_lexer.specs.declared.token.Token.{Token}
use Rattle.parse_grammar.specs.Grammar.{Symbol}
use Rattle.parse_grammar.specs.Tree.{Trees, end, leaf, node, spelling}
use Rattle.parse_grammar.specs.Reading.{ahead}
use Rattle.parse_grammar.specs.Tables.{choose}

-- the tokens after the trees are given
abbrev pub Chosen : {ss : List Symbol} → Trees ss → List Token → Type 0
Chosen end after = Unit {0}
Chosen (leaf t e ts) after = Chosen ts after
Chosen (node {n = n} r cs ts) after = (choose n (ahead (spelling cs ++ (spelling ts ++ after))) ≡ Some r) × Chosen cs (spelling ts ++ after) × Chosen ts after
