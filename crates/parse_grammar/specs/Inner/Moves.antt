-- The moves by which a list of tokens is read.
use Rattle.std.specs.Prelude.{Bool, true, false, eqb, List, [], ◌∷◌, Option, None, Some, option_map}
use Rattle.fing_lexer.specs.declared.token.Token.{Token}
use Rattle.parse_grammar.specs.Grammar.{Terminal, kind_of, Symbol, token, phrase}
use Rattle.parse_grammar.specs.Reading.{ahead}
use Rattle.parse_grammar.specs.Tables.{number_of, choose}
use Rattle.parse_grammar.specs.Tree.{Trees, end, leaf, node}
use Rattle.parse_grammar.specs.Inner.View.{Any, any, side_of}

-- a token is taken, or a production is chosen
pub data Move : Type 0 where
  shift : Token → Move
  by : Any → Move

-- the symbols that a move makes wanted
abbrev pub pushed : Move → List Symbol
pushed (shift t) = []
pushed (by a) = side_of a

abbrev pub by_number : Bool → Token → List Token → Option (Move × List Token)
by_number true t ts = Some (shift t, ts)
by_number false t ts = None

abbrev pub token_move : Terminal → List Token → Option (Move × List Token)
token_move k [] = None
token_move k (t ∷ ts) = by_number (eqb (number_of (kind_of t)) (number_of k)) t ts

abbrev pub any_move : List Token → Option Any → Option (Move × List Token)
any_move ts None = None
any_move ts (Some a) = Some (by a, ts)

-- the move that the next token gives where a symbol is wanted, and the tokens left
abbrev pub advance : Symbol → List Token → Option (Move × List Token)
advance (token k) ts = token_move k ts
advance (phrase n) ts = any_move ts (option_map any (choose n (ahead ts)))

-- the moves that give trees, the last one first, before those there are
abbrev pub track : {ss : List Symbol} → Trees ss → List Move → List Move
track end ms = ms
track (leaf t e ts) ms = track ts (shift t ∷ ms)
track (node r cs ts) ms = track ts (track cs (by (any r) ∷ ms))
