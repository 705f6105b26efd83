-- What a refusal of the parser says.
use Rattle.std.specs.Prelude.{List}
use Rattle.fing_lexer.specs.declared.token.Token.{Token}
use Rattle.parse_grammar.specs.Grammar.{Class}
use Rattle.parse_grammar.specs.Meaning.{Value}
use Rattle.parse_grammar.specs.Program.{Farthest}
use Rattle.parse_grammar.specs.Tree.{Phrase}
use Rattle.parse_grammar.specs.declared.refusal.ParseRefusal.{ParseRefusal}
use Rattle.parse_grammar.specs.declared.refusal.ParseRefusal.TheVariants as refused

-- `Syntax` says that the tokens are no phrase of the class, and how many of them begin one; want of memory says nothing
abbrev pub Refuses : Class → List Token → ParseRefusal → Type 0
Refuses n tokens (refused.Syntax at) = Farthest n tokens at × ((p : Value n) → Phrase n tokens p → ⊥)
Refuses n tokens refused.Mem = Unit {0}
