-- The classes from which a text may start, and what a refusal of a list of tokens says.
use Rattle.std.specs.Prelude.{ℕ, ◌<◌, ◌≤◌, List, ◌++◌, length, take}
use Rattle.parse_grammar.specs.Grammar.{Class, Units, Binds}
use Rattle.parse_grammar.specs.Meaning.{Value}
use Rattle.fing_lexer.specs.declared.token.Token.{Token}
use Rattle.parse_grammar.specs.Tree.{Phrase}

-- a text starts from this class
pub data Start : Class → Type 0 where
  programs : Start Binds
  units : Start Units

-- the tokens of some phrase of the class begin with these
pub record Begins (n : Class) (tokens : List Token) : Type 0 where
  pub more : List Token
  pub tree : Value n
  pub whole : Phrase n (tokens ++ more) tree

-- the longest front of the tokens that begins some phrase of the class has this length
pub record Farthest (n : Class) (tokens : List Token) (at : ℕ) : Type 0 where
  pub within : at ≤ length tokens
  pub begins : Begins n (take at tokens)
  pub longest : (k : ℕ) → at < k → k ≤ length tokens → Begins n (take k tokens) → ⊥

-- no phrase of the class, and the number
pub record Refused (n : Class) (tokens : List Token) : Type 0 where
  pub at : ℕ
  pub farthest : Farthest n tokens at
  pub none : (p : Value n) → Phrase n tokens p → ⊥
