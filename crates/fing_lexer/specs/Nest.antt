-- How deep a token stands: a stack of pairs of numbers, which openers and closers change.
use Rattle.std.specs.Prelude.{ℕ, ◌+◌, Bool, true, false, List, [], ◌∷◌, if◌then◌else◌}
use Rattle.fing_lexer.specs.declared.nest.Level.{Level}
use Rattle.fing_lexer.specs.declared.token.Word.TheVariants.{KwVal, KwType, KwModule, KwSignature, KwInclude, KwData, KwIn, KwStruct, KwSig, KwLet, KwEnd}
use Rattle.fing_lexer.specs.declared.token.Mark.TheVariants.{LeftParen, LeftBrace, LeftBracket, RightParen, RightBrace, RightBracket}
use Rattle.fing_lexer.specs.declared.token.What.{What}
use Rattle.fing_lexer.specs.declared.token.What.TheVariants as what

-- the last pair, and those behind it: there is always one, that of the whole file
pub record Nest : Type 0 where
  pub last : Level
  pub outer : List Level

abbrev pub empty_level : Level
empty_level = record { words = 0; since = 0 }

abbrev pub whole_file : Nest
whole_file = record { last = empty_level; outer = [] }

abbrev pub is_closer : What → Bool
is_closer (what.Mark RightParen) = true
is_closer (what.Mark RightBrace) = true
is_closer (what.Mark RightBracket) = true
is_closer (what.Word KwEnd) = true
is_closer _ = false

abbrev pub is_opener : What → Bool
is_opener (what.Mark LeftParen) = true
is_opener (what.Mark LeftBrace) = true
is_opener (what.Mark LeftBracket) = true
is_opener (what.Word KwStruct) = true
is_opener (what.Word KwSig) = true
is_opener (what.Word KwLet) = true
is_opener _ = false

-- the words that begin a binding or a declaration, and `in`
abbrev pub is_binding_word : What → Bool
is_binding_word (what.Word KwVal) = true
is_binding_word (what.Word KwType) = true
is_binding_word (what.Word KwModule) = true
is_binding_word (what.Word KwSignature) = true
is_binding_word (what.Word KwInclude) = true
is_binding_word (what.Word KwData) = true
is_binding_word (what.Word KwIn) = true
is_binding_word _ = false

-- without the last pair, unless it is the only one
abbrev pub closed : Nest → Nest
closed n = elim n.outer [ [] ↦ n | (l ∷ ls) ↦ record { last = l; outer = ls } ]

abbrev pub counted_level : What → Level → Level
counted_level w l = if is_binding_word w then record { words = l.words + 1; since = 0 } else record { words = l.words; since = l.since + 1 }

-- the stack after the token was counted: a closer first takes a pair away
abbrev pub counted : Nest → What → Nest
counted n w = let m = if is_closer w then closed n else n in record { last = counted_level w m.last; outer = m.outer }

-- the stack behind the token: an opener adds a pair
abbrev pub opened : Nest → What → Nest
opened n w = if is_opener w then record { last = empty_level; outer = n.last ∷ n.outer } else n

abbrev pub total_of : List Level → ℕ
total_of [] = 0
total_of (l ∷ ls) = (l.words + l.since) + total_of ls

-- the sum of all numbers on the stack
abbrev pub total : Nest → ℕ
total n = (n.last.words + n.last.since) + total_of n.outer
