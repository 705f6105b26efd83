-- The tokens of a text: parentheses, words and quoted texts. Blanks, line ends and comments stand between them.
use Rattle.std.specs.Prelude.{ℕ, List, [], ◌∷◌, Bool, not, ◌||◌, ◌==◌, if◌then◌else◌}

-- A quoted text has the bytes between its quotes as they stand. One without a quote at its end goes on to the end of all bytes.
pub data Token : Type 0 where
  Open Close : Token
  Word Quoted Unended : List ℕ → Token

-- Where a byte stands: between tokens, in a comment, in a word, in a quoted text, or there behind a backslash that escapes it.
pub data Spot : Type 0 where
  Between Comment InWord InText Escaped : Spot

-- a tab, a line end or a blank
abbrev pub is_blank : ℕ → Bool
is_blank b = b == 32 || b == 10 || b == 9 || b == 13

-- what may stand in a word: no blank, no parenthesis, no quote, and no `;`, which begins a comment
abbrev pub in_word : ℕ → Bool
in_word b = not (is_blank b || b == 40 || b == 41 || b == 34 || b == 59)

-- the byte is the first one of the first token, if that has bytes
abbrev pub with_first : ℕ → List Token → List Token
with_first b [] = []
with_first b (Open ∷ ts) = Open ∷ ts
with_first b (Close ∷ ts) = Close ∷ ts
with_first b (Word bytes ∷ ts) = Word (b ∷ bytes) ∷ ts
with_first b (Quoted bytes ∷ ts) = Quoted (b ∷ bytes) ∷ ts
with_first b (Unended bytes ∷ ts) = Unended (b ∷ bytes) ∷ ts

-- the tokens from a byte that stands between tokens on, by what those behind it are from each spot on
abbrev pub from_byte : ℕ → (Spot → List Token) → List Token
from_byte b behind =
    if b == 40 then Open ∷ behind Between
    else if b == 41 then Close ∷ behind Between
    else if b == 34 then behind InText
    else if b == 59 then behind Comment
    else if is_blank b then behind Between
    else with_first b (behind InWord)

-- The tokens of bytes from a spot on. In a token, the first one is what is left of it.
abbrev pub tokens_from : Spot → List ℕ → List Token
tokens_from Between [] = []
tokens_from Comment [] = []
tokens_from InWord [] = Word [] ∷ []
tokens_from InText [] = Unended [] ∷ []
tokens_from Escaped [] = Unended [] ∷ []
tokens_from Between (b ∷ bs) = from_byte b (λ spot. tokens_from spot bs)
tokens_from Comment (b ∷ bs) = if b == 10 then tokens_from Between bs else tokens_from Comment bs
tokens_from InWord (b ∷ bs) = if in_word b then with_first b (tokens_from InWord bs) else Word [] ∷ from_byte b (λ spot. tokens_from spot bs)
tokens_from InText (b ∷ bs) =
    if b == 34 then Quoted [] ∷ tokens_from Between bs
    else if b == 92 then with_first b (tokens_from Escaped bs)
    else with_first b (tokens_from InText bs)
tokens_from Escaped (b ∷ bs) = with_first b (tokens_from InText bs)

unfoldable pub tokens_of : List ℕ → List Token
tokens_of bytes = tokens_from Between bytes
