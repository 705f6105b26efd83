-- The tokens of a text, and the first place at which it has none.
use Rattle.std.specs.Prelude.{◌≡◌, ℕ, ◌+◌, ◌-◌, ◌<◌, ◌≤◌, Bool, true, false, not, List, [], ◌∷◌, ◌++◌, length, take, drop, None, Some, if◌then◌else◌, nat_eq, nat_le, ◌||◌, nat_abs}
use Rattle.std.specs.Str.{byte}
use Rattle.std.specs.List.{prefix_len}
use Rattle.fing_lexer.specs.declared.token.What.{What}
use Rattle.fing_lexer.specs.declared.token.What.TheVariants as what
use Rattle.fing_lexer.specs.declared.token.Token.{Token}
use Rattle.fing_lexer.specs.declared.lexer.LexRefusal.{LexRefusal}
use Rattle.fing_lexer.specs.declared.lexer.LexRefusal.TheVariants.{BadByte, BadText, Wide, TooDeep}
use Rattle.fing_lexer.specs.Lexeme.{lexeme}
use Rattle.fing_lexer.specs.Nest.{Nest, whole_file, counted, opened, total}

-- a space, a tab, a line feed or a carriage return
abbrev pub is_blank : ℕ → Bool
is_blank b = nat_eq b 32 || (nat_eq b 9 || (nat_eq b 10 || nat_eq b 13))

-- how many bytes stand before the next line feed, or before the end
abbrev pub line_length : List ℕ → ℕ
line_length bytes = prefix_len (λ b. not (nat_eq b 10)) bytes

abbrev pub begins_with : ℕ → List ℕ → Bool
begins_with c [] = false
begins_with c (b ∷ bs) = nat_eq b c

-- How many bytes a blank or a comment at the start has, and 0 where there is neither.
-- A comment begins wherever `--` stands, so there no token is looked for.
unfoldable pub skipped : List ℕ → ℕ
skipped [] = 0
skipped (b ∷ bs) =
    if is_blank b then 1
    else if nat_eq b (byte "-") then (if begins_with (byte "-") bs then line_length (b ∷ bs) else 0)
    else 0

-- the first n bytes are a token, and no longer prefix is one
pub record Longest (bytes : List ℕ) (n : ℕ) (w : What) : Type 0 where
  pub within : n ≤ length bytes
  pub is : lexeme (take n bytes) ≡ Some w
  pub longest : (m : ℕ) → n < m → m ≤ length bytes → lexeme (take m bytes) ≡ None

-- no front is a token
abbrev pub BeginsNone : List ℕ → Type 0
BeginsNone bytes = (m : ℕ) → m ≤ length bytes → lexeme (take m bytes) ≡ None

-- what can stand at a place
pub data Front : Type 0 where
  End : Front
  Skip : (n : ℕ) → Front
  Found : (n : ℕ) → What → Front
  NoText NoByte : Front

abbrev pub Stands : List ℕ → Front → Type 0
Stands bytes End = bytes ≡ []
Stands bytes (Skip n) = (0 < n) × (skipped bytes ≡ n)
Stands bytes (Found n w) = (skipped bytes ≡ 0) × Longest bytes n w
Stands bytes NoText = (skipped bytes ≡ 0) × (begins_with (byte "\"") bytes ≡ true) × BeginsNone bytes
Stands bytes NoByte = (skipped bytes ≡ 0) × (0 < length bytes) × (begins_with (byte "\"") bytes ≡ false) × BeginsNone bytes

-- the digits of a number say at most 9223372036854775807
abbrev pub is_in_range : What → Bool
is_in_range (what.Int n) = nat_le (nat_abs n) 9223372036854775807
is_in_range _ = true

abbrev pub token_at : ℕ → ℕ → What → Token
token_at at n w = record { what = w; span = record { from = at; to = at + n } }

-- the tokens of a text, or its refusal
pub data Outcome : Type 0 where
  Good : List Token → Outcome
  Bad : LexRefusal → Outcome

-- a text ends, or goes on behind n bytes, with a token or without one
pub data Step : Type 0 where
  Done : Outcome → Step
  Go : (n : ℕ) → (add : List Token) → (nest : Nest) → Step

-- what follows from what stands at the place `at`, behind a stack
abbrev pub step : ℕ → Nest → Front → Step
step at nest End = Done (Good [])
step at nest (Skip n) = Go n [] nest
step at nest (Found n w) =
    if is_in_range w
    then (if nat_le (total (counted nest w)) 1000
    then Go n (token_at at n w ∷ []) (opened (counted nest w) w)
    else Done (Bad (TooDeep at)))
    else Done (Bad (Wide at))
step at nest NoText = Done (Bad (BadText at))
step at nest NoByte = Done (Bad (BadByte at))

abbrev pub prepend : List Token → Outcome → Outcome
prepend add (Good ts) = Good (add ++ ts)
prepend add (Bad r) = Bad r

-- the outcome of the bytes from the place `at` on, behind a stack
pub data Lexes : ℕ → Nest → List ℕ → Outcome → Type 0 where
  done : {at : ℕ} {nest : Nest} {bytes : List ℕ} {o : Outcome} → (f : Front) → Stands bytes f → step at nest f ≡ Done o → Lexes at nest bytes o
  go : {at : ℕ} {nest : Nest} {bytes : List ℕ} {o : Outcome} → (f : Front) → (n : ℕ) → (add : List Token) → (nest' : Nest) → (rest : Outcome) → Stands bytes f → step at nest f ≡ Go n add nest'
      → Lexes (at + n) nest' (drop n bytes) rest → o ≡ prepend add rest → Lexes at nest bytes o

-- the tokens of a text
abbrev pub TokensOf : List ℕ → List Token → Type 0
TokensOf bytes ts = Lexes 0 whole_file bytes (Good ts)

-- the refusal of a text, at the first place that has one
abbrev pub RefusalOf : List ℕ → LexRefusal → Type 0
RefusalOf bytes r = Lexes 0 whole_file bytes (Bad r)

-- a text has one outcome: one list of tokens or one refusal, and never both
pub record OneOutcome (bytes : List ℕ) : Type 0 where
  pub outcome : Outcome
  pub holds : Lexes 0 whole_file bytes outcome
  pub only : (o : Outcome) → Lexes 0 whole_file bytes o → o ≡ outcome

-- from the place `at` on the spans are in order, and each token is what the bytes of its span are
abbrev pub Sliced : List ℕ → ℕ → List Token → Type 0
Sliced bytes at [] = Unit {0}
Sliced bytes at (t ∷ ts) =
    (at ≤ t.span.from) × (t.span.from < t.span.to) × (t.span.to ≤ length bytes)
    × (lexeme (take (t.span.to - t.span.from) (drop t.span.from bytes)) ≡ Some t.what) × Sliced bytes t.span.to ts
