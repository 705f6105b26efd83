-- How tokens are spelled with no more between them than Omega text has.
use Rattle.std.specs.Prelude.{ℕ, ◌+◌, ◌-◌, List, [], ◌∷◌, ◌++◌, Bool, true, false, not, ◌&&◌, ◌||◌, ◌==◌, if◌then◌else◌, Option, Some, None, codes}
use Rattle.std.specs.Str.{bytes_eq}
use Rattle.omega_compact.specs.Tokens.{Token, Open, Close, Word, Quoted, Unended, tokens_of}

abbrev pub token_text : Token → List ℕ
token_text Open = 40 ∷ []
token_text Close = 41 ∷ []
token_text (Word bytes) = bytes
token_text (Quoted bytes) = 34 ∷ (bytes ++ (34 ∷ []))
token_text (Unended bytes) = 34 ∷ bytes

-- how many parentheses are open behind a token, where so many are open before it
abbrev pub open_after : ℕ → Token → ℕ
open_after n Open = n + 1
open_after n Close = n - 1
open_after n (Word bytes) = n
open_after n (Quoted bytes) = n
open_after n (Unended bytes) = n

-- the word that begins the first line
abbrev pub is_omega : Token → Bool
is_omega Open = false
is_omega Close = false
is_omega (Word bytes) = bytes_eq bytes (codes "omega")
is_omega (Quoted bytes) = false
is_omega (Unended bytes) = false

abbrev pub is_open : Token → Bool
is_open Open = true
is_open Close = false
is_open (Word bytes) = false
is_open (Quoted bytes) = false
is_open (Unended bytes) = false

abbrev pub is_close : Token → Bool
is_close Open = false
is_close Close = true
is_close (Word bytes) = false
is_close (Quoted bytes) = false
is_close (Unended bytes) = false

-- What stands between two tokens, where so many parentheses are open. Nothing stands behind `(` and before `)`. Elsewhere
-- it is a line end outside of all parentheses, but behind `omega`, and else a blank.
abbrev pub gap : ℕ → (left right : Token) → List ℕ
gap n left right =
    if is_open left || is_close right then []
    else if n == 0 && not (is_omega left) then 10 ∷ []
    else 32 ∷ []

-- what stands before a token, behind another one or behind none
abbrev pub before : ℕ → Option Token → Token → List ℕ
before n None t = []
before n (Some left) t = gap n left t

-- what stands behind the last token: a line end, unless that would belong to it
abbrev pub ending : Option Token → List ℕ
ending None = []
ending (Some Open) = 10 ∷ []
ending (Some Close) = 10 ∷ []
ending (Some (Word bytes)) = 10 ∷ []
ending (Some (Quoted bytes)) = 10 ∷ []
ending (Some (Unended bytes)) = []

-- the text of tokens behind another one or behind none, where so many parentheses are open
abbrev pub spelled_from : ℕ → Option Token → List Token → List ℕ
spelled_from n left [] = ending left
spelled_from n left (t ∷ ts) = before n left t ++ (token_text t ++ spelled_from (open_after n t) (Some t) ts)

unfoldable pub spelled : List Token → List ℕ
spelled ts = spelled_from 0 None ts

-- the compact text of a text: that of its tokens
abbrev pub compacted : List ℕ → List ℕ
compacted bytes = spelled (tokens_of bytes)
