-- What the steps of the lexer answer, by what stands at the start of the bytes.
use Rattle.std.specs.Prelude.{◌≡◌, ℕ, ◌<◌, ◌≤◌, List, [], ◌∷◌, true, false, Option, None, Some, length, take, nat_eq, if◌then◌else◌}
use Rattle.std.specs.Char.{is_ascii_digit}
use Rattle.std.specs.Str.{byte}
use Rattle.std.specs.Option.{option_map}
use Rattle.fing_lexer.specs.declared.token.What.{What}
use Rattle.fing_lexer.specs.declared.token.Mark.{Mark}
use Rattle.fing_lexer.specs.Lexeme.{is_name_start, is_plain, escaped, meaning, entry, marks}
use Rattle.fing_lexer.specs.Tokens.{Stands, Skip, Found, NoText, NoByte, is_in_range}
use Rattle.fing_lexer.specs.declared.scan.Front.{Front}
use Rattle.fing_lexer.specs.declared.scan.Front.TheVariants as is

-- a number out of range stands at the start
pub record IsWide (bytes : List ℕ) : Type 0 where
  pub size : ℕ
  pub number : What
  pub stands : Stands bytes (Found size number)
  pub wide : is_in_range number ≡ false

abbrev pub StandsAs : List ℕ → Front → Type 0
StandsAs bytes (is.Skip n) = Stands bytes (Skip n)
StandsAs bytes (is.Found n w) = Stands bytes (Found n w) × (is_in_range w ≡ true)
StandsAs bytes is.Wide = IsWide bytes
StandsAs bytes is.NoText = Stands bytes NoText
StandsAs bytes is.NoByte = Stands bytes NoByte

-- the first n bytes end a text whose first quote stands before them, and no other front does
pub record EndsAt (bytes : List ℕ) (n : ℕ) (text : List ℕ) : Type 0 where
  pub within : n ≤ length bytes
  pub is : meaning (take n bytes) ≡ Some text
  pub longest : (m : ℕ) → n < m → m ≤ length bytes → meaning (take m bytes) ≡ None

-- where the text behind its first quote ends, or that it does not
abbrev pub EndsText : List ℕ → Option (ℕ × List ℕ) → Type 0
EndsText bytes (Some t) = EndsAt bytes t.0 t.1
EndsText bytes None = (m : ℕ) → m ≤ length bytes → meaning (take m bytes) ≡ None

-- the byte of a text that is spelled at the start, and how many bytes spell it
abbrev pub spelled : List ℕ → Option (ℕ × ℕ)
spelled [] = None
spelled (b ∷ []) = if is_plain b then Some (b, 1) else None
spelled (b ∷ c ∷ bs) = if nat_eq b (byte "\\") then option_map (λ x. (x, 2)) (escaped c) else if is_plain b then Some (b, 1) else None

-- the mark of the first two bytes
abbrev pub long_mark : List ℕ → Option Mark
long_mark [] = None
long_mark (a ∷ []) = None
long_mark (a ∷ b ∷ bs) = entry marks (a ∷ b ∷ [])

-- a byte that begins no name, number or text
pub record IsOther (b : ℕ) : Type 0 where
  pub letter : is_name_start b ≡ false
  pub digit : is_ascii_digit b ≡ false
  pub tilde : nat_eq b 126 ≡ false
  pub quote : nat_eq b 34 ≡ false
