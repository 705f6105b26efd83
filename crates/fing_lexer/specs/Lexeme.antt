-- What a text of bytes is, as a whole, as one token.
use Rattle.std.specs.Prelude.{ℕ, ◌+◌, ◌*◌, ◌-◌, Bool, ◌&&◌, ◌||◌, not, nat_eq, nat_le, List, [], ◌∷◌, Option, None, Some, if◌then◌else◌, ℤ, pos, neg_ℤ, codes}
use Rattle.std.specs.Str.{bytes_eq, byte}
use Rattle.std.specs.Char.{is_ascii_digit, is_ascii_alphabetic}
use Rattle.std.specs.List.{list_all}
use Rattle.std.specs.Option.{option_map}
use Rattle.fing_lexer.specs.declared.token.Word as the_word
use Rattle.fing_lexer.specs.declared.token.Word.TheVariants as word
use Rattle.fing_lexer.specs.declared.token.Mark as the_mark
use Rattle.fing_lexer.specs.declared.token.Mark.TheVariants as mark
use Rattle.fing_lexer.specs.declared.token.What.{What}
use Rattle.fing_lexer.specs.declared.token.What.TheVariants as what

-- what stands in a table beside exactly these bytes
abbrev pub entry : {X : Type 0} → List (List ℕ × X) → List ℕ → Option X
entry [] bytes = None
entry (e ∷ es) bytes = if bytes_eq bytes e.0 then Some e.1 else entry es bytes

unfoldable pub words : List (List ℕ × the_word.Word)
words =
    (codes "val", word.KwVal) ∷ (codes "type", word.KwType) ∷ (codes "module", word.KwModule) ∷ (codes "signature", word.KwSignature)
    ∷ (codes "include", word.KwInclude) ∷ (codes "struct", word.KwStruct) ∷ (codes "sig", word.KwSig) ∷ (codes "end", word.KwEnd)
    ∷ (codes "let", word.KwLet) ∷ (codes "in", word.KwIn) ∷ (codes "fun", word.KwFun) ∷ (codes "gen", word.KwGen)
    ∷ (codes "fix", word.KwFix) ∷ (codes "if", word.KwIf) ∷ (codes "then", word.KwThen) ∷ (codes "else", word.KwElse)
    ∷ (codes "pack", word.KwPack) ∷ (codes "unpack", word.KwUnpack) ∷ (codes "from", word.KwFrom) ∷ (codes "where", word.KwWhere)
    ∷ (codes "true", word.KwTrue) ∷ (codes "false", word.KwFalse) ∷ (codes "Int", word.KwInt) ∷ (codes "Bool", word.KwBool)
    ∷ (codes "Text", word.KwText) ∷ (codes "Type", word.KwKind) ∷ (codes "case", word.KwCase) ∷ (codes "of", word.KwOf)
    ∷ (codes "inj", word.KwInj) ∷ (codes "data", word.KwData) ∷ (codes "roll", word.KwRoll) ∷ (codes "unroll", word.KwUnroll) ∷ []

unfoldable pub marks : List (List ℕ × the_mark.Mark)
marks =
    (codes "(", mark.LeftParen) ∷ (codes ")", mark.RightParen) ∷ (codes "{", mark.LeftBrace) ∷ (codes "}", mark.RightBrace)
    ∷ (codes "[", mark.LeftBracket) ∷ (codes "]", mark.RightBracket) ∷ (codes ".", mark.Dot) ∷ (codes ",", mark.Comma)
    ∷ (codes ":", mark.Colon) ∷ (codes ":>", mark.Seal) ∷ (codes "=", mark.Equal) ∷ (codes "=>", mark.DoubleArrow)
    ∷ (codes "->", mark.Arrow) ∷ (codes "#", mark.Hash) ∷ (codes "+", mark.Plus) ∷ (codes "-", mark.Minus)
    ∷ (codes "*", mark.Star) ∷ (codes "/", mark.Slash) ∷ (codes "%", mark.Percent) ∷ (codes "<", mark.Less)
    ∷ (codes "==", mark.EqualEqual) ∷ []

-- a name: a letter or `_`, then letters, digits, `_` and `'`
abbrev pub is_name_start : ℕ → Bool
is_name_start b = is_ascii_alphabetic b || nat_eq b (byte "_")

abbrev pub is_name_byte : ℕ → Bool
is_name_byte b = is_name_start b || (is_ascii_digit b || nat_eq b (byte "'"))

abbrev pub word_or_name : Option the_word.Word → List ℕ → What
word_or_name None bytes = what.Ident bytes
word_or_name (Some w) bytes = what.Word w

-- the value of digits, behind digits of the value `high`
abbrev pub value_behind : (high : ℕ) → List ℕ → ℕ
value_behind high [] = high
value_behind high (b ∷ bs) = value_behind (10 * high + (b - byte "0")) bs

-- one or more digits
abbrev pub number_of : (ℕ → ℤ) → List ℕ → Option What
number_of sign [] = None
number_of sign (b ∷ bs) = if is_ascii_digit b && list_all is_ascii_digit bs then Some (what.Int (sign (value_behind 0 (b ∷ bs)))) else None

-- the byte that a byte behind `\` stands for
abbrev pub escaped : ℕ → Option ℕ
escaped b = if nat_eq b (byte "\"") then Some b else if nat_eq b (byte "\\") then Some b else if nat_eq b (byte "n") then Some 10 else None

-- a byte of a text that stands for itself, where it is no `\`
abbrev pub is_plain : ℕ → Bool
is_plain b = nat_le 32 b && (nat_le b 126 && not (nat_eq b (byte "\"")))

abbrev pub cons_both : Option ℕ → Option (List ℕ) → Option (List ℕ)
cons_both (Some b) (Some bs) = Some (b ∷ bs)
cons_both (Some b) None = None
cons_both None o = None

-- the meaning of a text behind its first quote, whose closing quote is the last byte
abbrev pub meaning : List ℕ → Option (List ℕ)
meaning [] = None
meaning (b ∷ []) = if nat_eq b (byte "\"") then Some [] else None
meaning (b ∷ c ∷ bs) =
    if nat_eq b (byte "\\") then cons_both (escaped c) (meaning bs)
    else if is_plain b then cons_both (Some b) (meaning (c ∷ bs))
    else None

-- The token that exactly these bytes are: a keyword or a name, a number of any size, a text, or a mark.
unfoldable pub lexeme : List ℕ → Option What
lexeme [] = None
lexeme (b ∷ bs) =
    if is_name_start b then (if list_all is_name_byte bs then Some (word_or_name (entry words (b ∷ bs)) (b ∷ bs)) else None)
    else if is_ascii_digit b then number_of pos (b ∷ bs)
    else if nat_eq b (byte "~") then number_of (λ n. neg_ℤ (pos n)) bs
    else if nat_eq b (byte "\"") then option_map what.Text (meaning bs)
    else option_map what.Mark (entry marks (b ∷ bs))
