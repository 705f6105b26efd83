-- What stands at the start of bytes, as the scans of the code see them.
-- Main results: name_stands, number_stands, negative_stands, two_stand, one_stands.
use Rattle.std.proofs.Common.{◌≡◌, ℕ, zero, suc, ◌+◌, ◌<◌, ◌≤◌, ◌&&◌, Bool, true, false, cond, refl, sym, ◌∙◌, ap, subst, pos, neg_ℤ, List, [], ◌∷◌, length, take, drop, get_or, max, ◌-◌, take_all, length-drop, drop-drop, le-leb, ◌^◌, nat_abs, arith}
use Rattle.std.proofs.lemmas.Bool.{lt-leb}
use Rattle.std.specs.Prelude.{Some, None, nat_eq, nat_le, if◌then◌else◌}
use Rattle.std.specs.Str.{bytes_eq}
use Rattle.std.specs.List.{prefix_len}
use Rattle.std.specs.Option.{option_map}
use Rattle.std.specs.Char.{is_ascii_digit}
use Rattle.fing_lexer.specs.declared.token.Mark.{Mark}
use Rattle.fing_lexer.specs.declared.token.What.TheVariants as what
use Rattle.fing_lexer.specs.Inner.Lexing.{IsOther, long_mark}
use Rattle.fing_lexer.specs.Lexeme.{lexeme, is_name_start, is_name_byte, word_or_name, entry, words, marks, value_behind}
use Rattle.fing_lexer.specs.Tokens.{Stands, Found, NoByte, skipped, is_in_range}
use Rattle.fing_lexer.proofs.Classes.{name_found, number_found, letter_not_skipped, negative_found, tilde_alone, tilde_not_skipped, digit_not_skipped, if_false}

-- after the first byte of a name all further bytes of names belong to it, and it is a keyword if it is listed
pub name_stands : (bytes : List ℕ) (n : ℕ) → 0 < length bytes → is_name_start (get_or bytes 0 0) ≡ true → n ≡ 1 + prefix_len is_name_byte (drop 1 bytes)
    → Stands bytes (Found n (word_or_name (entry words (take n bytes)) (take n bytes)))
name_stands [] n h l e = absurd (omega arith)
name_stands (b ∷ bs) n h l e =
    let q : suc (prefix_len is_name_byte bs) ≡ n = omega (arith, e) in
    subst (λ k. Stands (b ∷ bs) (Found k (word_or_name (entry words (take k (b ∷ bs))) (take k (b ∷ bs))))) q (letter_not_skipped b bs l, name_found b bs l)

-- after a digit all further digits belong to the number
pub number_stands : (bytes : List ℕ) (n : ℕ) → 0 < length bytes → is_name_start (get_or bytes 0 0) ≡ false → is_ascii_digit (get_or bytes 0 0) ≡ true → n ≡ 1 + prefix_len is_ascii_digit (drop 1 bytes)
    → Stands bytes (Found n (what.Int (pos (value_behind 0 (take n bytes)))))
number_stands [] n h l d e = absurd (omega arith)
number_stands (b ∷ bs) n h l d e =
    let q : suc (prefix_len is_ascii_digit bs) ≡ n = omega (arith, e) in
    subst (λ k. Stands (b ∷ bs) (Found k (what.Int (pos (value_behind 0 (take k (b ∷ bs))))))) q (digit_not_skipped b bs d, number_found b bs l d)

-- a tilde with digits behind it is the negative number
pub negative_stands : (bytes : List ℕ) (n : ℕ) → 0 < length bytes → get_or bytes 0 0 ≡ 126 → 0 < n → n ≡ prefix_len is_ascii_digit (drop 1 bytes)
    → Stands bytes (Found (1 + n) (what.Int (neg_ℤ (pos (value_behind 0 (take n (drop 1 bytes)))))))
negative_stands [] n h t p e = absurd (omega arith)
negative_stands (a ∷ []) n h t p e = absurd (omega arith)
negative_stands (a ∷ b ∷ bs) n h t p e = subst (λ z. Stands (z ∷ b ∷ bs) (Found (1 + n) (what.Int (neg_ℤ (pos (value_behind 0 (take n (b ∷ bs)))))))) (sym t) (by (is_ascii_digit b) refl e)
  where
    by : (d : Bool) → is_ascii_digit b ≡ d → n ≡ cond d (1 + prefix_len is_ascii_digit bs) 0 → Stands (126 ∷ b ∷ bs) (Found (1 + n) (what.Int (neg_ℤ (pos (value_behind 0 (take n (b ∷ bs)))))))
    by true d e =
        let q : suc (prefix_len is_ascii_digit bs) ≡ n = omega arith in
        subst (λ k. Stands (126 ∷ b ∷ bs) (Found (1 + k) (what.Int (neg_ℤ (pos (value_behind 0 (take k (b ∷ bs)))))))) q
        (subst (λ k. Stands (126 ∷ b ∷ bs) (Found k (what.Int (neg_ℤ (pos (value_behind 0 (b ∷ take (prefix_len is_ascii_digit bs) bs)))))))
        (omega arith) (tilde_not_skipped (b ∷ bs), negative_found b bs d))
    by false d e = absurd (omega arith)

-- a tilde without digits behind it begins no token
pub tilde_stands : (bytes : List ℕ) → 0 < length bytes → get_or bytes 0 0 ≡ 126 → prefix_len is_ascii_digit (drop 1 bytes) ≡ 0 → Stands bytes NoByte
tilde_stands [] h t e = absurd (omega arith)
tilde_stands (a ∷ bs) h t e = subst (λ z. Stands (z ∷ bs) NoByte) (sym t) (tilde_not_skipped bs, omega arith, refl, tilde_alone bs e)

-- no entry of a table is longer than this
abbrev longest_entry : List (List ℕ × Mark) → ℕ
longest_entry [] = 0
longest_entry (e ∷ es) = max (length e.0) (longest_entry es)

same_length : (a b : List ℕ) → bytes_eq a b ≡ true → length a ≡ length b
same_length [] [] e = refl
same_length [] (b ∷ bs) e = absurd (cc)
same_length (a ∷ ax) [] e = absurd (cc)
same_length (a ∷ ax) (b ∷ bs) e = ap suc (same_length ax bs (second (nat_eq a b) (bytes_eq ax bs) e))
  where
    second : (x y : Bool) → x && y ≡ true → y ≡ true
    second true y e = e
    second false y e = absurd (cc)

too_long : (es : List (List ℕ × Mark)) (bytes : List ℕ) → longest_entry es < length bytes → entry es bytes ≡ None
too_long [] bytes h = refl
too_long (e ∷ es) bytes h = go (bytes_eq bytes e.0) refl (too_long es bytes (omega arith))
  where
    go : (t : Bool) → bytes_eq bytes e.0 ≡ t → entry es bytes ≡ None → (if t then Some e.1 else entry es bytes) ≡ None
    go true q r = absurd (let s : length bytes ≡ length e.0 = same_length bytes e.0 q in omega (arith, s))
    go false q r = r

long_mark_none : (a b c : ℕ) (rest : List ℕ) → entry marks (a ∷ b ∷ c ∷ rest) ≡ None
unfolding marks
long_mark_none a b c rest = too_long marks (a ∷ b ∷ c ∷ rest) (omega arith)

mark_lexeme : (b : ℕ) (bs : List ℕ) → IsOther b → lexeme (b ∷ bs) ≡ option_map what.Mark (entry marks (b ∷ bs))
unfolding lexeme
mark_lexeme b bs o = if_false (is_name_start b) _ _ o.letter ∙ if_false (is_ascii_digit b) _ _ o.digit ∙ if_false (nat_eq b 126) _ _ o.tilde ∙ if_false (nat_eq b 34) _ _ o.quote

no_bytes : lexeme [] ≡ None
unfolding lexeme
no_bytes = refl

-- two bytes that are a long mark are this mark
pub two_stand : (bytes : List ℕ) (k : Mark) → skipped bytes ≡ 0 → IsOther (get_or bytes 0 0) → long_mark bytes ≡ Some k → Stands bytes (Found 2 (what.Mark k))
two_stand [] k s o e = absurd (cc)
two_stand (a ∷ []) k s o e = absurd (cc)
two_stand (a ∷ b ∷ rest) k s o e = (s, record { within = omega arith; is = mark_lexeme a (b ∷ []) o ∙ ap (option_map what.Mark) e; longest = longer rest })
  where
    longer : (rest : List ℕ) (m : ℕ) → 2 < m → m ≤ length (a ∷ b ∷ rest) → lexeme (take m (a ∷ b ∷ rest)) ≡ None
    longer rest zero h w = absurd (omega arith)
    longer rest (suc zero) h w = absurd (omega arith)
    longer rest (suc (suc zero)) h w = absurd (omega arith)
    longer [] (suc (suc (suc m))) h w = absurd (omega arith)
    longer (c ∷ rest) (suc (suc (suc m))) h w = mark_lexeme a (b ∷ c ∷ take m rest) o ∙ ap (option_map what.Mark) (long_mark_none a b c (take m rest))

above_one : (a : ℕ) (rest : List ℕ) → IsOther a → long_mark (a ∷ rest) ≡ None → (m : ℕ) → 1 < m → m ≤ length (a ∷ rest) → lexeme (take m (a ∷ rest)) ≡ None
above_one a rest o n zero h w = absurd (omega arith)
above_one a rest o n (suc zero) h w = absurd (omega arith)
above_one a [] o n (suc (suc m)) h w = absurd (omega arith)
above_one a (b ∷ rest) o n (suc (suc zero)) h w = mark_lexeme a (b ∷ []) o ∙ ap (option_map what.Mark) n
above_one a (b ∷ []) o n (suc (suc (suc m))) h w = absurd (omega arith)
above_one a (b ∷ c ∷ rest) o n (suc (suc (suc m))) h w = mark_lexeme a (b ∷ c ∷ take m rest) o ∙ ap (option_map what.Mark) (long_mark_none a b c (take m rest))

-- a byte that is a mark, and begins no long one, is this mark
pub one_stands : (bytes : List ℕ) (k : Mark) → 0 < length bytes → skipped bytes ≡ 0 → IsOther (get_or bytes 0 0) → long_mark bytes ≡ None → entry marks (get_or bytes 0 0 ∷ []) ≡ Some k
    → Stands bytes (Found 1 (what.Mark k))
one_stands [] k h s o n e = absurd (omega arith)
one_stands (a ∷ rest) k h s o n e = (s, record { within = omega arith; is = mark_lexeme a [] o ∙ ap (option_map what.Mark) e; longest = above_one a rest o n })

-- any other byte begins no token
pub none_stands : (bytes : List ℕ) → 0 < length bytes → skipped bytes ≡ 0 → IsOther (get_or bytes 0 0) → long_mark bytes ≡ None → entry marks (get_or bytes 0 0 ∷ []) ≡ None
    → Stands bytes NoByte
none_stands [] h s o n e = absurd (omega arith)
none_stands (a ∷ rest) h s o n e = (s, h, o.quote, none)
  where
    none : (m : ℕ) → m ≤ length (a ∷ rest) → lexeme (take m (a ∷ rest)) ≡ None
    none zero w = no_bytes
    none (suc zero) w = mark_lexeme a [] o ∙ ap (option_map what.Mark) e
    none (suc (suc m)) w = above_one a rest o n (suc (suc m)) (omega arith) w

-- the bytes from a place on, as the code slices them
pub from_place : (bytes : List ℕ) (at : ℕ) → take (length bytes - at) (drop at bytes) ≡ drop at bytes
from_place bytes at = take_all (length bytes - at) (drop at bytes) (omega (arith, length-drop at bytes))

-- all bytes behind the first are those after it
pub behind_first : (bytes : List ℕ) → take (length bytes - 1) (drop 1 bytes) ≡ drop 1 bytes
behind_first bytes = from_place bytes 1

-- bytes left out twice are left out together
pub further : (n at : ℕ) (bytes : List ℕ) → drop n (drop at bytes) ≡ drop (at + n) bytes
further n at bytes = drop-drop n at bytes ∙ ap (λ k. drop k bytes) (omega arith)

-- a number below 2^63 is in range
pub in_range : (n : ℕ) → n < 2 ^ 63 → is_in_range (what.Int (pos n)) ≡ true
in_range n h = le-leb _ _ (omega arith)

-- a number from 2^63 on is not in range
pub out_of_range : (n : ℕ) → 2 ^ 63 ≤ n → is_in_range (what.Int (pos n)) ≡ false
out_of_range n h = lt-leb _ _ (omega arith)

-- a sign changes no size
size : (n : ℕ) → nat_abs (neg_ℤ (pos n)) ≡ n
size zero = refl
size (suc n) = refl

-- a negative number whose digits say less than 2^63 is in range
pub negative_in_range : (n : ℕ) → n < 2 ^ 63 → is_in_range (what.Int (neg_ℤ (pos n))) ≡ true
negative_in_range n h = ap (λ k. nat_le k 9223372036854775807) (size n) ∙ le-leb _ _ (omega arith)

-- a negative number whose digits say 2^63 or more is not in range
pub negative_out_of_range : (n : ℕ) → 2 ^ 63 ≤ n → is_in_range (what.Int (neg_ℤ (pos n))) ≡ false
negative_out_of_range n h = ap (λ k. nat_le k 9223372036854775807) (size n) ∙ lt-leb _ _ (omega arith)
