-- Why bytes are refused as Omega text, by the bytes alone.
use Rattle.std.specs.Prelude.{ℕ, ◌+◌, ◌^◌, List, [], ◌∷◌, ◌++◌, Bool, false, not, ◌&&◌, ◌||◌, ◌==◌, nat_lt, if◌then◌else◌, codes, Option, Some, None}
use Rattle.std.specs.Char.{is_ascii_digit}
use Rattle.omega_spelling.specs.Reading.{strip, run, passes, value_of}

-- ---- the version

abbrev pub other_version : List ℕ × List ℕ → Bool
other_version ([], rest) = false
other_version (d ∷ ds, []) = false
other_version (d ∷ [], e ∷ rest) = e == 10 && not (d == 49 || d == 50)
other_version (d ∷ d' ∷ ds, e ∷ rest) = e == 10

abbrev pub version_from : Option (List ℕ) → Bool
version_from None = false
version_from (Some bytes) = other_version (run is_ascii_digit bytes)

-- `omega `, one or more digits that are neither `1` nor `2`, and a line end
unfoldable pub is_version : List ℕ → Bool
is_version bytes = version_from (strip (codes "omega ") bytes)

-- ---- the depth

-- whether a byte stands in a text, and whether it is behind an odd run of backslashes there
pub data Place : Type 0 where
  Outside Inside Escaped : Place

-- the place of the byte after this one
abbrev pub after : Place → ℕ → Place
after Outside b = if b == 34 then Inside else Outside
after Inside b = if b == 92 then Escaped else if b == 34 then Outside else Inside
after Escaped b = Inside

abbrev pub opens : Place → ℕ → ℕ
opens Outside b = if b == 40 then 1 else 0
opens Inside b = 0
opens Escaped b = 0

abbrev pub closes : Place → ℕ → ℕ
closes Outside b = if b == 41 then 1 else 0
closes Inside b = 0
closes Escaped b = 0

-- whether in some prefix that goes on from here, more than 4,000 are open
abbrev pub deep_from : Place → (open_count close_count : ℕ) → List ℕ → Bool
deep_from p o c [] = false
deep_from p o c (b ∷ bs) = nat_lt (c + closes p b + 4000) (o + opens p b) || deep_from (after p b) (o + opens p b) (c + closes p b) bs

unfoldable pub is_too_deep : List ℕ → Bool
is_too_deep bytes = deep_from Outside 0 0 bytes

-- ---- numbers

-- what may stand in an item
abbrev pub in_item : ℕ → Bool
in_item b = not (b == 32 || b == 10 || b == 40 || b == 41 || b == 34)

abbrev pub some_digits : List ℕ → Bool
some_digits [] = false
some_digits (d ∷ ds) = passes is_ascii_digit (d ∷ ds)

abbrev pub is_number : List ℕ → Bool
is_number [] = false
is_number (b ∷ bs) = some_digits (b ∷ bs) || b == 45 && some_digits bs

abbrev pub is_wide : List ℕ → Bool
is_wide [] = false
is_wide (b ∷ bs) = some_digits (b ∷ bs) && not (nat_lt (value_of (b ∷ bs)) (2 ^ 63)) || b == 45 && some_digits bs && nat_lt (2 ^ 63) (value_of bs)

abbrev pub zeroed_item : List ℕ → List ℕ
zeroed_item item = if is_number item then 48 ∷ [] else item

-- whether a byte goes on an item
abbrev pub goes_on : Place → ℕ → Bool
goes_on Outside b = in_item b
goes_on Inside b = false
goes_on Escaped b = false

-- the bytes with each number replaced by 0, from a place on, behind a part of an item
abbrev pub zeroed_from : Place → (item : List ℕ) → List ℕ → List ℕ
zeroed_from p item [] = zeroed_item item
zeroed_from p item (b ∷ bs) =
    if goes_on p b then zeroed_from p (item ++ b ∷ []) bs else zeroed_item item ++ (b ∷ zeroed_from (after p b) [] bs)

-- whether some number is outside signed 64 bits, from a place on, behind a part of an item
abbrev pub wide_from : Place → (item : List ℕ) → List ℕ → Bool
wide_from p item [] = is_wide item
wide_from p item (b ∷ bs) =
    if goes_on p b then wide_from p (item ++ b ∷ []) bs else is_wide item || wide_from (after p b) [] bs

-- the first line with its end, and the rest
abbrev pub lines_cut : List ℕ → List ℕ × List ℕ
lines_cut [] = ([], [])
lines_cut (b ∷ bs) = if b == 10 then (b ∷ [], bs) else (b ∷ (lines_cut bs).0, (lines_cut bs).1)

unfoldable pub zeroed : List ℕ → List ℕ
zeroed bytes = (lines_cut bytes).0 ++ zeroed_from Outside [] (lines_cut bytes).1

unfoldable pub has_wide : List ℕ → Bool
has_wide bytes = wide_from Outside [] (lines_cut bytes).1
