-- The bytes of a text, as far as a loop has come.
use Rattle.std.proofs.Common.{◌≡◌, ℕ, zero, suc, ◌+◌, ◌<◌, ◌≤◌, Bool, true, false, List, [], ◌∷◌, ◌++◌, length, get_or, drop, Option, Some, None, refl, sym, ap, ◌∙◌, append_assoc, arith}
use Rattle.omega_spelling.specs.Reading.{◌>>=◌}
use Rattle.omega_spelling.specs.TermReading.{chars_at, with_byte}
use Rattle.omega_read.specs.Inner.Chars.{after_char}
use Rattle.omega_read.specs.declared.texts.Char.{Char}
use Rattle.omega_read.specs.declared.texts.Char.TheVariants.{End, Escape, Byte, Bad}
use Rattle.omega_read.proofs.Items.{drop_here}

-- bytes that were read, before those that are still to come
abbrev pub with_text : List ℕ → Option (List ℕ × List ℕ) → Option (List ℕ × List ℕ)
with_text xs read = read >>= λ x. Some (xs ++ x.0, x.1)

-- what the byte here says
abbrev pub Says : Bool → ℕ → Char → Type 0
Says escaped b char = (rest : List ℕ) → chars_at escaped (b ∷ rest) ≡ after_char char rest

step_is : (xs bs : List ℕ) (i d : ℕ) (escaped : Bool) (char : Char) (total : Option (List ℕ × List ℕ)) → i < length bs → Says escaped (get_or bs i d) char
    → with_text xs (chars_at escaped (drop i bs)) ≡ total → with_text xs (after_char char (drop (i + 1) bs)) ≡ total
step_is xs bs i d escaped char total lt says so_far =
    sym (ap (λ (w : List ℕ). with_text xs (chars_at escaped w)) (drop_here bs i d lt) ∙ ap (with_text xs) (says (drop (i + 1) bs))) ∙ so_far

append_none : (xs : List ℕ) → xs ++ [] ≡ xs
append_none [] = refl
append_none (x ∷ xs) = ap (λ (w : List ℕ). x ∷ w) (append_none xs)

pub text_ends : (xs bs : List ℕ) (i d : ℕ) (escaped : Bool) (total : Option (List ℕ × List ℕ)) → i < length bs → Says escaped (get_or bs i d) End
    → with_text xs (chars_at escaped (drop i bs)) ≡ total → total ≡ Some (xs, drop (i + 1) bs)
text_ends xs bs i d escaped total lt says so_far =
    sym (step_is xs bs i d escaped End total lt says so_far) ∙ ap (λ (w : List ℕ). Some (w, drop (i + 1) bs)) (append_none xs)

pub text_escapes : (xs bs : List ℕ) (i d : ℕ) (escaped : Bool) (total : Option (List ℕ × List ℕ)) → i < length bs → Says escaped (get_or bs i d) Escape
    → with_text xs (chars_at escaped (drop i bs)) ≡ total → with_text xs (chars_at true (drop (i + 1) bs)) ≡ total
text_escapes xs bs i d escaped total lt says so_far = step_is xs bs i d escaped Escape total lt says so_far

pub text_goes : (b : ℕ) (xs bs : List ℕ) (i d : ℕ) (escaped : Bool) (total : Option (List ℕ × List ℕ)) → i < length bs → Says escaped (get_or bs i d) (Byte b)
    → with_text xs (chars_at escaped (drop i bs)) ≡ total → with_text (xs ++ b ∷ []) (chars_at false (drop (i + 1) bs)) ≡ total
text_goes b xs bs i d escaped total lt says so_far =
    sym (both xs b (chars_at false (drop (i + 1) bs))) ∙ step_is xs bs i d escaped (Byte b) total lt says so_far
  where
    both : (xs : List ℕ) (b : ℕ) (read : Option (List ℕ × List ℕ)) → with_text xs (with_byte b read) ≡ with_text (xs ++ b ∷ []) read
    both xs b (Some x) = ap (λ (w : List ℕ). Some (w, x.1)) (sym (append_assoc xs (b ∷ []) x.0))
    both xs b None = refl

pub text_bad : (xs bs : List ℕ) (i d : ℕ) (escaped : Bool) (total : Option (List ℕ × List ℕ)) → i < length bs → Says escaped (get_or bs i d) Bad
    → with_text xs (chars_at escaped (drop i bs)) ≡ total → total ≡ None
text_bad xs bs i d escaped total lt says so_far = sym (step_is xs bs i d escaped Bad total lt says so_far)

drop_out : (bs : List ℕ) (i : ℕ) → length bs ≤ i → drop i bs ≡ []
drop_out [] zero le = refl
drop_out [] (suc i) le = refl
drop_out (b ∷ bs) zero le = absurd (omega arith)
drop_out (b ∷ bs) (suc i) le = drop_out bs i (omega arith)

pub text_out : (xs bs : List ℕ) (i : ℕ) (escaped : Bool) (total : Option (List ℕ × List ℕ)) → length bs ≤ i → with_text xs (chars_at escaped (drop i bs)) ≡ total → total ≡ None
unfolding chars_at
text_out xs bs i escaped total le so_far = sym so_far ∙ rw (drop_out bs i le) refl

pub text_begins : (bs : List ℕ) → with_text [] (chars_at false bs) ≡ chars_at false bs
text_begins bs = same (chars_at false bs)
  where
    same : (read : Option (List ℕ × List ℕ)) → with_text [] read ≡ read
    same (Some x) = refl
    same None = refl

pub ruleset text_bytes = (text_ends, text_escapes, text_goes, text_bad, text_out, text_begins)
