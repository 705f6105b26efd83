-- The longest token at a front: names, keywords and numbers.
-- Main results: if_true, if_false.
use Rattle.std.proofs.Common.{◌≡◌, ℕ, zero, suc, ◌+◌, ◌<◌, ◌≤◌, ◌&&◌, Bool, true, false, cond, refl, ◌∙◌, ap, List, [], ◌∷◌, length, take, one-add, arith, ℤ, pos, neg_ℤ}
use Rattle.std.specs.Prelude.{Some, None, nat_eq, if◌then◌else◌}
use Rattle.std.specs.Char.{is_ascii_digit}
use Rattle.std.specs.List.{prefix_len, list_all}
use Rattle.std.proofs.lemmas.List.Sums.{prefix_len-le-length}
use Rattle.std.proofs.lemmas.Bool.Decides.{nat_tests}
use Rattle.fing_lexer.specs.declared.token.What.TheVariants as what
use Rattle.fing_lexer.specs.Lexeme.{lexeme, is_name_start, is_name_byte, word_or_name, entry, words, value_behind, number_of}
use Rattle.fing_lexer.specs.Tokens.{Longest, skipped, is_blank}

-- the front whose bytes pass passes, and no longer one does
pub all_pass : (p : ℕ → Bool) (xs : List ℕ) → list_all p (take (prefix_len p xs) xs) ≡ true
all_pass p [] = refl
all_pass p (x ∷ xs) = go (p x) refl (all_pass p xs)
  where
    go : (b : Bool) → p x ≡ b → list_all p (take (prefix_len p xs) xs) ≡ true → list_all p (take (cond b (1 + prefix_len p xs) 0) (x ∷ xs)) ≡ true
    go true e h = rw one-add (rw (e, h) refl)
    go false e h = refl

pub none_pass : (p : ℕ → Bool) (xs : List ℕ) (k : ℕ) → prefix_len p xs < k → k ≤ length xs → list_all p (take k xs) ≡ false
none_pass p [] k h w = absurd (omega arith)
none_pass p (x ∷ xs) zero h w = absurd (omega arith)
none_pass p (x ∷ xs) (suc k) h w = go (p x) refl (λ q. none_pass p xs k q (omega arith)) h
  where
    go : (b : Bool) → p x ≡ b → (prefix_len p xs < k → list_all p (take k xs) ≡ false) → cond b (1 + prefix_len p xs) 0 < suc k → p x && list_all p (take k xs) ≡ false
    go true e ih h = let q : list_all p (take k xs) ≡ false = ih (omega arith) in rw (e, q) refl
    go false e ih h = rw e refl

-- the choice at a test that holds is the first
pub if_true : {A : Type 0} (c : Bool) (x y : A) → c ≡ true → (if c then x else y) ≡ x
if_true true x y e = refl
if_true false x y e = absurd (cc)

-- the choice at a test that fails is the second
pub if_false : {A : Type 0} (c : Bool) (x y : A) → c ≡ false → (if c then x else y) ≡ y
if_false true x y e = absurd (cc)
if_false false x y e = refl

letter_lexeme : (b : ℕ) (bs : List ℕ) → is_name_start b ≡ true → (c : Bool) → list_all is_name_byte bs ≡ c
    → lexeme (b ∷ bs) ≡ (if c then Some (word_or_name (entry words (b ∷ bs)) (b ∷ bs)) else None)
unfolding lexeme
letter_lexeme b bs l c e = if_true (is_name_start b) _ _ l ∙ ap (λ x. if x then Some (word_or_name (entry words (b ∷ bs)) (b ∷ bs)) else None) e

-- a name or a keyword
pub name_found : (b : ℕ) (bs : List ℕ) → is_name_start b ≡ true
    → Longest (b ∷ bs) (suc (prefix_len is_name_byte bs)) (word_or_name (entry words (b ∷ take (prefix_len is_name_byte bs) bs)) (b ∷ take (prefix_len is_name_byte bs) bs))
name_found b bs l = record {
  within = omega (arith, prefix_len-le-length is_name_byte bs);
  is = letter_lexeme b (take (prefix_len is_name_byte bs) bs) l true (all_pass is_name_byte bs);
  longest = longest;
}
  where
    longest : (m : ℕ) → suc (prefix_len is_name_byte bs) < m → m ≤ suc (length bs) → lexeme (take m (b ∷ bs)) ≡ None
    longest zero h w = absurd (omega arith)
    longest (suc m) h w = letter_lexeme b (take m bs) l false (none_pass is_name_byte bs m (omega arith) (omega arith))

number_some : (sign : ℕ → ℤ) (b : ℕ) (bs : List ℕ) → is_ascii_digit b ≡ true → (c : Bool) → list_all is_ascii_digit bs ≡ c
    → number_of sign (b ∷ bs) ≡ (if c then Some (what.Int (sign (value_behind 0 (b ∷ bs)))) else None)
number_some sign b bs d c e = ap (λ x. if x && list_all is_ascii_digit bs then Some (what.Int (sign (value_behind 0 (b ∷ bs)))) else None) d ∙ ap (λ x. if x then Some (what.Int (sign (value_behind 0 (b ∷ bs)))) else None) e

digit_lexeme : (b : ℕ) (bs : List ℕ) → is_name_start b ≡ false → is_ascii_digit b ≡ true → lexeme (b ∷ bs) ≡ number_of pos (b ∷ bs)
unfolding lexeme
digit_lexeme b bs l d = if_false (is_name_start b) _ _ l ∙ if_true (is_ascii_digit b) _ _ d

-- a number with no sign
pub number_found : (b : ℕ) (bs : List ℕ) → is_name_start b ≡ false → is_ascii_digit b ≡ true
    → Longest (b ∷ bs) (suc (prefix_len is_ascii_digit bs)) (what.Int (pos (value_behind 0 (b ∷ take (prefix_len is_ascii_digit bs) bs))))
number_found b bs l d = record {
  within = omega (arith, prefix_len-le-length is_ascii_digit bs);
  is = digit_lexeme b (take (prefix_len is_ascii_digit bs) bs) l d ∙ number_some pos b (take (prefix_len is_ascii_digit bs) bs) d true (all_pass is_ascii_digit bs);
  longest = longest;
}
  where
    longest : (m : ℕ) → suc (prefix_len is_ascii_digit bs) < m → m ≤ suc (length bs) → lexeme (take m (b ∷ bs)) ≡ None
    longest zero h w = absurd (omega arith)
    longest (suc m) h w = digit_lexeme b (take m bs) l d ∙ number_some pos b (take m bs) d false (none_pass is_ascii_digit bs m (omega arith) (omega arith))

tilde_lexeme : (bs : List ℕ) → lexeme (126 ∷ bs) ≡ number_of (λ n. neg_ℤ (pos n)) bs
unfolding lexeme
tilde_lexeme bs = refl

-- the longest token at a tilde with a digit behind it is the negative number of all digits that follow
pub negative_found : (b : ℕ) (bs : List ℕ) → is_ascii_digit b ≡ true
    → Longest (126 ∷ b ∷ bs) (suc (suc (prefix_len is_ascii_digit bs))) (what.Int (neg_ℤ (pos (value_behind 0 (b ∷ take (prefix_len is_ascii_digit bs) bs)))))
negative_found b bs d = record {
  within = omega (arith, prefix_len-le-length is_ascii_digit bs);
  is = tilde_lexeme (b ∷ take (prefix_len is_ascii_digit bs) bs) ∙ number_some (λ n. neg_ℤ (pos n)) b (take (prefix_len is_ascii_digit bs) bs) d true (all_pass is_ascii_digit bs);
  longest = longest;
}
  where
    longest : (m : ℕ) → suc (suc (prefix_len is_ascii_digit bs)) < m → m ≤ suc (suc (length bs)) → lexeme (take m (126 ∷ b ∷ bs)) ≡ None
    longest zero h w = absurd (omega arith)
    longest (suc zero) h w = absurd (omega arith)
    longest (suc (suc m)) h w = tilde_lexeme (b ∷ take m bs) ∙ number_some (λ n. neg_ℤ (pos n)) b (take m bs) d false (none_pass is_ascii_digit bs m (omega arith) (omega arith))

no_bytes : lexeme [] ≡ None
unfolding lexeme
no_bytes = refl

not_digit : (b : ℕ) (bs : List ℕ) → is_ascii_digit b ≡ false → number_of (λ n. neg_ℤ (pos n)) (b ∷ bs) ≡ None
not_digit b bs d = ap (λ x. if x && list_all is_ascii_digit bs then Some (what.Int (neg_ℤ (pos (value_behind 0 (b ∷ bs))))) else None) d

-- a `~` with no digit behind it begins no token
pub tilde_alone : (bs : List ℕ) → prefix_len is_ascii_digit bs ≡ 0 → (m : ℕ) → m ≤ length (126 ∷ bs) → lexeme (take m (126 ∷ bs)) ≡ None
tilde_alone bs e zero w = no_bytes
tilde_alone bs e (suc zero) w = tilde_lexeme []
tilde_alone [] e (suc (suc m)) w = absurd (omega arith)
tilde_alone (b ∷ bs) e (suc (suc m)) w = tilde_lexeme (b ∷ take m bs) ∙ not_digit b (take m bs) (first (is_ascii_digit b) refl e)
  where
    first : (t : Bool) → is_ascii_digit b ≡ t → cond t (1 + prefix_len is_ascii_digit bs) 0 ≡ 0 → t ≡ false
    first true d z = absurd (omega arith)
    first false d z = refl

not_blank : (b : ℕ) → is_name_start b ≡ true → is_blank b ≡ false
not_blank b l = grind (arith, nat_tests)

not_dash : (b : ℕ) → is_name_start b ≡ true → nat_eq b 45 ≡ false
not_dash b l = grind (arith, nat_tests)

not_blank_digit : (b : ℕ) → is_ascii_digit b ≡ true → is_blank b ≡ false
not_blank_digit b l = grind (arith, nat_tests)

not_dash_digit : (b : ℕ) → is_ascii_digit b ≡ true → nat_eq b 45 ≡ false
not_dash_digit b l = grind (arith, nat_tests)

-- a byte that begins a name or a number is no blank and no dash
pub letter_not_skipped : (b : ℕ) (bs : List ℕ) → is_name_start b ≡ true → skipped (b ∷ bs) ≡ 0
unfolding skipped
letter_not_skipped b bs l = if_false (is_blank b) _ _ (not_blank b l) ∙ if_false (nat_eq b 45) _ _ (not_dash b l)

-- nothing is skipped before a digit
pub digit_not_skipped : (b : ℕ) (bs : List ℕ) → is_ascii_digit b ≡ true → skipped (b ∷ bs) ≡ 0
unfolding skipped
digit_not_skipped b bs l = if_false (is_blank b) _ _ (not_blank_digit b l) ∙ if_false (nat_eq b 45) _ _ (not_dash_digit b l)

-- nothing is skipped before a tilde
pub tilde_not_skipped : (bs : List ℕ) → skipped (126 ∷ bs) ≡ 0
unfolding skipped
tilde_not_skipped bs = refl

-- nothing is skipped before a quotation mark
pub quote_not_skipped : (bs : List ℕ) → skipped (34 ∷ bs) ≡ 0
unfolding skipped
quote_not_skipped bs = refl
