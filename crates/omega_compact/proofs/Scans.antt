-- Scans for the end of a token, as far as a loop has come.
-- Main results: front_quoted, word_begins.
use Rattle.std.proofs.Common.{◌≡◌, ℕ, zero, suc, ◌+◌, ◌<◌, ◌≤◌, Bool, true, false, cond, List, [], ◌∷◌, ◌++◌, length, get_or, take, drop, refl, sym, ap, ◌∙◌, arith}
use Rattle.std.specs.Prelude.{not, ◌==◌, ◌||◌}
use Rattle.std.proofs.lemmas.Bool.Decides.{nat_tests}
use Rattle.omega_compact.specs.Inner.Escapes.{ends, escapes}
use Rattle.omega_compact.specs.Tokens.{Token, Open, Close, Word, Quoted, Unended, Spot, Between, Comment, InWord, InText, Escaped, is_blank, in_word, with_first, from_byte, tokens_from}

equal : (a b : ℕ) → a ≡ b → (a == b) ≡ true
equal a b e = grind (arith, nat_tests)

other : (a b : ℕ) → (a ≡ b → ⊥) → (a == b) ≡ false
other a b e = grind (arith, nat_tests)

-- bytes before the first ones of the first token
abbrev pub with_front : List ℕ → List Token → List Token
with_front [] ts = ts
with_front (b ∷ bs) ts = with_first b (with_front bs ts)

front_word : (xs bytes : List ℕ) (ts : List Token) → with_front xs (Word bytes ∷ ts) ≡ Word (xs ++ bytes) ∷ ts
front_word [] bytes ts = refl
front_word (x ∷ xs) bytes ts = ap (with_first x) (front_word xs bytes ts)

-- bytes in front of a quoted token belong to it
pub front_quoted : (xs bytes : List ℕ) (ts : List Token) → with_front xs (Quoted bytes ∷ ts) ≡ Quoted (xs ++ bytes) ∷ ts
front_quoted [] bytes ts = refl
front_quoted (x ∷ xs) bytes ts = ap (with_first x) (front_quoted xs bytes ts)

front_unended : (xs bytes : List ℕ) (ts : List Token) → with_front xs (Unended bytes ∷ ts) ≡ Unended (xs ++ bytes) ∷ ts
front_unended [] bytes ts = refl
front_unended (x ∷ xs) bytes ts = ap (with_first x) (front_unended xs bytes ts)

-- a list with nothing behind it is the list
pub append_nil : (xs : List ℕ) → xs ++ [] ≡ xs
append_nil [] = refl
append_nil (x ∷ xs) = ap (λ (w : List ℕ). x ∷ w) (append_nil xs)

-- ---- comments

pub comment_on : (bs : List ℕ) (i d : ℕ) → i < length bs → (get_or bs i d ≡ 10 → ⊥) → tokens_from Comment (drop i bs) ≡ tokens_from Comment (drop (i + 1) bs)
comment_on [] i d lt h = absurd (omega arith)
comment_on (b ∷ bs) zero d lt h = rw (other b 10 h) refl
comment_on (b ∷ bs) (suc i) d lt h = let e : suc i + 1 ≡ suc (i + 1) = omega arith in rw e (comment_on bs i d (omega arith) h)

pub comment_at : (bs : List ℕ) (i d : ℕ) → i < length bs → get_or bs i d ≡ 10 → tokens_from Comment (drop i bs) ≡ tokens_from Between (drop i bs)
comment_at [] i d lt h = absurd (omega arith)
comment_at (b ∷ bs) zero d lt h = rw h refl
comment_at (b ∷ bs) (suc i) d lt h = comment_at bs i d (omega arith) h

pub comment_end : (bs : List ℕ) (i : ℕ) → length bs ≤ i → tokens_from Comment (drop i bs) ≡ tokens_from Between (drop (length bs) bs)
comment_end [] zero le = refl
comment_end [] (suc i) le = refl
comment_end (b ∷ bs) zero le = absurd (omega arith)
comment_end (b ∷ bs) (suc i) le = comment_end bs i (omega arith)

pub ruleset comments = (comment_on, comment_at, comment_end)

-- ---- words

pub word_on : (bs : List ℕ) (i d : ℕ) → i < length bs → in_word (get_or bs i d) ≡ true
    → with_front (take i bs) (tokens_from InWord (drop i bs)) ≡ with_front (take (i + 1) bs) (tokens_from InWord (drop (i + 1) bs))
word_on [] i d lt h = absurd (omega arith)
word_on (b ∷ bs) zero d lt h = rw h refl
word_on (b ∷ bs) (suc i) d lt h = let e : suc i + 1 ≡ suc (i + 1) = omega arith in rw e (ap (with_first b) (word_on bs i d (omega arith) h))

pub word_at : (bs : List ℕ) (i d : ℕ) → i < length bs → in_word (get_or bs i d) ≡ false
    → with_front (take i bs) (tokens_from InWord (drop i bs)) ≡ Word (take i bs) ∷ tokens_from Between (drop i bs)
word_at [] i d lt h = absurd (omega arith)
word_at (b ∷ bs) zero d lt h = rw h refl
word_at (b ∷ bs) (suc i) d lt h = ap (with_first b) (word_at bs i d (omega arith) h)

pub word_end : (bs : List ℕ) (i : ℕ) → length bs ≤ i
    → with_front (take i bs) (tokens_from InWord (drop i bs)) ≡ Word (take (length bs) bs) ∷ tokens_from Between (drop (length bs) bs)
word_end [] zero le = refl
word_end [] (suc i) le = refl
word_end (b ∷ bs) zero le = absurd (omega arith)
word_end (b ∷ bs) (suc i) le = ap (with_first b) (word_end bs i (omega arith))

pub ruleset words = (word_on, word_at, word_end)

-- ---- quoted texts

abbrev pub text_spot : Bool → Spot
text_spot true = Escaped
text_spot false = InText

-- the tokens of a text of which so many bytes are scanned
abbrev pub text_left : Bool → ℕ → List ℕ → List Token
text_left escaped i bs = with_front (take i bs) (tokens_from (text_spot escaped) (drop i bs))

text_here : (b : ℕ) (bs : List ℕ) (escaped : Bool) → ends escaped b ≡ false
    → tokens_from (text_spot escaped) (b ∷ bs) ≡ with_first b (tokens_from (text_spot (escapes escaped b)) bs)
text_here b bs true h = refl
text_here b bs false h = rw h (slash (b == 92))
  where
    slash : (t : Bool) → cond t (with_first b (tokens_from Escaped bs)) (with_first b (tokens_from InText bs)) ≡ with_first b (tokens_from (text_spot t) bs)
    slash true = refl
    slash false = refl

text_ends : (b : ℕ) (bs : List ℕ) (escaped : Bool) → ends escaped b ≡ true → tokens_from (text_spot escaped) (b ∷ bs) ≡ Quoted [] ∷ tokens_from Between bs
text_ends b bs true h = absurd cc
text_ends b bs false h = rw h refl

pub text_more : (bs : List ℕ) (i d : ℕ) (escaped : Bool) → i < length bs → ends escaped (get_or bs i d) ≡ false
    → text_left escaped i bs ≡ text_left (escapes escaped (get_or bs i d)) (i + 1) bs
text_more [] i d escaped lt h = absurd (omega arith)
text_more (b ∷ bs) zero d escaped lt h = text_here b bs escaped h
text_more (b ∷ bs) (suc i) d escaped lt h = let e : suc i + 1 ≡ suc (i + 1) = omega arith in rw e (ap (with_first b) (text_more bs i d escaped (omega arith) h))

pub text_at : (bs : List ℕ) (i d : ℕ) (escaped : Bool) → i < length bs → ends escaped (get_or bs i d) ≡ true
    → text_left escaped i bs ≡ Quoted (take i bs) ∷ tokens_from Between (drop (i + 1) bs)
text_at [] i d escaped lt h = absurd (omega arith)
text_at (b ∷ bs) zero d escaped lt h = text_ends b bs escaped h
text_at (b ∷ bs) (suc i) d escaped lt h = let e : suc i + 1 ≡ suc (i + 1) = omega arith in rw e (ap (with_first b) (text_at bs i d escaped (omega arith) h))

pub text_end : (bs : List ℕ) (i : ℕ) (escaped : Bool) → length bs ≤ i → text_left escaped i bs ≡ Unended bs ∷ []
text_end [] zero true le = refl
text_end [] zero false le = refl
text_end [] (suc i) true le = refl
text_end [] (suc i) false le = refl
text_end (b ∷ bs) zero escaped le = absurd (omega arith)
text_end (b ∷ bs) (suc i) escaped le = ap (with_first b) (text_end bs i escaped (omega arith))

pub ruleset texts = (text_more, text_at, text_end)

-- ---- what a byte begins

pub front_open : (bs : List ℕ) → 0 < length bs → get_or bs 0 0 ≡ 40 → tokens_from Between bs ≡ Open ∷ tokens_from Between (drop 1 bs)
front_open [] lt h = absurd (omega arith)
front_open (b ∷ bs) lt h = rw h refl

pub front_close : (bs : List ℕ) → 0 < length bs → get_or bs 0 0 ≡ 41 → tokens_from Between bs ≡ Close ∷ tokens_from Between (drop 1 bs)
front_close [] lt h = absurd (omega arith)
front_close (b ∷ bs) lt h = rw h refl

pub front_text : (bs : List ℕ) → 0 < length bs → get_or bs 0 0 ≡ 34 → tokens_from Between bs ≡ tokens_from InText (drop 1 bs)
front_text [] lt h = absurd (omega arith)
front_text (b ∷ bs) lt h = rw h refl

pub front_comment : (bs : List ℕ) → 0 < length bs → get_or bs 0 0 ≡ 59 → tokens_from Between bs ≡ tokens_from Comment (drop 1 bs)
front_comment [] lt h = absurd (omega arith)
front_comment (b ∷ bs) lt h = rw h refl

not_or : (a b : Bool) → not (a || b) ≡ true → (not a ≡ true) × (b ≡ false)
not_or true b e = absurd cc
not_or false true e = absurd cc
not_or false false e = (refl, refl)

not_true : (a : Bool) → not a ≡ true → a ≡ false
not_true true e = absurd cc
not_true false e = refl

-- a byte of a word begins nothing else
pub record BeginsWord (b : ℕ) : Type 0 where
  pub blank : is_blank b ≡ false
  pub opener : (b == 40) ≡ false
  pub close : (b == 41) ≡ false
  pub quote : (b == 34) ≡ false
  pub comment : (b == 59) ≡ false

pub begins_word : (b : ℕ) → in_word b ≡ true → BeginsWord b
begins_word b h =
    let s = not_or (is_blank b || b == 40 || b == 41 || b == 34) (b == 59) h in
    let r = not_or (is_blank b || b == 40 || b == 41) (b == 34) s.0 in
    let q = not_or (is_blank b || b == 40) (b == 41) r.0 in
    let p = not_or (is_blank b) (b == 40) q.0 in
    record { blank = not_true (is_blank b) p.0; opener = p.1; close = q.1; quote = r.1; comment = s.1 }

-- a byte that may stand in a word begins or goes on with one
pub word_begins : (b : ℕ) (behind : Spot → List Token) → in_word b ≡ true → from_byte b behind ≡ with_first b (behind InWord)
word_begins b behind h = let w = begins_word b h in rw (w.opener, w.close, w.quote, w.comment, w.blank) refl

pub front_blank : (bs : List ℕ) → 0 < length bs → (get_or bs 0 0 ≡ 40 → ⊥) → (get_or bs 0 0 ≡ 41 → ⊥) → (get_or bs 0 0 ≡ 34 → ⊥) → (get_or bs 0 0 ≡ 59 → ⊥)
    → is_blank (get_or bs 0 0) ≡ true → tokens_from Between bs ≡ tokens_from Between (drop 1 bs)
front_blank [] lt o c q s h = absurd (omega arith)
front_blank (b ∷ bs) lt o c q s h = rw (other b 40 o, other b 41 c, other b 34 q, other b 59 s, h) refl

pub front_is_word : (bs : List ℕ) (n : ℕ) → 0 < length bs → in_word (get_or bs 0 0) ≡ true
    → tokens_from InWord (drop 1 bs) ≡ Word (take n (drop 1 bs)) ∷ tokens_from Between (drop n (drop 1 bs))
    → tokens_from Between bs ≡ Word (take (1 + n) bs) ∷ tokens_from Between (drop (1 + n) bs)
front_is_word [] n lt h e = absurd (omega arith)
front_is_word (b ∷ bs) n lt h e =
    let k : 1 + n ≡ suc n = omega arith in
    rw (k, word_begins b (λ spot. tokens_from spot bs) h) (ap (with_first b) e)

pub other_is_word : (b : ℕ) → (b ≡ 40 → ⊥) → (b ≡ 41 → ⊥) → (b ≡ 34 → ⊥) → (b ≡ 59 → ⊥) → is_blank b ≡ false → in_word b ≡ true
other_is_word b o c q s h = rw (h, other b 40 o, other b 41 c, other b 34 q, other b 59 s) refl

pub ruleset fronts = (front_open, front_close, front_text, front_comment, front_blank, front_is_word, other_is_word)

-- ---- all bytes

-- where no bytes are left, all tokens are there
read_none : (rest : List ℕ) → (length rest == 0) ≡ true → tokens_from Between rest ≡ []
read_none [] h = refl
read_none (b ∷ bs) h = absurd (no (length bs) h)
  where
    no : (n : ℕ) → (suc n == 0) ≡ true → ⊥
    no n h = grind (arith, nat_tests)

no_more : (ts : List Token) → ts ++ [] ≡ ts
no_more [] = refl
no_more (t ∷ ts) = ap (λ (w : List Token). t ∷ w) (no_more ts)

pub all_tokens : (ts us : List Token) (rest : List ℕ) → (length rest == 0) ≡ true → ts ++ tokens_from Between rest ≡ us → ts ≡ us
all_tokens ts us rest h e = sym (ap (λ (w : List Token). ts ++ w) (read_none rest h) ∙ no_more ts) ∙ e

pub ruleset all_read = (all_tokens)
