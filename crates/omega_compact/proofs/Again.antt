-- The text of the tokens of bytes has these tokens.
-- Main results: same_tokens, compact_again.
use Rattle.std.proofs.Common.{◌≡◌, ℕ, ◌+◌, ◌-◌, Bool, true, false, cond, List, [], ◌∷◌, ◌++◌, Option, Some, None, refl, ap, ◌∙◌, append_assoc}
use Rattle.std.specs.Prelude.{not, ◌==◌, ◌||◌, ◌&&◌}
use Rattle.omega_compact.specs.Tokens.{Token, Open, Close, Word, Quoted, Unended, Spot, Between, Comment, InWord, InText, Escaped, is_blank, in_word, with_first, from_byte, tokens_from, tokens_of}
use Rattle.omega_compact.specs.Spelling.{is_open, is_close, is_omega, token_text, gap, before, ending, spelled_from, spelled, compacted}
use Rattle.omega_compact.proofs.Scans.{append_nil, word_begins}

-- all bytes may stand in a word
abbrev pub all_in_word : List ℕ → Type 0
all_in_word [] = Unit {0}
all_in_word (b ∷ bs) = (in_word b ≡ true) × all_in_word bs

-- one or more bytes that may stand in a word
abbrev pub IsWord : List ℕ → Type 0
IsWord [] = ⊥
IsWord (b ∷ bs) = (in_word b ≡ true) × all_in_word bs

-- the bytes between two quotes
abbrev pub IsText : Spot → List ℕ → Type 0
IsText spot bytes = (rest : List ℕ) → tokens_from spot (bytes ++ (34 ∷ rest)) ≡ Quoted bytes ∷ tokens_from Between rest

-- tokens as they come from bytes
abbrev pub Fine : List Token → Type 0
Fine [] = Unit {0}
Fine (Open ∷ ts) = Fine ts
Fine (Close ∷ ts) = Fine ts
Fine (Word bytes ∷ ts) = IsWord bytes × Fine ts
Fine (Quoted bytes ∷ ts) = IsText InText bytes × Fine ts
Fine (Unended bytes ∷ ts) = (tokens_from InText bytes ≡ Unended bytes ∷ []) × (ts ≡ [])

-- tokens of which the first one is what is left of a word
pub data WordLeft : List Token → Type 0 where
  word_left : {bytes : List ℕ} {ts : List Token} → all_in_word bytes → Fine ts → WordLeft (Word bytes ∷ ts)

-- tokens of which the first one is what is left of a text from a spot on
pub data TextLeft (spot : Spot) : List Token → Type 0 where
  text_left : {bytes : List ℕ} {ts : List Token} → IsText spot bytes → Fine ts → TextLeft spot (Quoted bytes ∷ ts)
  cut_left : {bytes : List ℕ} → tokens_from spot bytes ≡ Unended bytes ∷ [] → TextLeft spot (Unended bytes ∷ [])

abbrev pub FineFrom : Spot → List Token → Type 0
FineFrom Between ts = Fine ts
FineFrom Comment ts = Fine ts
FineFrom InWord ts = WordLeft ts
FineFrom InText ts = TextLeft InText ts
FineFrom Escaped ts = TextLeft Escaped ts

word_fine : (b : ℕ) (ts : List Token) → in_word b ≡ true → WordLeft ts → Fine (with_first b ts)
word_fine b _ h (word_left w f) = ((h, w), f)

word_longer : (b : ℕ) (ts : List Token) → in_word b ≡ true → WordLeft ts → WordLeft (with_first b ts)
word_longer b _ h (word_left w f) = word_left (h, w) f

text_fine : (ts : List Token) → TextLeft InText ts → Fine ts
text_fine _ (text_left t f) = (t, f)
text_fine _ (cut_left e) = (e, refl)

-- a byte in a text, from whose spot the rest begins at another one
text_longer : (b : ℕ) (from to : Spot) (ts : List Token) → ((bytes : List ℕ) → tokens_from from (b ∷ bytes) ≡ with_first b (tokens_from to bytes)) → TextLeft to ts → TextLeft from (with_first b ts)
text_longer b from to _ step (text_left {bytes} t f) = text_left (λ rest. step (bytes ++ (34 ∷ rest)) ∙ ap (with_first b) (t rest)) f
text_longer b from to _ step (cut_left {bytes} e) = cut_left (step bytes ∙ ap (with_first b) e)

no_mark : (b : ℕ) → is_blank b ≡ false → (b == 40) ≡ false → (b == 41) ≡ false → (b == 34) ≡ false → (b == 59) ≡ false → in_word b ≡ true
no_mark b w o c q s = rw (w, o, c, q, s) refl

byte_fine : (b : ℕ) (behind : Spot → List Token) → ((spot : Spot) → FineFrom spot (behind spot)) → Fine (from_byte b behind)
byte_fine b behind fine = opener (b == 40) refl
  where
    blank : (t : Bool) → is_blank b ≡ t → (b == 40) ≡ false → (b == 41) ≡ false → (b == 34) ≡ false → (b == 59) ≡ false → Fine (cond t (behind Between) (with_first b (behind InWord)))
    blank true w o c q s = fine Between
    blank false w o c q s = word_fine b (behind InWord) (no_mark b w o c q s) (fine InWord)

    comment : (t : Bool) → (b == 59) ≡ t → (b == 40) ≡ false → (b == 41) ≡ false → (b == 34) ≡ false
        → Fine (cond t (behind Comment) (cond (is_blank b) (behind Between) (with_first b (behind InWord))))
    comment true s o c q = fine Comment
    comment false s o c q = blank (is_blank b) refl o c q s

    quote : (t : Bool) → (b == 34) ≡ t → (b == 40) ≡ false → (b == 41) ≡ false
        → Fine (cond t (behind InText) (cond (b == 59) (behind Comment) (cond (is_blank b) (behind Between) (with_first b (behind InWord)))))
    quote true q o c = text_fine (behind InText) (fine InText)
    quote false q o c = comment (b == 59) refl o c q

    close : (t : Bool) → (b == 41) ≡ t → (b == 40) ≡ false
        → Fine (cond t (Close ∷ behind Between) (cond (b == 34) (behind InText) (cond (b == 59) (behind Comment) (cond (is_blank b) (behind Between) (with_first b (behind InWord))))))
    close true c o = fine Between
    close false c o = quote (b == 34) refl o c

    opener : (t : Bool) → (b == 40) ≡ t
        → Fine (cond t (Open ∷ behind Between) (cond (b == 41) (Close ∷ behind Between) (cond (b == 34) (behind InText) (cond (b == 59) (behind Comment) (cond (is_blank b) (behind Between) (with_first b (behind InWord)))))))
    opener true o = fine Between
    opener false o = close (b == 41) refl o

text_step : (b : ℕ) (bytes : List ℕ) → (b == 34) ≡ false → (b == 92) ≡ false → tokens_from InText (b ∷ bytes) ≡ with_first b (tokens_from InText bytes)
text_step b bytes q e = rw (q, e) refl

escape_step : (b : ℕ) (bytes : List ℕ) → (b == 34) ≡ false → (b == 92) ≡ true → tokens_from InText (b ∷ bytes) ≡ with_first b (tokens_from Escaped bytes)
escape_step b bytes q e = rw (q, e) refl

pub fine : (bs : List ℕ) (spot : Spot) → FineFrom spot (tokens_from spot bs)
fine [] Between = tt
fine [] Comment = tt
fine [] InWord = word_left tt tt
fine [] InText = cut_left refl
fine [] Escaped = cut_left refl
fine (b ∷ bs) Between = byte_fine b (λ spot. tokens_from spot bs) (λ spot. fine bs spot)
fine (b ∷ bs) Comment = go (b == 10) (fine bs Between) (fine bs Comment)
  where
    go : (t : Bool) → Fine (tokens_from Between bs) → Fine (tokens_from Comment bs) → Fine (cond t (tokens_from Between bs) (tokens_from Comment bs))
    go true f g = f
    go false f g = g
fine (b ∷ bs) InWord = go (in_word b) refl (fine bs InWord) (byte_fine b (λ spot. tokens_from spot bs) (λ spot. fine bs spot))
  where
    go : (t : Bool) → in_word b ≡ t → WordLeft (tokens_from InWord bs) → Fine (from_byte b (λ spot. tokens_from spot bs))
        → WordLeft (cond t (with_first b (tokens_from InWord bs)) (Word [] ∷ from_byte b (λ spot. tokens_from spot bs)))
    go true h w f = word_longer b (tokens_from InWord bs) h w
    go false h w f = word_left tt f
fine (b ∷ bs) InText = quote (b == 34) refl (fine bs Between) (fine bs Escaped) (fine bs InText)
  where
    escape : (t : Bool) → (b == 92) ≡ t → (b == 34) ≡ false → TextLeft Escaped (tokens_from Escaped bs) → TextLeft InText (tokens_from InText bs)
        → TextLeft InText (cond t (with_first b (tokens_from Escaped bs)) (with_first b (tokens_from InText bs)))
    escape true e q x y = text_longer b InText Escaped (tokens_from Escaped bs) (λ bytes. escape_step b bytes q e) x
    escape false e q x y = text_longer b InText InText (tokens_from InText bs) (λ bytes. text_step b bytes q e) y

    quote : (t : Bool) → (b == 34) ≡ t → Fine (tokens_from Between bs) → TextLeft Escaped (tokens_from Escaped bs) → TextLeft InText (tokens_from InText bs)
        → TextLeft InText (cond t (Quoted [] ∷ tokens_from Between bs) (cond (b == 92) (with_first b (tokens_from Escaped bs)) (with_first b (tokens_from InText bs))))
    quote true q f x y = text_left (λ rest. refl) f
    quote false q f x y = escape (b == 92) refl q x y
fine (b ∷ bs) Escaped = text_longer b Escaped InText (tokens_from InText bs) (λ bytes. refl) (fine bs InText)

-- ---- reading again

-- the bytes begin with none that goes on a word
abbrev pub EndsWord : List ℕ → Type 0
EndsWord [] = Unit {0}
EndsWord (b ∷ bs) = in_word b ≡ false

-- a byte that ends a word is read as one between tokens
word_ends : (rest : List ℕ) → EndsWord rest → tokens_from InWord rest ≡ Word [] ∷ tokens_from Between rest
word_ends [] e = refl
word_ends (b ∷ bs) e = rw e refl

word_on : (bytes rest : List ℕ) → all_in_word bytes → EndsWord rest → tokens_from InWord (bytes ++ rest) ≡ Word bytes ∷ tokens_from Between rest
word_on [] rest w e = word_ends rest e
word_on (b ∷ bs) rest w e = let h = w.0 in rw h (ap (with_first b) (word_on bs rest w.1 e))

-- a word is read again as a token where what is behind it ends words
pub word_again : (bytes rest : List ℕ) → IsWord bytes → EndsWord rest → tokens_from Between (bytes ++ rest) ≡ Word bytes ∷ tokens_from Between rest
word_again [] rest w e = absurd w
word_again (b ∷ bs) rest w e = word_begins b (λ spot. tokens_from spot (bs ++ rest)) w.0 ∙ ap (with_first b) (word_on bs rest w.1 e)

-- what stands between tokens is nothing to the reader
gap_again : (n : ℕ) (left right : Token) (rest : List ℕ) → tokens_from Between (gap n left right ++ rest) ≡ tokens_from Between rest
gap_again n left right rest = go (is_open left || is_close right) (n == 0 && not (is_omega left))
  where
    go : (t u : Bool) → tokens_from Between ((cond t [] (cond u (10 ∷ []) (32 ∷ []))) ++ rest) ≡ tokens_from Between rest
    go true u = refl
    go false true = refl
    go false false = refl

before_again : (n : ℕ) (left : Option Token) (t : Token) (rest : List ℕ) → tokens_from Between (before n left t ++ rest) ≡ tokens_from Between rest
before_again n None t rest = refl
before_again n (Some left) t rest = gap_again n left t rest

gap_ends : (n : ℕ) (bytes : List ℕ) (t : Token) (rest : List ℕ) → is_close t ≡ false → EndsWord (gap n (Word bytes) t ++ rest)
gap_ends n bytes t rest h = rw h (go (n == 0 && not (is_omega (Word bytes))))
  where
    go : (u : Bool) → EndsWord (cond u (10 ∷ []) (32 ∷ []) ++ rest)
    go true = refl
    go false = refl

ends_word : (n : ℕ) (bytes : List ℕ) (ts : List Token) → EndsWord (spelled_from n (Some (Word bytes)) ts)
ends_word n bytes [] = refl
ends_word n bytes (Close ∷ ts) = refl
ends_word n bytes (Open ∷ ts) = gap_ends n bytes Open (40 ∷ spelled_from (n + 1) (Some Open) ts) refl
ends_word n bytes (Word w ∷ ts) = gap_ends n bytes (Word w) (w ++ spelled_from n (Some (Word w)) ts) refl
ends_word n bytes (Quoted w ∷ ts) = gap_ends n bytes (Quoted w) (token_text (Quoted w) ++ spelled_from n (Some (Quoted w)) ts) refl
ends_word n bytes (Unended w ∷ ts) = gap_ends n bytes (Unended w) (token_text (Unended w) ++ spelled_from n (Some (Unended w)) ts) refl

ending_again : (left : Option Token) → tokens_from Between (ending left) ≡ []
ending_again None = refl
ending_again (Some Open) = refl
ending_again (Some Close) = refl
ending_again (Some (Word bytes)) = refl
ending_again (Some (Quoted bytes)) = refl
ending_again (Some (Unended bytes)) = refl

pub again : (n : ℕ) (left : Option Token) (ts : List Token) → Fine ts → tokens_from Between (spelled_from n left ts) ≡ ts
again n left [] f = ending_again left
again n left (Open ∷ ts) f = before_again n left Open (40 ∷ spelled_from (n + 1) (Some Open) ts) ∙ ap (λ (w : List Token). Open ∷ w) (again (n + 1) (Some Open) ts f)
again n left (Close ∷ ts) f = before_again n left Close (41 ∷ spelled_from (n - 1) (Some Close) ts) ∙ ap (λ (w : List Token). Close ∷ w) (again (n - 1) (Some Close) ts f)
again n left (Word bytes ∷ ts) f =
    before_again n left (Word bytes) (bytes ++ spelled_from n (Some (Word bytes)) ts) ∙ word_again bytes (spelled_from n (Some (Word bytes)) ts) f.0 (ends_word n bytes ts)
    ∙ ap (λ (w : List Token). Word bytes ∷ w) (again n (Some (Word bytes)) ts f.1)
again n left (Quoted bytes ∷ ts) f =
    let rest : List ℕ = spelled_from n (Some (Quoted bytes)) ts in
    before_again n left (Quoted bytes) ((34 ∷ (bytes ++ (34 ∷ []))) ++ rest) ∙ ap (tokens_from InText) (append_assoc bytes (34 ∷ []) rest) ∙ f.0 rest
    ∙ ap (λ (w : List Token). Quoted bytes ∷ w) (again n (Some (Quoted bytes)) ts f.1)
again n left (Unended bytes ∷ ts) f = before_again n left (Unended bytes) ((34 ∷ bytes) ++ spelled_from n (Some (Unended bytes)) ts) ∙ cut bytes ts f.0 f.1
  where
    cut : (bytes : List ℕ) (ts : List Token) → tokens_from InText bytes ≡ Unended bytes ∷ [] → ts ≡ []
        → tokens_from InText (bytes ++ spelled_from n (Some (Unended bytes)) ts) ≡ Unended bytes ∷ ts
    cut bytes ts e h = rw (h, append_nil bytes) e

-- the compact text of bytes has the tokens of the bytes
pub same_tokens : (bytes : List ℕ) → tokens_of (compacted bytes) ≡ tokens_of bytes
unfolding tokens_of spelled
same_tokens bytes = again 0 None (tokens_from Between bytes) (fine bytes Between)

-- a compact text is its own compact text
pub compact_again : (bytes : List ℕ) → compacted (compacted bytes) ≡ compacted bytes
compact_again bytes = ap spelled (same_tokens bytes)
