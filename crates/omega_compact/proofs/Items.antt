-- Texts that are compact already, byte by byte: items behind a token, with exactly the blanks that are wanted.
-- Main results: two_form, fields_form, case_form.
use Rattle.std.proofs.Common.{◌≡◌, ℕ, ◌+◌, ◌-◌, ◌≤◌, Bool, true, false, cond, List, [], ◌∷◌, ◌++◌, Option, Some, None, refl, sym, ap, ◌∙◌, subst, append_assoc, arith, inl, inr}
use Rattle.std.specs.Prelude.{◌⊎◌, codes, ◌==◌, flat_map}
use Rattle.std.proofs.lemmas.Bool.Decides.{nat_tests}
use Rattle.omega_kinds.specs.Text.{◌then◌}
use Rattle.omega_terms.specs.TermText.{byte_text}
use Rattle.omega_compact.specs.Tokens.{Token, Open, Close, Word, Quoted, Between, InText, tokens_from}
use Rattle.omega_compact.specs.Spelling.{is_omega, token_text, open_after, gap, before, spelled_from}
use Rattle.omega_compact.proofs.Scans.{with_front, front_quoted}
use Rattle.omega_compact.proofs.Again.{IsWord, IsText, EndsWord, word_again}

-- A text is compact behind a token, where so many parentheses are open.
abbrev pub Compact : ℕ → Option Token → List ℕ → Type 0
Compact n left bytes = spelled_from n left (tokens_from Between bytes) ≡ bytes

-- An item, before whatever is compact behind it: with what stands before an item, it is compact behind each token. The item
-- is one where at least so many parentheses are open.
abbrev pub Item : ℕ → List ℕ → Type 0
Item low item = (n : ℕ) → low ≤ n → (left : Option Token) (rest : List ℕ) → EndsWord rest → Compact n (Some Close) rest
    → spelled_from n left (tokens_from Between (item ++ rest)) ≡ before n left Open ++ (item ++ rest)

-- an item at any depth is one inside parentheses
pub inner : (item : List ℕ) → Item 0 item → Item 1 item
inner item i n le left rest ends c = i n (omega arith) left rest ends c

-- ---- words and quoted texts

no_zero : (n : ℕ) → 1 ≤ n → (n == 0) ≡ false
no_zero n h = grind (arith, nat_tests)

same_gap : (n : ℕ) (word : List ℕ) (t : Token) → (is_omega (Word word) ≡ false) ⊎ (1 ≤ n) → gap n (Word word) t ≡ gap n Close t
same_gap n word t (inl h) = rw h refl
same_gap n word t (inr h) = let z = no_zero n h in rw z refl

-- behind a word is spelled what is behind a parenthesis, if the word is not `omega` or parentheses are open
pub behind_word : (n : ℕ) (word : List ℕ) (ts : List Token) → (is_omega (Word word) ≡ false) ⊎ (1 ≤ n) → spelled_from n (Some (Word word)) ts ≡ spelled_from n (Some Close) ts
behind_word n word [] h = refl
behind_word n word (t ∷ ts) h = ap (λ (w : List ℕ). w ++ (token_text t ++ spelled_from (open_after n t) (Some t) ts)) (same_gap n word t h)

before_word : (n : ℕ) (left : Option Token) (word : List ℕ) → before n left (Word word) ≡ before n left Open
before_word n None word = refl
before_word n (Some left) word = refl

word_there : (word : List ℕ) → IsWord word → (n : ℕ) → (is_omega (Word word) ≡ false) ⊎ (1 ≤ n) → (left : Option Token) (rest : List ℕ) → EndsWord rest → Compact n (Some Close) rest
    → spelled_from n left (tokens_from Between (word ++ rest)) ≡ before n left Open ++ (word ++ rest)
word_there word w n h left rest ends c =
    ap (spelled_from n left) (word_again word rest w ends)
    ∙ ap (λ (x : List ℕ). x ++ (word ++ spelled_from n (Some (Word word)) (tokens_from Between rest))) (before_word n left word)
    ∙ ap (λ (x : List ℕ). before n left Open ++ (word ++ x)) (behind_word n word (tokens_from Between rest) h ∙ c)

-- a word is an item inside parentheses
pub word_item : (word : List ℕ) → IsWord word → Item 1 word
word_item word w n le left rest ends c = word_there word w n (inr le) left rest ends c

-- a word other than `omega` is an item at any depth
pub word_whole : (word : List ℕ) → IsWord word → is_omega (Word word) ≡ false → Item 0 word
word_whole word w h n le left rest ends c = word_there word w n (inl h) left rest ends c

behind_text : (n : ℕ) (bytes : List ℕ) (ts : List Token) → spelled_from n (Some (Quoted bytes)) ts ≡ spelled_from n (Some Close) ts
behind_text n bytes [] = refl
behind_text n bytes (t ∷ ts) = refl

before_text : (n : ℕ) (left : Option Token) (bytes : List ℕ) → before n left (Quoted bytes) ≡ before n left Open
before_text n None bytes = refl
before_text n (Some left) bytes = refl

text_there : (bytes : List ℕ) → IsText InText bytes → (n : ℕ) (left : Option Token) (rest : List ℕ) → Compact n (Some Close) rest
    → spelled_from n left (tokens_from Between (34 ∷ (bytes ++ (34 ∷ rest)))) ≡ before n left Open ++ (34 ∷ (bytes ++ (34 ∷ rest)))
text_there bytes text n left rest c =
    ap (spelled_from n left) (text rest)
    ∙ ap (λ (x : List ℕ). x ++ ((34 ∷ (bytes ++ (34 ∷ []))) ++ spelled_from n (Some (Quoted bytes)) (tokens_from Between rest))) (before_text n left bytes)
    ∙ ap (λ (x : List ℕ). before n left Open ++ ((34 ∷ (bytes ++ (34 ∷ []))) ++ x)) (behind_text n bytes (tokens_from Between rest) ∙ c)
    ∙ ap (λ (x : List ℕ). before n left Open ++ (34 ∷ x)) (append_assoc bytes (34 ∷ []) rest)

-- a quoted text is an item at any depth
pub text_item : (bytes : List ℕ) → IsText InText bytes → Item 0 (34 ∷ (bytes ++ (34 ∷ [])))
text_item bytes text n le left rest ends c =
    subst (λ (z : List ℕ). spelled_from n left (tokens_from Between (34 ∷ z)) ≡ before n left Open ++ (34 ∷ z)) (sym (append_assoc bytes (34 ∷ []) rest))
    (text_there bytes text n left rest c)

byte_again : (b : ℕ) (rest : List ℕ) → tokens_from InText (byte_text b ++ rest) ≡ with_front (byte_text b) (tokens_from InText rest)
byte_again b rest = quote (b == 34) refl
  where
    line : (t : Bool) → (b == 10) ≡ t → (b == 34) ≡ false → (b == 92) ≡ false
        → tokens_from InText ((cond t (92 ∷ 110 ∷ []) (b ∷ [])) ++ rest) ≡ with_front (cond t (92 ∷ 110 ∷ []) (b ∷ [])) (tokens_from InText rest)
    line true e q s = refl
    line false e q s = rw (q, s) refl

    slash : (t : Bool) → (b == 92) ≡ t → (b == 34) ≡ false
        → tokens_from InText ((cond t (92 ∷ 92 ∷ []) (cond (b == 10) (92 ∷ 110 ∷ []) (b ∷ []))) ++ rest) ≡ with_front (cond t (92 ∷ 92 ∷ []) (cond (b == 10) (92 ∷ 110 ∷ []) (b ∷ []))) (tokens_from InText rest)
    slash true s q = refl
    slash false s q = line (b == 10) refl q s

    quote : (t : Bool) → (b == 34) ≡ t
        → tokens_from InText ((cond t (92 ∷ 34 ∷ []) (cond (b == 92) (92 ∷ 92 ∷ []) (cond (b == 10) (92 ∷ 110 ∷ []) (b ∷ [])))) ++ rest)
        ≡ with_front (cond t (92 ∷ 34 ∷ []) (cond (b == 92) (92 ∷ 92 ∷ []) (cond (b == 10) (92 ∷ 110 ∷ []) (b ∷ [])))) (tokens_from InText rest)
    quote true q = refl
    quote false q = slash (b == 92) refl q

-- the bytes of a text, as they are written, stand between two quotes
pub bytes_text : (bytes : List ℕ) → IsText InText (flat_map byte_text bytes)
bytes_text [] rest = refl
bytes_text (b ∷ bytes) rest =
    ap (tokens_from InText) (append_assoc (byte_text b) (flat_map byte_text bytes) (34 ∷ rest))
    ∙ byte_again b (flat_map byte_text bytes ++ (34 ∷ rest))
    ∙ ap (with_front (byte_text b)) (bytes_text bytes rest)
    ∙ front_quoted (byte_text b) (flat_map byte_text bytes) (tokens_from Between rest)

-- ---- forms

pub closing : (n : ℕ) (rest : List ℕ) → Compact n (Some Close) rest → Compact (n + 1) (Some Close) (41 ∷ rest)
closing n rest c =
    let k : n + 1 - 1 ≡ n = omega arith in
    ap (λ (m : ℕ). 41 ∷ spelled_from m (Some Close) (tokens_from Between rest)) k ∙ ap (λ (w : List ℕ). 41 ∷ w) c

gap_inside : (n : ℕ) → 1 ≤ n → gap n Close Open ≡ 32 ∷ []
gap_inside n h = let z = no_zero n h in rw z refl

-- one more item, behind another
pub next : (n : ℕ) (item rest : List ℕ) → 1 ≤ n → Item 1 item → EndsWord rest → Compact n (Some Close) rest → Compact n (Some Close) (32 ∷ (item ++ rest))
next n item rest le i ends c = i n le (Some Close) rest ends c ∙ ap (λ (w : List ℕ). w ++ (item ++ rest)) (gap_inside n le)

-- a form whose first item has this one, behind whatever token
pub opening : (n : ℕ) (item rest : List ℕ) → Item 1 item → EndsWord rest → Compact (n + 1) (Some Close) rest → (left : Option Token)
    → spelled_from n left (tokens_from Between (40 ∷ (item ++ rest))) ≡ before n left Open ++ (40 ∷ (item ++ rest))
opening n item rest i ends c left = ap (λ (w : List ℕ). before n left Open ++ (40 ∷ w)) (i (n + 1) (omega arith) (Some Open) rest ends c)

-- a text that is this one, written in another way
abbrev There : ℕ → Option Token → List ℕ → Type 0
There n left z = spelled_from n left (tokens_from Between z) ≡ before n left Open ++ z

-- a word and an item in parentheses are an item
pub one_form : (word a : List ℕ) → Item 1 word → Item 1 a → Item 0 ((40 ∷ (word ++ (32 ∷ []))) then a then codes ")")
unfolding ◌then◌
one_form word a w i n le left rest ends c =
    let e : ((40 ∷ (word ++ (32 ∷ []))) ++ (a ++ (41 ∷ []))) ++ rest ≡ 40 ∷ (word ++ (32 ∷ (a ++ (41 ∷ rest)))) = simp append_assoc in
    let c1 = closing n rest c in
    let c2 = next (n + 1) a (41 ∷ rest) (omega arith) i refl c1 in
    subst (There n left) (sym e) (opening n word (32 ∷ (a ++ (41 ∷ rest))) w refl c2 left)

-- a word and two items in parentheses are an item
pub two_form : (word a b : List ℕ) → Item 1 word → Item 1 a → Item 1 b → Item 0 ((40 ∷ (word ++ (32 ∷ []))) then a then codes " " then b then codes ")")
unfolding ◌then◌
two_form word a b w i j n le left rest ends c =
    let e : ((40 ∷ (word ++ (32 ∷ []))) ++ (a ++ ((32 ∷ []) ++ (b ++ (41 ∷ []))))) ++ rest ≡ 40 ∷ (word ++ (32 ∷ (a ++ (32 ∷ (b ++ (41 ∷ rest)))))) = simp append_assoc in
    let c1 = closing n rest c in
    let c2 = next (n + 1) b (41 ∷ rest) (omega arith) j refl c1 in
    let c3 = next (n + 1) a (32 ∷ (b ++ (41 ∷ rest))) (omega arith) i refl c2 in
    subst (There n left) (sym e) (opening n word (32 ∷ (a ++ (32 ∷ (b ++ (41 ∷ rest))))) w refl c3 left)

-- a word and three items in parentheses are an item
pub three_form : (word a b d : List ℕ) → Item 1 word → Item 1 a → Item 1 b → Item 1 d
    → Item 0 ((40 ∷ (word ++ (32 ∷ []))) then a then codes " " then b then codes " " then d then codes ")")
unfolding ◌then◌
three_form word a b d w i j k n le left rest ends c =
    let e : ((40 ∷ (word ++ (32 ∷ []))) ++ (a ++ ((32 ∷ []) ++ (b ++ ((32 ∷ []) ++ (d ++ (41 ∷ []))))))) ++ rest ≡ 40 ∷ (word ++ (32 ∷ (a ++ (32 ∷ (b ++ (32 ∷ (d ++ (41 ∷ rest))))))))
    = simp append_assoc in
    let c1 = closing n rest c in
    let c2 = next (n + 1) d (41 ∷ rest) (omega arith) k refl c1 in
    let c3 = next (n + 1) b (32 ∷ (d ++ (41 ∷ rest))) (omega arith) j refl c2 in
    let c4 = next (n + 1) a (32 ∷ (b ++ (32 ∷ (d ++ (41 ∷ rest))))) (omega arith) i refl c3 in
    subst (There n left) (sym e) (opening n word (32 ∷ (a ++ (32 ∷ (b ++ (32 ∷ (d ++ (41 ∷ rest))))))) w refl c4 left)

-- fields or branches, each with a blank before it
abbrev pub Fields : List ℕ → Type 0
Fields fields = (n : ℕ) → 1 ≤ n → (rest : List ℕ) → EndsWord rest → Compact n (Some Close) rest → EndsWord (fields ++ rest) × Compact n (Some Close) (fields ++ rest)

-- the empty text is a text of fields
pub no_fields : Fields []
no_fields n le rest ends c = (ends, c)

-- a field in parentheses before a text of fields is such a text
pub more_fields : (label a fields : List ℕ) → Item 1 label → Item 1 a → Fields fields → Fields (codes " (" then label then codes " " then a then codes ")" then fields)
unfolding ◌then◌
more_fields label a fields l i f n le rest ends c =
    let e : ((32 ∷ 40 ∷ []) ++ (label ++ ((32 ∷ []) ++ (a ++ ((41 ∷ []) ++ fields))))) ++ rest ≡ 32 ∷ 40 ∷ (label ++ (32 ∷ (a ++ (41 ∷ (fields ++ rest))))) = simp append_assoc in
    let r = f n le rest ends c in
    let c1 = closing n (fields ++ rest) r.1 in
    let c2 = next (n + 1) a (41 ∷ (fields ++ rest)) (omega arith) i refl c1 in
    let c3 = opening n label (32 ∷ (a ++ (41 ∷ (fields ++ rest)))) l refl c2 (Some Close) in
    let c4 = c3 ∙ ap (λ (w : List ℕ). w ++ (40 ∷ (label ++ (32 ∷ (a ++ (41 ∷ (fields ++ rest))))))) (gap_inside n le) in
    subst (λ (z : List ℕ). EndsWord z × Compact n (Some Close) z) (sym e) (refl, c4)

-- a word and fields in parentheses are an item
pub fields_form : (word fields : List ℕ) → Item 1 word → Fields fields → Item 0 ((40 ∷ word) then fields then codes ")")
unfolding ◌then◌
fields_form word fields w f n le left rest ends c =
    let e : ((40 ∷ word) ++ (fields ++ (41 ∷ []))) ++ rest ≡ 40 ∷ (word ++ (fields ++ (41 ∷ rest))) = simp append_assoc in
    let r = f (n + 1) (omega arith) (41 ∷ rest) refl (closing n rest c) in
    subst (There n left) (sym e) (opening n word (fields ++ (41 ∷ rest)) w r.0 r.1 left)

-- a word, two items and fields in parentheses are an item
pub case_form : (word a b fields : List ℕ) → Item 1 word → Item 1 a → Item 1 b → Fields fields
    → Item 0 ((40 ∷ (word ++ (32 ∷ []))) then a then codes " " then b then fields then codes ")")
unfolding ◌then◌
case_form word a b fields w i j f n le left rest ends c =
    let e : ((40 ∷ (word ++ (32 ∷ []))) ++ (a ++ ((32 ∷ []) ++ (b ++ (fields ++ (41 ∷ [])))))) ++ rest ≡ 40 ∷ (word ++ (32 ∷ (a ++ (32 ∷ (b ++ (fields ++ (41 ∷ rest)))))))
    = simp append_assoc in
    let r = f (n + 1) (omega arith) (41 ∷ rest) refl (closing n rest c) in
    let c2 = next (n + 1) b (fields ++ (41 ∷ rest)) (omega arith) j r.0 r.1 in
    let c3 = next (n + 1) a (32 ∷ (b ++ (fields ++ (41 ∷ rest)))) (omega arith) i refl c2 in
    subst (There n left) (sym e) (opening n word (32 ∷ (a ++ (32 ∷ (b ++ (fields ++ (41 ∷ rest)))))) w refl c3 left)
