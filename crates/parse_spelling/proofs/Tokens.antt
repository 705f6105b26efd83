-- The tokens of bytes have names, numbers and texts that have a spelling.
-- Main results: tokens-spelled, keywords-spelled.
use Rattle.std.specs.Prelude.{◌≡◌, ℕ, ◌<◌, ◌≤◌, List, [], ◌∷◌, ◌++◌, map, take, Bool, true, false, not, ◌&&◌, ◌||◌, ◌==◌, nat_eq, nat_le, nat_lt, nat_abs}
use Rattle.std.specs.Prelude.{if◌then◌else◌, Option, Some, None, ℤ, pos, negsuc, neg_ℤ}
use Rattle.std.proofs.Common.{arith}
use Rattle.std.proofs.Math.Path.{refl, sym, ◌∙◌, ap, subst}
use Rattle.std.proofs.lemmas.Bool.{and_parts, leb-true, le-leb, lt-leb}
use Rattle.std.proofs.lemmas.Bool.Decides.{nat_tests}
use Rattle.std.proofs.lemmas.Cmp.{nat_list_eq_equiv}
use Rattle.std.specs.Char.{is_ascii_digit}
use Rattle.std.specs.List.{list_all}
use Rattle.std.specs.Str.{bytes_eq}
use Rattle.std.specs.Option.{option_map}
use Rattle.fing_lexer.specs.declared.token.Word.{Word}
use Rattle.fing_lexer.specs.declared.token.Mark.{Mark}
use Rattle.fing_lexer.specs.declared.token.What.{What}
use Rattle.fing_lexer.specs.declared.token.What.TheVariants as what
use Rattle.fing_lexer.specs.declared.token.Token.{Token}
use Rattle.fing_lexer.specs.Lexeme.{entry, words, marks, is_name_start, is_name_byte, word_or_name, value_behind, number_of, escaped, is_plain, cons_both}
use Rattle.fing_lexer.specs.Lexeme.{meaning, lexeme}
use Rattle.fing_lexer.specs.Nest.{Nest, counted, total}
use Rattle.fing_lexer.specs.Tokens.{is_in_range, Front, End, Skip, Found, NoText, NoByte, Stands, Outcome, Good, Bad, Step, Done, Go, step, prepend, Lexes}
use Rattle.fing_lexer.specs.Tokens.{done, go, TokensOf}
use Rattle.omega_terms.specs.declared.version.Version.TheVariants.{Second}
use Rattle.omega_spelling.specs.Reading.{passes, begins_name, in_name, is_one_of, is_keyword, all_in_name, is_name}
use Rattle.omega_spelling.specs.Spelled.{is_hidden}
use Rattle.omega_spelling.specs.TermReading.{SignedFits, is_printed, all_spelled}
use Rattle.elab_spelling.specs.Signatures.{NameSpelled}
use Rattle.parse_spelling.specs.Tokens.{WhatSpelled, TokensSpelled, WordSpelled, KeywordSpelled, KeywordsSpelled}

-- what holds of each branch holds of a choice
if-holds : {A : Type 0} (P : A → Type 0) (c : Bool) {x y : A} → (c ≡ true → P x) → (c ≡ false → P y) → P (if c then x else y)
if-holds P true h g = h refl
if-holds P false h g = g refl

-- names

or-three : (a b c : Bool) → (a || (b || c)) ≡ true → (a || b || c) ≡ true
or-three true b c h = refl
or-three false true c h = refl
or-three false false c h = h

both-or : (a b c : Bool) → a ≡ true → b ≡ true → (a && b || c) ≡ true
both-or true true c h g = refl
both-or true false c h g = cc
both-or false b c h g = cc

both-not : (a b : Bool) → a ≡ true → b ≡ false → (a && not b) ≡ true
both-not true false h g = refl
both-not true true h g = cc
both-not false b h g = cc

both-true : (a b : Bool) → a ≡ true → b ≡ true → (a && b) ≡ true
both-true true b h g = g
both-true false b h g = cc

name-bytes : (bs : List ℕ) → list_all is_name_byte bs ≡ true → passes in_name bs ≡ true
name-bytes [] h = refl
name-bytes (b ∷ bs) h =
    let p = and_parts (is_name_byte b) (list_all is_name_byte bs) h in
    both-true (in_name b) (passes in_name bs) (or-three (begins_name b) (is_ascii_digit b) (b == 39) p.0) (name-bytes bs p.1)

first-byte : (b : ℕ) → begins_name b ≡ true → in_name b ≡ true
first-byte b h = ap (λ c. c || is_ascii_digit b || b == 39) h

no-entry : {X : Type 0} (es : List (List ℕ × X)) (bytes : List ℕ) → entry es bytes ≡ None → is_one_of (map (λ e. e.0) es) bytes ≡ false
no-entry [] bytes h = refl
no-entry (e ∷ es) bytes h = next (bytes_eq bytes e.0) refl h (no-entry es bytes)
  where
    next : (c : Bool) → bytes_eq bytes e.0 ≡ c → (if c then Some e.1 else entry es bytes) ≡ None
        → (entry es bytes ≡ None → is_one_of (map (λ e. e.0) es) bytes ≡ false) → is_one_of (map (λ e. e.0) (e ∷ es)) bytes ≡ false
    next true q g k = cc
    next false q g k = ap (λ c. c || is_one_of (map (λ e. e.0) es) bytes) (nat_list_eq_equiv.symm e.0 bytes ∙ q) ∙ k g

no-keyword : (bytes : List ℕ) → entry words bytes ≡ None → is_keyword bytes ≡ false
unfolding words is_keyword
no-keyword bytes h = no-entry words bytes h

name-spelled : (b : ℕ) (bs : List ℕ) → is_name_start b ≡ true → list_all is_name_byte bs ≡ true → entry words (b ∷ bs) ≡ None → NameSpelled (b ∷ bs)
name-spelled b bs h g n =
    both-or (is_name (b ∷ bs)) (all_in_name (b ∷ bs)) (is_hidden (b ∷ bs))
    (both-not (begins_name b) (is_keyword (b ∷ bs)) h (no-keyword (b ∷ bs) n))
    (both-true (in_name b) (passes in_name bs) (first-byte b h) (name-bytes bs g))

-- numbers

number-fits : (z : ℤ) → nat_le (nat_abs z) 9223372036854775807 ≡ true → SignedFits z
number-fits (pos n) h = let e = leb-true _ _ h in omega (arith, e)
number-fits (negsuc n) h = let e = leb-true _ _ h in omega (arith, e)

-- texts

abbrev ByteOk : Option ℕ → Type 0
ByteOk None = Unit {0}
ByteOk (Some b) = (b == 10 || is_printed b) ≡ true

abbrev MeaningOk : Option (List ℕ) → Type 0
MeaningOk None = Unit {0}
MeaningOk (Some bytes) = all_spelled bytes ≡ true

printed : (b : ℕ) → 32 ≤ b → b < 127 → (b == 10 || is_printed b) ≡ true
printed b h g = or-right (b == 10) (is_printed b) (printed-both (nat_lt b 32) (nat_lt b 127) (lt-leb _ _ (omega arith)) (le-leb _ _ (omega arith)))
  where
    or-right : (a c : Bool) → c ≡ true → (a || c) ≡ true
    or-right true c e = refl
    or-right false c e = e

    printed-both : (a c : Bool) → a ≡ false → c ≡ true → (not a && c) ≡ true
    printed-both false c e f = f
    printed-both true c e f = cc

same-byte : (b n : ℕ) → nat_eq b n ≡ true → b ≡ n
same-byte b n h = grind (arith, nat_tests)

escaped-ok : (b : ℕ) → ByteOk (escaped b)
escaped-ok b =
    if-holds ByteOk (nat_eq b 34) (λ e. let q = same-byte b 34 e in printed b (omega arith) (omega arith))
    (λ n. if-holds ByteOk (nat_eq b 92) (λ e. let q = same-byte b 92 e in printed b (omega arith) (omega arith))
    (λ m. if-holds ByteOk (nat_eq b 110) (λ e. refl) (λ e. tt)))

plain-ok : (b : ℕ) → is_plain b ≡ true → ByteOk (Some b)
plain-ok b h =
    let p = and_parts (nat_le 32 b) (nat_le b 126 && not (nat_eq b 34)) h in
    let q = and_parts (nat_le b 126) (not (nat_eq b 34)) p.1 in
    let low = leb-true _ _ p.0 in
    let high = leb-true _ _ q.0 in
    printed b low (omega (arith, high))

cons-ok : (o : Option ℕ) (m : Option (List ℕ)) → ByteOk o → MeaningOk m → MeaningOk (cons_both o m)
cons-ok (Some b) (Some bs) h g = both-true (b == 10 || is_printed b) (all_spelled bs) h g
cons-ok (Some b) None h g = tt
cons-ok None m h g = tt

meaning-ok : (bytes : List ℕ) → MeaningOk (meaning bytes)
meaning-ok [] = tt
meaning-ok (b ∷ []) = if-holds MeaningOk (nat_eq b 34) (λ e. refl) (λ e. tt)
meaning-ok (b ∷ c ∷ bs) =
    if-holds MeaningOk (nat_eq b 92) (λ e. cons-ok (escaped c) (meaning bs) (escaped-ok c) (meaning-ok bs))
    (λ e. if-holds MeaningOk (is_plain b) (λ p. cons-ok (Some b) (meaning (c ∷ bs)) (plain-ok b p) (meaning-ok (c ∷ bs))) (λ p. tt))

-- what bytes are as one token

abbrev LexemeOk : Option What → Type 0
LexemeOk None = Unit {0}
LexemeOk (Some w) = is_in_range w ≡ true → WhatSpelled w

word-ok : (o : Option Word) (bytes : List ℕ) → (o ≡ None → NameSpelled bytes) → LexemeOk (Some (word_or_name o bytes))
word-ok None bytes h r = h refl
word-ok (Some w) bytes h r = tt

number-ok : (sign : ℕ → ℤ) (bytes : List ℕ) → LexemeOk (number_of sign bytes)
number-ok sign [] = tt
number-ok sign (b ∷ bs) = if-holds LexemeOk (is_ascii_digit b && list_all is_ascii_digit bs) (λ e r. number-fits (sign (value_behind 0 (b ∷ bs))) r) (λ e. tt)

text-ok : (o : Option (List ℕ)) → MeaningOk o → LexemeOk (option_map what.Text o)
text-ok None h = tt
text-ok (Some bytes) h = λ r. h

mark-ok : (o : Option Mark) → LexemeOk (option_map what.Mark o)
mark-ok None = tt
mark-ok (Some m) = λ r. tt

lexeme-ok : (bytes : List ℕ) → LexemeOk (lexeme bytes)
unfolding lexeme
lexeme-ok [] = tt
lexeme-ok (b ∷ bs) =
    if-holds LexemeOk (is_name_start b)
    (λ h. if-holds LexemeOk (list_all is_name_byte bs) (λ g. word-ok (entry words (b ∷ bs)) (b ∷ bs) (name-spelled b bs h g)) (λ g. tt))
    (λ h. if-holds LexemeOk (is_ascii_digit b) (λ g. number-ok pos (b ∷ bs))
    (λ g. if-holds LexemeOk (nat_eq b 126) (λ e. number-ok (λ n. neg_ℤ (pos n)) bs)
    (λ e. if-holds LexemeOk (nat_eq b 34) (λ q. text-ok (meaning bs) (meaning-ok bs)) (λ q. mark-ok (entry marks (b ∷ bs))))))

-- the tokens of bytes

abbrev OutcomeSpelled : Outcome → Type 0
OutcomeSpelled (Good ts) = TokensSpelled ts
OutcomeSpelled (Bad r) = Unit {0}

abbrev StepSpelled : Step → Type 0
StepSpelled (Done o) = OutcomeSpelled o
StepSpelled (Go n add nest) = TokensSpelled add

step-spelled : (at : ℕ) (nest : Nest) (bytes : List ℕ) (f : Front) → Stands bytes f → StepSpelled (step at nest f)
step-spelled at nest bytes End s = tt
step-spelled at nest bytes (Skip n) s = tt
step-spelled at nest bytes (Found n w) s =
    if-holds StepSpelled (is_in_range w)
    (λ r. if-holds StepSpelled (nat_le (total (counted nest w)) 1000) (λ e. (subst LexemeOk s.1.is (lexeme-ok (take n bytes)) r, tt)) (λ e. tt))
    (λ r. tt)
step-spelled at nest bytes NoText s = tt
step-spelled at nest bytes NoByte s = tt

append-spelled : (ts us : List Token) → TokensSpelled ts → TokensSpelled us → TokensSpelled (ts ++ us)
append-spelled [] us h g = g
append-spelled (t ∷ ts) us h g = (h.0, append-spelled ts us h.1 g)

prepend-spelled : (add : List Token) (o : Outcome) → TokensSpelled add → OutcomeSpelled o → OutcomeSpelled (prepend add o)
prepend-spelled add (Good ts) h g = append-spelled add ts h g
prepend-spelled add (Bad r) h g = tt

lexes-spelled : {at : ℕ} {nest : Nest} {bytes : List ℕ} {o : Outcome} → Lexes at nest bytes o → OutcomeSpelled o
lexes-spelled {at} {nest} {bytes} (done f s e) = subst StepSpelled e (step-spelled at nest bytes f s)
lexes-spelled {at} {nest} {bytes} (go f n add deeper rest s e l q) =
    subst OutcomeSpelled (sym q) (prepend-spelled add rest (subst StepSpelled e (step-spelled at nest bytes f s)) (lexes-spelled l))

-- the tokens of bytes have names, numbers and texts that have a spelling
pub tokens-spelled : {bytes : List ℕ} {ts : List Token} → TokensOf bytes ts → TokensSpelled ts
tokens-spelled l = lexes-spelled l

-- the phrases of each keyword have a spelling in the second version

word-spelled : (w : Word) → WordSpelled Second w
word-spelled Word.KwCase = refl
word-spelled Word.KwInj = refl
word-spelled Word.KwData = refl
word-spelled Word.KwRoll = refl
word-spelled Word.KwUnroll = refl
word-spelled w = tt

keyword-spelled : (w : What) → KeywordSpelled Second w
keyword-spelled (what.Word w) = word-spelled w
keyword-spelled (what.Mark m) = tt
keyword-spelled (what.Ident bytes) = tt
keyword-spelled (what.Int z) = tt
keyword-spelled (what.Text bytes) = tt

-- in the second version all keywords have phrases with a spelling
pub keywords-spelled : (ts : List Token) → KeywordsSpelled Second ts
keywords-spelled [] = tt
keywords-spelled (t ∷ ts) = (keyword-spelled t.what, keywords-spelled ts)
