-- Sets of next tokens as lists of numbers, and what a production is checked for.
-- Main results: all_at, each_at.
use Rattle.std.proofs.Common.{◌≡◌, ℕ, ◌&&◌, ◌||◌, Bool, true, false, cond, eqb, refl, sym, subst, List, [], ◌∷◌, ◌++◌, eqb-true, eq-eqb}
use Rattle.parse_grammar.specs.Grammar.{Class, Symbol, token, phrase, Rule, rhs}
use Rattle.parse_grammar.specs.Tables.{number_of, can_be_empty, firsts_of, follow, predicted, is_in}

-- all numbers of a list pass a test
abbrev pub all : (ℕ → Bool) → List ℕ → Bool
all p [] = true
all p (x ∷ xs) = p x && all p xs

-- a property holds of each number of a list
abbrev pub Each : (ℕ → Type 0) → List ℕ → Type 0
Each P [] = Unit {0}
Each P (x ∷ xs) = P x × Each P xs

-- the tokens that can come first in these symbols and then k
abbrev pub starts : List Symbol → ℕ → List ℕ
starts [] k = k ∷ []
starts (token t ∷ ss) k = number_of t ∷ []
starts (phrase n ∷ ss) k = firsts_of n ++ cond (can_be_empty n) (starts ss k) []

-- behind each class in these symbols and then k stands only what may follow it
abbrev pub fits : List Symbol → ℕ → Bool
fits [] k = true
fits (token t ∷ ss) k = fits ss k
fits (phrase n ∷ ss) k = all (λ j. is_in j (follow n)) (starts ss k) && fits ss k

-- whether nothing can be spelled by these symbols
abbrev pub all_empty : List Symbol → Bool
all_empty [] = true
all_empty (token t ∷ ss) = false
all_empty (phrase n ∷ ss) = can_be_empty n && all_empty ss

-- a phrase of a class may begin with a token, or be empty before it
abbrev pub begins : Class → ℕ → ℕ → Bool
begins n k j = is_in j (firsts_of n) || (can_be_empty n && eqb j k)

-- a production begins as its class may, at tokens that it predicts
abbrev pub rule_ok : {n : Class} → Rule n → ℕ → Bool
rule_ok {n} r k = fits (rhs r) k && all (λ j. begins n k j && is_in j (predicted r)) (starts (rhs r) k)

-- if both of two tests hold, the first does
pub and-left : (a b : Bool) → a && b ≡ true → a ≡ true
and-left true b e = refl
and-left false b e = e

-- if both of two tests hold, the second does
pub and-right : (a b : Bool) → a && b ≡ true → b ≡ true
and-right true b e = e
and-right false b e = absurd (cc)

-- a test that all members of a list pass is passed by each
pub all_at : (p : ℕ → Bool) (xs : List ℕ) (j : ℕ) → all p xs ≡ true → is_in j xs ≡ true → p j ≡ true
all_at p [] j e h = absurd (cc)
all_at p (x ∷ xs) j e h = go (eqb j x) refl h (λ k. all_at p xs j (and-right (p x) (all p xs) e) k)
  where
    go : (b : Bool) → eqb j x ≡ b → b || is_in j xs ≡ true → (is_in j xs ≡ true → p j ≡ true) → p j ≡ true
    go true q h ih = subst (λ i. p i ≡ true) (sym (eqb-true j x q)) (and-left (p x) (all p xs) e)
    go false q h ih = ih h

-- what holds for all members of a list holds for each
pub each_at : (P : ℕ → Type 0) (xs : List ℕ) (j : ℕ) → Each P xs → is_in j xs ≡ true → P j
each_at P [] j e h = absurd (cc)
each_at P (x ∷ xs) j e h = go (eqb j x) refl h (λ k. each_at P xs j e.1 k)
  where
    go : (b : Bool) → eqb j x ≡ b → b || is_in j xs ≡ true → (is_in j xs ≡ true → P j) → P j
    go true q h ih = subst P (sym (eqb-true j x q)) e.0
    go false q h ih = ih h

pub is_in-left : (j : ℕ) (xs ys : List ℕ) → is_in j xs ≡ true → is_in j (xs ++ ys) ≡ true
is_in-left j [] ys h = absurd (cc)
is_in-left j (x ∷ xs) ys h = go (eqb j x) h (λ k. is_in-left j xs ys k)
  where
    go : (b : Bool) → b || is_in j xs ≡ true → (is_in j xs ≡ true → is_in j (xs ++ ys) ≡ true) → b || is_in j (xs ++ ys) ≡ true
    go true h ih = refl
    go false h ih = ih h

pub is_in-right : (j : ℕ) (xs ys : List ℕ) → is_in j ys ≡ true → is_in j (xs ++ ys) ≡ true
is_in-right j [] ys h = h
is_in-right j (x ∷ xs) ys h = go (eqb j x) (is_in-right j xs ys h)
  where
    go : (b : Bool) → is_in j (xs ++ ys) ≡ true → b || is_in j (xs ++ ys) ≡ true
    go true h = refl
    go false h = h

-- what begins a class begins the class and what follows
pub begins-starts : (n : Class) (ss : List Symbol) (k i j : ℕ) → begins n k j ≡ true → is_in k (starts ss i) ≡ true → is_in j (starts (phrase n ∷ ss) i) ≡ true
begins-starts n ss k i j h w = go (is_in j (firsts_of n)) refl h
  where
    empty : (e : Bool) → e && eqb j k ≡ true → is_in j (cond e (starts ss i) []) ≡ true
    empty true q = subst (λ z. is_in z (starts ss i) ≡ true) (sym (eqb-true j k q)) w
    empty false q = absurd (cc)

    go : (b : Bool) → is_in j (firsts_of n) ≡ b → b || (can_be_empty n && eqb j k) ≡ true → is_in j (starts (phrase n ∷ ss) i) ≡ true
    go true q h = is_in-left j (firsts_of n) (cond (can_be_empty n) (starts ss i) []) q
    go false q h = is_in-right j (firsts_of n) (cond (can_be_empty n) (starts ss i) []) (empty (can_be_empty n) h)

-- the first member of a list is in it
pub is_in-here : (j k : ℕ) (ks : List ℕ) → j ≡ k → is_in j (k ∷ ks) ≡ true
is_in-here j k ks p = rw (eq-eqb j k p) refl
