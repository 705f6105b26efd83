-- How the tokens of a text go on.
-- Main results: on_found, at_end, on_deep, on_wide.
use Rattle.std.proofs.Common.{◌≡◌, ℕ, zero, suc, ◌+◌, ◌<◌, ◌≤◌, Bool, true, false, refl, sym, ◌∙◌, ap, subst, List, [], ◌∷◌, ◌++◌, length, drop, append_assoc, append-nil, length-drop, drop-drop, le-leb, arith}
use Rattle.std.specs.Prelude.{not, nat_le, nat_eq, if◌then◌else◌}
use Rattle.std.proofs.lemmas.List.Sums.{prefix_len-le-length}
use Rattle.std.proofs.lemmas.Bool.{lt-leb}
use Rattle.fing_lexer.specs.declared.token.What.{What}
use Rattle.fing_lexer.specs.declared.token.Token.{Token}
use Rattle.fing_lexer.specs.Nest.{Nest, whole_file, counted, opened, total, is_opener, empty_level}
use Rattle.fing_lexer.specs.Tokens.{Stands, Front, End, Skip, Found, NoByte, NoText, step, Done, Go, Outcome, Good, Bad, prepend, Lexes, done, go, TokensOf, RefusalOf, token_at, is_in_range, skipped, line_length, is_blank, begins_with}
use Rattle.fing_lexer.specs.Inner.Lexing.{IsWide}
use Rattle.fing_lexer.specs.declared.lexer.LexRefusal.TheVariants.{BadByte, BadText, Wide, TooDeep}
use Rattle.fing_lexer.proofs.Laws.{some_none, no_empty}

-- whatever the rest of the bytes gives, the whole gives it behind the tokens so far
pub record GoesOn (bytes : List ℕ) (at : ℕ) (nest : Nest) (found : List Token) : Type 0 where
  pub whole : (o : Outcome) → Lexes at nest (drop at bytes) o → Lexes 0 whole_file bytes (prepend found o)

pub at_first : (bytes : List ℕ) → GoesOn bytes 0 whole_file []
at_first bytes = record { whole = λ o h. subst (λ p. Lexes 0 whole_file bytes p) (same o) h }
  where
    same : (o : Outcome) → o ≡ prepend [] o
    same (Good ts) = refl
    same (Bad r) = refl

prepend_twice : (a b : List Token) (o : Outcome) → prepend a (prepend b o) ≡ prepend (a ++ b) o
prepend_twice a b (Good ts) = ap (λ z. Good z) (sym (append_assoc a b ts))
prepend_twice a b (Bad r) = refl

onward : (bytes : List ℕ) (at n : ℕ) (nest m : Nest) (ts add : List Token) (f : Front) → GoesOn bytes at nest ts → Stands (drop at bytes) f → step at nest f ≡ Go n add m
    → GoesOn bytes (at + n) m (ts ++ add)
onward bytes at n nest m ts add f g s e = record {
  whole = λ o h.
      subst (λ p. Lexes 0 whole_file bytes p) (prepend_twice ts add o)
      (g.whole (prepend add o) (go f n add m o s e (subst (λ z. Lexes (at + n) m z o) (sym (drop-drop n at bytes ∙ ap (λ k. drop k bytes) (omega arith))) h) refl));
}

-- the tokens go on behind what is skipped
pub on_skip : (bytes : List ℕ) (at n : ℕ) (nest : Nest) (ts : List Token) → GoesOn bytes at nest ts → Stands (drop at bytes) (Skip n) → GoesOn bytes (at + n) nest ts
on_skip bytes at n nest ts g s = subst (λ z. GoesOn bytes (at + n) nest z) (append-nil ts) (onward bytes at n nest nest ts [] (Skip n) g s refl)

-- the tokens go on behind one that is found, with it as the last one, if it is not too deep
pub on_found : (bytes : List ℕ) (at n : ℕ) (nest : Nest) (ts : List Token) (l : What) → GoesOn bytes at nest ts → Stands (drop at bytes) (Found n l) → is_in_range l ≡ true
    → total (counted nest l) ≤ 1000 → GoesOn bytes (at + n) (opened (counted nest l) l) (ts ++ token_at at n l ∷ [])
on_found bytes at n nest ts l g s r d =
    onward bytes at n nest (opened (counted nest l) l) ts (token_at at n l ∷ []) (Found n l) g s
    (ap (λ b. if b then (if nat_le (total (counted nest l)) 1000 then Go n (token_at at n l ∷ []) (opened (counted nest l) l) else Done (Bad (TooDeep at))) else Done (Bad (Wide at))) r
    ∙ ap (λ b. if b then Go n (token_at at n l ∷ []) (opened (counted nest l) l) else Done (Bad (TooDeep at))) (le-leb _ _ d))

-- at the end of the bytes the tokens are those of the text
pub at_end : (bytes : List ℕ) (at : ℕ) (nest : Nest) (ts : List Token) → GoesOn bytes at nest ts → length bytes ≤ at → TokensOf bytes ts
at_end bytes at nest ts g h = subst (λ z. Lexes 0 whole_file bytes (Good z)) (append-nil ts) (g.whole (Good []) (done End (nothing bytes at h) refl))
  where
    nothing : (bytes : List ℕ) (at : ℕ) → length bytes ≤ at → drop at bytes ≡ []
    nothing [] zero h = refl
    nothing [] (suc n) h = refl
    nothing (b ∷ bs) zero h = absurd (omega arith)
    nothing (b ∷ bs) (suc n) h = nothing bs n (omega arith)

-- a byte that begins no token is refused at its place
pub on_no_byte : (bytes : List ℕ) (at : ℕ) (nest : Nest) (ts : List Token) → GoesOn bytes at nest ts → Stands (drop at bytes) NoByte → RefusalOf bytes (BadByte at)
on_no_byte bytes at nest ts g s = g.whole (Bad (BadByte at)) (done NoByte s refl)

-- a quotation mark that begins no text is refused at its place
pub on_no_text : (bytes : List ℕ) (at : ℕ) (nest : Nest) (ts : List Token) → GoesOn bytes at nest ts → Stands (drop at bytes) NoText → RefusalOf bytes (BadText at)
on_no_text bytes at nest ts g s = g.whole (Bad (BadText at)) (done NoText s refl)

-- a number that is out of range is refused at its place
pub on_wide : (bytes : List ℕ) (at : ℕ) (nest : Nest) (ts : List Token) → GoesOn bytes at nest ts → IsWide (drop at bytes) → RefusalOf bytes (Wide at)
on_wide bytes at nest ts g w =
    g.whole (Bad (Wide at)) (done (Found w.size w.number) w.stands
    (ap (λ b. if b then (if nat_le (total (counted nest w.number)) 1000 then Go w.size (token_at at w.size w.number ∷ []) (opened (counted nest w.number) w.number) else Done (Bad (TooDeep at))) else Done (Bad (Wide at))) w.wide))

-- a token that is too deep is refused at its place
pub on_deep : (bytes : List ℕ) (at n : ℕ) (nest : Nest) (ts : List Token) (l : What) → GoesOn bytes at nest ts → Stands (drop at bytes) (Found n l) → is_in_range l ≡ true
    → 1000 < total (counted nest l) → RefusalOf bytes (TooDeep at)
on_deep bytes at n nest ts l g s r d =
    g.whole (Bad (TooDeep at)) (done (Found n l) s
    (ap (λ b. if b then (if nat_le (total (counted nest l)) 1000 then Go n (token_at at n l ∷ []) (opened (counted nest l) l) else Done (Bad (TooDeep at))) else Done (Bad (Wide at))) r
    ∙ ap (λ b. if b then Go n (token_at at n l ∷ []) (opened (counted nest l) l) else Done (Bad (TooDeep at))) (lt-leb _ _ d)))

-- an opener does not change how deep the stack is
pub opened-total : (n : Nest) (k : What) → total (opened n k) ≡ total n
opened-total n k = both (is_opener k)
  where
    both : (b : Bool) → total (if b then record { last = empty_level; outer = n.last ∷ n.outer } else n) ≡ total n
    both true = omega arith
    both false = refl

-- what is skipped is there
pub skipped-le : (bytes : List ℕ) → skipped bytes ≤ length bytes
unfolding skipped
skipped-le [] = omega arith
skipped-le (b ∷ bs) = first (is_blank b)
  where
    third : (t : Bool) → (if t then line_length (b ∷ bs) else 0) ≤ suc (length bs)
    third true = prefix_len-le-length (λ x. not (nat_eq x 10)) (b ∷ bs)
    third false = omega arith

    second : (t : Bool) → (if t then (if begins_with 45 bs then line_length (b ∷ bs) else 0) else 0) ≤ suc (length bs)
    second true = third (begins_with 45 bs)
    second false = omega arith

    first : (t : Bool) → (if t then 1 else if nat_eq b 45 then (if begins_with 45 bs then line_length (b ∷ bs) else 0) else 0) ≤ suc (length bs)
    first true = omega arith
    first false = second (nat_eq b 45)

-- what is skipped ends within the bytes
pub skip_within : (bytes : List ℕ) (at n : ℕ) → at ≤ length bytes → Stands (drop at bytes) (Skip n) → at + n ≤ length bytes
skip_within bytes at n h s = omega (arith, skipped-le (drop at bytes), s.1, length-drop at bytes)

-- a token that is found ends within the bytes
pub found_within : (bytes : List ℕ) (at n : ℕ) (l : What) → at ≤ length bytes → Stands (drop at bytes) (Found n l) → at + n ≤ length bytes
found_within bytes at n l h s = omega (arith, s.1.within, length-drop at bytes)

-- a token is not empty
pub positive : (bytes : List ℕ) (n : ℕ) (l : What) → Stands bytes (Found n l) → 0 < n
positive bytes zero l s = absurd (some_none s.1.is no_empty)
positive bytes (suc n) l s = omega arith

-- brackets that are opened are no deeper than was counted
pub shallow : (nest : Nest) (l : What) → total (counted nest l) ≤ 1000 → total (opened (counted nest l) l) ≤ 1000
shallow nest l d = subst (λ k. k ≤ 1000) (sym (opened-total (counted nest l) l)) d
