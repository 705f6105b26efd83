-- Texts: where one ends, and that no longer prefix is one.
-- Main results: text_stands, no_text_stands, on_quote.
use Rattle.std.proofs.Common.{◌≡◌, ℕ, zero, suc, ◌+◌, ◌<◌, ◌≤◌, Bool, true, false, refl, sym, ◌∙◌, ap, subst, subst₂, List, [], ◌∷◌, ◌++◌, length, take, drop, get_or, append_assoc, append-nil, ◌-◌, ◌⊎◌, inl, inr, eqb-true, eq-eqb, arith}
use Rattle.std.proofs.lemmas.List.{get_or-drop}
use Rattle.std.specs.Prelude.{Option, Some, None, nat_eq, if◌then◌else◌}
use Rattle.std.specs.Option.{option_map}
use Rattle.fing_lexer.specs.declared.token.What.TheVariants as what
use Rattle.fing_lexer.specs.Lexeme.{lexeme, meaning, escaped, is_plain, cons_both}
use Rattle.fing_lexer.specs.Inner.Lexing.{EndsText, spelled}
use Rattle.fing_lexer.specs.Tokens.{Stands, Found, NoText, Longest}
use Rattle.fing_lexer.proofs.Classes.{quote_not_skipped, if_true, if_false}

-- where the text behind its first quote ends, and its meaning
abbrev End : Type 0
End = Option (ℕ × List ℕ)

abbrev behind : ℕ → List ℕ → End → End
behind n front None = None
behind n front (Some e) = Some (n + e.0, front ++ e.1)

abbrev behind_escape : Option ℕ → End → End
behind_escape None e = None
behind_escape (Some b) e = behind 2 (b ∷ []) e

abbrev pub ending : List ℕ → End
ending [] = None
ending (b ∷ []) = if nat_eq b 34 then Some (1, []) else None
ending (b ∷ c ∷ bs) =
    if nat_eq b 34 then Some (1, [])
    else if nat_eq b 92 then behind_escape (escaped c) (ending bs)
    else if is_plain b then behind 1 (b ∷ []) (ending (c ∷ bs))
    else None

behind_twice : (n k : ℕ) (front more : List ℕ) (e : End) → behind n front (behind k more e) ≡ behind (n + k) (front ++ more) e
behind_twice n k front more None = refl
behind_twice n k front more (Some e) =
    let sums : n + (k + e.0) ≡ (n + k) + e.0 = omega arith in
    let lists : front ++ (more ++ e.1) ≡ (front ++ more) ++ e.1 = sym (append_assoc front more e.1) in
    cc

-- an ending behind s bytes that stand for x
shift : (s x : ℕ) (bytes rest : List ℕ) → length bytes ≡ s + length rest → ((m : ℕ) → m < s → meaning (take m bytes) ≡ None)
    → ((m k : ℕ) → m ≡ s + k → meaning (take m bytes) ≡ cons_both (Some x) (meaning (take k rest))) → (e : End) → EndsText rest e → EndsText bytes (behind s (x ∷ []) e)
shift s x bytes rest l low high None h = λ m w. by m (grind arith) w
  where
    by : (m : ℕ) → (m < s) ⊎ (s ≤ m) → m ≤ length bytes → meaning (take m bytes) ≡ None
    by m (inl q) w = low m q
    by m (inr q) w = high m (m - s) (omega arith) ∙ ap (cons_both (Some x)) (h (m - s) (omega arith))
shift s x bytes rest l low high (Some e) h = record {
  within = omega (arith, h.within);
  is = high (s + e.0) e.0 refl ∙ ap (cons_both (Some x)) h.is;
  longest = λ m q w. high m (m - s) (omega arith) ∙ ap (cons_both (Some x)) (h.longest (m - s) (omega arith) (omega arith));
}

no_meaning : (b : ℕ) → nat_eq b 34 ≡ false → meaning (b ∷ []) ≡ None
no_meaning b e = if_false (nat_eq b 34) _ _ e

two_meaning : (b c : ℕ) (bs : List ℕ) → nat_eq b 92 ≡ false → (p : Bool) → is_plain b ≡ p → meaning (b ∷ c ∷ bs) ≡ (if p then cons_both (Some b) (meaning (c ∷ bs)) else None)
two_meaning b c bs e p q = if_false (nat_eq b 92) _ _ e ∙ ap (λ t. if t then cons_both (Some b) (meaning (c ∷ bs)) else None) q

escape_meaning : (b c : ℕ) (bs : List ℕ) → nat_eq b 92 ≡ true → meaning (b ∷ c ∷ bs) ≡ cons_both (escaped c) (meaning bs)
escape_meaning b c bs e = if_true (nat_eq b 92) _ _ e

-- where a text ends, by what its first bytes are
pub ends : (bytes : List ℕ) → EndsText bytes (ending bytes)
ends [] = λ m w. nothing m
  where
    nothing : (m : ℕ) → meaning (take m []) ≡ None
    nothing zero = refl
    nothing (suc m) = refl
ends (b ∷ []) = by (nat_eq b 34) refl
  where
    none : nat_eq b 34 ≡ false → (m : ℕ) → m ≤ 1 → meaning (take m (b ∷ [])) ≡ None
    none e zero w = refl
    none e (suc zero) w = no_meaning b e
    none e (suc (suc m)) w = absurd (omega arith)

    by : (t : Bool) → nat_eq b 34 ≡ t → EndsText (b ∷ []) (if t then Some (1, []) else None)
    by true e = record { within = omega arith; is = if_true (nat_eq b 34) _ _ e; longest = λ m q w. absurd (omega arith) }
    by false e = none e
ends (b ∷ c ∷ bs) = quote (nat_eq b 34) refl (ends bs) (ends (c ∷ bs))
  where
    closing : b ≡ 34 → EndsText (b ∷ c ∷ bs) (Some (1, []))
    closing e = subst (λ z. EndsText (z ∷ c ∷ bs) (Some (1, []))) (sym e) (record { within = omega arith; is = refl; longest = longest })
      where
        longest : (m : ℕ) → 1 < m → m ≤ length (34 ∷ c ∷ bs) → meaning (take m (34 ∷ c ∷ bs)) ≡ None
        longest zero q w = absurd (omega arith)
        longest (suc zero) q w = absurd (omega arith)
        longest (suc (suc m)) q w = refl

    all_none : nat_eq b 34 ≡ false → ((k : ℕ) → meaning (b ∷ c ∷ take k bs) ≡ None) → (m : ℕ) → m ≤ length (b ∷ c ∷ bs) → meaning (take m (b ∷ c ∷ bs)) ≡ None
    all_none q n zero w = refl
    all_none q n (suc zero) w = no_meaning b q
    all_none q n (suc (suc m)) w = n m

    escape : nat_eq b 34 ≡ false → nat_eq b 92 ≡ true → (o : Option ℕ) → escaped c ≡ o → EndsText bs (ending bs) → EndsText (b ∷ c ∷ bs) (behind_escape o (ending bs))
    escape q r None e h = all_none q (λ k. escape_meaning b c (take k bs) r ∙ ap (λ o. cons_both o (meaning (take k bs))) e)
    escape q r (Some x) e h = shift 2 x (b ∷ c ∷ bs) bs (omega arith) low high (ending bs) h
      where
        low : (m : ℕ) → m < 2 → meaning (take m (b ∷ c ∷ bs)) ≡ None
        low zero w = refl
        low (suc zero) w = no_meaning b q
        low (suc (suc m)) w = absurd (omega arith)

        high : (m k : ℕ) → m ≡ 2 + k → meaning (take m (b ∷ c ∷ bs)) ≡ cons_both (Some x) (meaning (take k bs))
        high zero k w = absurd (omega arith)
        high (suc zero) k w = absurd (omega arith)
        high (suc (suc m)) k w =
            let same : m ≡ k = omega arith in
            subst (λ z. meaning (b ∷ c ∷ take m bs) ≡ cons_both (Some x) (meaning (take z bs))) same (escape_meaning b c (take m bs) r ∙ ap (λ o. cons_both o (meaning (take m bs))) e)

    plain : nat_eq b 34 ≡ false → nat_eq b 92 ≡ false → (p : Bool) → is_plain b ≡ p → EndsText (c ∷ bs) (ending (c ∷ bs)) → EndsText (b ∷ c ∷ bs) (if p then behind 1 (b ∷ []) (ending (c ∷ bs)) else None)
    plain q r false e h = all_none q (λ k. two_meaning b c (take k bs) r false e)
    plain q r true e h = shift 1 b (b ∷ c ∷ bs) (c ∷ bs) (omega arith) low high (ending (c ∷ bs)) h
      where
        low : (m : ℕ) → m < 1 → meaning (take m (b ∷ c ∷ bs)) ≡ None
        low zero w = refl
        low (suc m) w = absurd (omega arith)

        one : (m : ℕ) → meaning (b ∷ take m (c ∷ bs)) ≡ cons_both (Some b) (meaning (take m (c ∷ bs)))
        one zero = no_meaning b q
        one (suc m) = two_meaning b c (take m bs) r true e

        high : (m k : ℕ) → m ≡ 1 + k → meaning (take m (b ∷ c ∷ bs)) ≡ cons_both (Some b) (meaning (take k (c ∷ bs)))
        high zero k w = absurd (omega arith)
        high (suc m) k w =
            let same : m ≡ k = omega arith in
            subst (λ z. meaning (b ∷ take m (c ∷ bs)) ≡ cons_both (Some b) (meaning (take z (c ∷ bs)))) same (one m)

    slash : nat_eq b 34 ≡ false → (t : Bool) → nat_eq b 92 ≡ t → EndsText bs (ending bs) → EndsText (c ∷ bs) (ending (c ∷ bs))
        → EndsText (b ∷ c ∷ bs) (if t then behind_escape (escaped c) (ending bs) else if is_plain b then behind 1 (b ∷ []) (ending (c ∷ bs)) else None)
    slash q true e h i = escape q e (escaped c) refl h
    slash q false e h i = plain q e (is_plain b) refl i

    quote : (t : Bool) → nat_eq b 34 ≡ t → EndsText bs (ending bs) → EndsText (c ∷ bs) (ending (c ∷ bs))
        → EndsText (b ∷ c ∷ bs) (if t then Some (1, []) else if nat_eq b 92 then behind_escape (escaped c) (ending bs) else if is_plain b then behind 1 (b ∷ []) (ending (c ∷ bs)) else None)
    quote true e h i = closing (eqb-true b 34 e)
    quote false e h i = slash e (nat_eq b 92) refl h i

-- a scan of a text has taken the first bytes, which stand for `front`
pub record Reads (bytes rest : List ℕ) (at : ℕ) (front : List ℕ) : Type 0 where
  pub place : at + length rest ≡ length bytes
  pub same : ending bytes ≡ behind at front (ending rest)

pub at_first : (bytes : List ℕ) → Reads bytes bytes 0 []
at_first bytes = record { place = omega arith; same = by (ending bytes) }
  where
    by : (e : End) → e ≡ behind 0 [] e
    by None = refl
    by (Some e) = let q : e.0 ≡ 0 + e.0 = omega arith in ap (λ n. Some (n, e.1)) q

ended : (bytes : List ℕ) (e : End) → ending bytes ≡ e → EndsText bytes e
ended bytes e q = subst (λ z. EndsText bytes z) q (ends bytes)

-- a text ends at the quotation mark that is read, with the bytes before it
pub on_quote : (bytes rest : List ℕ) (at : ℕ) (front : List ℕ) → Reads bytes rest at front → 0 < length rest → get_or rest 0 0 ≡ 34 → EndsText bytes (Some (at + 1, front))
on_quote bytes rest at front r h e = ended bytes (Some (at + 1, front)) (r.same ∙ ap (behind at front) (by rest h e) ∙ ap (λ z. Some (at + 1, z)) (append-nil front))
  where
    by : (rest : List ℕ) → 0 < length rest → get_or rest 0 0 ≡ 34 → ending rest ≡ Some (1, [])
    by [] h e = absurd (omega arith)
    by (b ∷ []) h e = if_true (nat_eq b 34) _ _ (eq-eqb b 34 e)
    by (b ∷ c ∷ bs) h e = if_true (nat_eq b 34) _ _ (eq-eqb b 34 e)

abbrev one_byte : ℕ → ℕ × ℕ
one_byte b = (b, 1)

abbrev two_bytes : ℕ → ℕ × ℕ
two_bytes b = (b, 2)

abbrev first : ℕ × ℕ → ℕ
first p = p.0

abbrev second : ℕ × ℕ → ℕ
second p = p.1

-- the first byte behind a place is the one at the place
pub first_at : (bytes : List ℕ) (at : ℕ) → get_or (drop at bytes) 0 0 ≡ get_or bytes at 0
first_at bytes at = get_or-drop at bytes 0 0 ∙ ap (λ k. get_or bytes k 0) (omega arith)

-- one more byte of a text is read as what is spelled there
pub on_spelled : (bytes rest : List ℕ) (at x n : ℕ) (front : List ℕ) → Reads bytes rest at front → nat_eq (get_or rest 0 0) 34 ≡ false → spelled rest ≡ Some (x, n) → Reads bytes (drop n rest) (at + n) (front ++ x ∷ [])
on_spelled bytes [] at x n front r q e = absurd (cc)
on_spelled bytes (b ∷ []) at x n front r q e = last (is_plain b) e
  where
    last : (p : Bool) → (if p then Some (one_byte b) else None) ≡ Some (x, n) → Reads bytes (drop n (b ∷ [])) (at + n) (front ++ x ∷ [])
    last false e = absurd (cc)
    last true e =
        let pair : one_byte b ≡ (x, n) = cc in
        let one : 1 ≡ n = ap second pair in
        let same : b ≡ x = ap first pair in
        subst₂ (λ k y. Reads bytes (drop k (b ∷ [])) (at + k) (front ++ y ∷ [])) one same (record {
          place = omega (arith, r.place);
          same = r.same ∙ ap (behind at front) (if_false (nat_eq b 34) _ _ q);
        })
on_spelled bytes (b ∷ c ∷ bs) at x n front r q e = slash (nat_eq b 92) refl e
  where
    escape : nat_eq b 92 ≡ true → (o : Option ℕ) → escaped c ≡ o → option_map two_bytes o ≡ Some (x, n) → Reads bytes (drop n (b ∷ c ∷ bs)) (at + n) (front ++ x ∷ [])
    escape s None o e = absurd (cc)
    escape s (Some y) o e =
        let pair : two_bytes y ≡ (x, n) = cc in
        let two : 2 ≡ n = ap second pair in
        let same : y ≡ x = ap first pair in
        subst₂ (λ k z. Reads bytes (drop k (b ∷ c ∷ bs)) (at + k) (front ++ z ∷ [])) two same (record {
          place = omega (arith, r.place);
          same = r.same ∙ ap (behind at front) (if_false (nat_eq b 34) _ _ q ∙ if_true (nat_eq b 92) _ _ s ∙ ap (λ z. behind_escape z (ending bs)) o) ∙ behind_twice at 2 front (y ∷ []) (ending bs);
        })

    plain : nat_eq b 92 ≡ false → (p : Bool) → is_plain b ≡ p → (if p then Some (one_byte b) else None) ≡ Some (x, n) → Reads bytes (drop n (b ∷ c ∷ bs)) (at + n) (front ++ x ∷ [])
    plain s false p e = absurd (cc)
    plain s true p e =
        let pair : one_byte b ≡ (x, n) = cc in
        let one : 1 ≡ n = ap second pair in
        let same : b ≡ x = ap first pair in
        subst₂ (λ k z. Reads bytes (drop k (b ∷ c ∷ bs)) (at + k) (front ++ z ∷ [])) one same (record {
          place = omega (arith, r.place);
          same = r.same ∙ ap (behind at front) (if_false (nat_eq b 34) _ _ q ∙ if_false (nat_eq b 92) _ _ s ∙ if_true (is_plain b) _ _ p) ∙ behind_twice at 1 front (b ∷ []) (ending (c ∷ bs));
        })

    slash : (t : Bool) → nat_eq b 92 ≡ t → (if t then option_map two_bytes (escaped c) else if is_plain b then Some (one_byte b) else None) ≡ Some (x, n) → Reads bytes (drop n (b ∷ c ∷ bs)) (at + n) (front ++ x ∷ [])
    slash true s e = escape s (escaped c) refl e
    slash false s e = plain s (is_plain b) refl e

-- a byte that no text has
pub on_bad : (bytes rest : List ℕ) (at : ℕ) (front : List ℕ) → Reads bytes rest at front → nat_eq (get_or rest 0 0) 34 ≡ false → spelled rest ≡ None → EndsText bytes None
on_bad bytes rest at front r q e = ended bytes None (r.same ∙ ap (behind at front) (by rest q e))
  where
    by : (rest : List ℕ) → nat_eq (get_or rest 0 0) 34 ≡ false → spelled rest ≡ None → ending rest ≡ None
    by [] q e = refl
    by (b ∷ []) q e = if_false (nat_eq b 34) _ _ q
    by (b ∷ c ∷ bs) q e = if_false (nat_eq b 34) _ _ q ∙ slash (nat_eq b 92) e
      where
        escape : (o : Option ℕ) → option_map two_bytes o ≡ None → behind_escape o (ending bs) ≡ None
        escape None e = refl
        escape (Some y) e = absurd (cc)

        plain : (p : Bool) → (if p then Some (one_byte b) else None) ≡ None → (if p then behind 1 (b ∷ []) (ending (c ∷ bs)) else None) ≡ None
        plain true e = absurd (cc)
        plain false e = refl

        slash : (t : Bool) → (if t then option_map two_bytes (escaped c) else if is_plain b then Some (one_byte b) else None) ≡ None
            → (if t then behind_escape (escaped c) (ending bs) else if is_plain b then behind 1 (b ∷ []) (ending (c ∷ bs)) else None) ≡ None
        slash true e = escape (escaped c) e
        slash false e = plain (is_plain b) e

-- bytes that are read up to their end without a quotation mark end no text
pub at_end : (bytes : List ℕ) (at : ℕ) (front : List ℕ) → Reads bytes (drop at bytes) at front → length bytes ≤ at → EndsText bytes None
at_end bytes at front r h = ended bytes None (r.same ∙ ap (behind at front) (by (drop at bytes) (omega (arith, r.place))))
  where
    by : (rest : List ℕ) → length rest ≤ 0 → ending rest ≡ None
    by [] h = refl
    by (b ∷ bs) h = absurd (omega arith)

quote_lexeme : (bs : List ℕ) → lexeme (34 ∷ bs) ≡ option_map what.Text (meaning bs)
unfolding lexeme
quote_lexeme bs = refl

no_bytes : lexeme [] ≡ None
unfolding lexeme
no_bytes = refl

-- a quotation mark and the bytes behind it, up to where the text ends, are the text
pub text_stands : (bytes : List ℕ) (n : ℕ) (text : List ℕ) → 0 < length bytes → get_or bytes 0 0 ≡ 34 → EndsText (drop 1 bytes) (Some (n, text)) → Stands bytes (Found (1 + n) (what.Text text))
text_stands [] n text h q e = absurd (omega arith)
text_stands (b ∷ bs) n text h q e = subst (λ z. Stands (z ∷ bs) (Found (1 + n) (what.Text text))) (sym q) (subst (λ k. Stands (34 ∷ bs) (Found k (what.Text text))) (omega arith) (quote_not_skipped bs, found))
  where
    longest : (m : ℕ) → suc n < m → m ≤ length (34 ∷ bs) → lexeme (take m (34 ∷ bs)) ≡ None
    longest zero w v = absurd (omega arith)
    longest (suc m) w v = quote_lexeme (take m bs) ∙ ap (option_map what.Text) (e.longest m (omega arith) (omega arith))

    found : Longest (34 ∷ bs) (suc n) (what.Text text)
    found = record { within = omega (arith, e.within); is = quote_lexeme (take n bs) ∙ ap (option_map what.Text) e.is; longest = longest }

-- a quotation mark behind which no text ends begins none
pub no_text_stands : (bytes : List ℕ) → 0 < length bytes → get_or bytes 0 0 ≡ 34 → EndsText (drop 1 bytes) None → Stands bytes NoText
no_text_stands [] h q e = absurd (omega arith)
no_text_stands (b ∷ bs) h q e = subst (λ z. Stands (z ∷ bs) NoText) (sym q) (quote_not_skipped bs, refl, none)
  where
    none : (m : ℕ) → m ≤ length (34 ∷ bs) → lexeme (take m (34 ∷ bs)) ≡ None
    none zero w = no_bytes
    none (suc m) w = quote_lexeme (take m bs) ∙ ap (option_map what.Text) (e m (omega arith))
