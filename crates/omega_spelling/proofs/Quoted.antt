-- Signed numbers and texts are read as they are written.
-- Main results: signed-reads, chars-again, chars-takes.
use Rattle.std.proofs.Common.{◌≡◌, ℕ, suc, ◌+◌, ◌-◌, ◌^◌, ◌<◌, Bool, true, false, cond, List, [], ◌∷◌, ◌++◌, length, Option, Some, None, refl, sym, ap, ◌∙◌, subst, append_assoc, arith, inl, inr}
use Rattle.std.specs.Prelude.{◌⊎◌, codes, decimal, flat_map, ◌&&◌, ◌||◌, ◌==◌, nat_lt, ℤ, pos, negsuc}
use Rattle.std.specs.Fmt.{signed_decimal}
use Rattle.std.specs.Char.{is_ascii_digit}
use Rattle.std.proofs.lemmas.Fmt.{digits_decimal, decimal_nonempty}
use Rattle.omega_spelling.specs.Reading.{strip, passes, number_at}
use Rattle.omega_terms.specs.TermText.{byte_text}
use Rattle.omega_spelling.specs.TermReading.{negative_at, positive_at, signed_at, SignedFits, is_printed, with_byte, chars_at, all_spelled}
use Rattle.omega_spelling.proofs.Steps.{bind_ok, if_ok, and_ok, some_is, step, Ends, Reads, same_test}
use Rattle.omega_spelling.proofs.Numbers.{own, number-reads, test-below}
use Rattle.omega_spelling.proofs.Types.{below-test}

true-false : (let t : Bool = true in t) ≡ false → ⊥
true-false e = cc

-- a byte that passes a test is none that fails it
pub differs : (b c : ℕ) (p : ℕ → Bool) → p c ≡ false → p b ≡ true → (b == c) ≡ false
differs b c p x e = pick (b == c) refl
  where
    pick : (t : Bool) → (b == c) ≡ t → t ≡ false
    pick true q = absurd (true-false (sym e ∙ ap p (same_test b c q) ∙ x))
    pick false q = refl

-- digits begin with no other byte
pub no-front : (c : ℕ) (cs ds rest : List ℕ) → is_ascii_digit c ≡ false → 0 < length ds → passes is_ascii_digit ds ≡ true → strip (c ∷ cs) (ds ++ rest) ≡ None
unfolding strip
no-front c cs [] rest nodigit some q = absurd (omega arith)
no-front c cs (d ∷ ds) rest nodigit some q = rw (differs d c is_ascii_digit nodigit (and_ok (is_ascii_digit d) (passes is_ascii_digit ds) q).0) refl

negative-again : (n : ℕ) (rest : List ℕ) → n < 2 ^ 63 → Ends rest → negative_at (decimal (suc n) ++ rest) ≡ Some (negsuc n, rest)
unfolding negative_at
negative-again n rest lt ends =
    let k : suc n - 1 ≡ n = omega arith in
    rw (number-reads.again (suc n) rest (omega arith) ends, below-test 0 (suc n) (omega arith), below-test (suc n) (2 ^ 63 + 1) (omega arith), k) refl

positive-again : (n : ℕ) (rest : List ℕ) → n < 2 ^ 63 → Ends rest → positive_at (decimal n ++ rest) ≡ Some (pos n, rest)
unfolding positive_at
positive-again n rest lt ends = rw (number-reads.again n rest (omega arith) ends, below-test n (2 ^ 63) lt) refl

signed-again : (z : ℤ) (rest : List ℕ) → SignedFits z → Ends rest → signed_at (signed_decimal z ++ rest) ≡ Some (z, rest)
unfolding signed_at strip
signed-again (pos n) rest lt ends = rw (no-front 45 [] (decimal n) rest refl (decimal_nonempty n (omega arith)) (digits_decimal own n (omega arith))) (positive-again n rest lt ends)
signed-again (negsuc n) rest lt ends = negative-again n rest lt ends

negative-takes : (bytes r : List ℕ) (z : ℤ) (rest : List ℕ) → bytes ≡ codes "-" ++ r → negative_at r ≡ Some (z, rest) → (bytes ≡ signed_decimal z ++ rest) × SignedFits z
unfolding negative_at
negative-takes bytes r z rest parts e =
    let b = bind_ok (number_at r) (λ x. cond (nat_lt 0 x.0 && nat_lt x.0 (2 ^ 63 + 1)) (Some (negsuc (x.0 - 1), x.1)) None) (z, rest) e in
    let k = b.0.0 in
    let t = if_ok (nat_lt 0 k && nat_lt k (2 ^ 63 + 1)) (negsuc (k - 1), b.0.1) (z, rest) b.2 in
    let u = and_ok (nat_lt 0 k) (nat_lt k (2 ^ 63 + 1)) t.0 in
    let low : 0 < k = test-below 0 k u.0 in
    let high : k < 2 ^ 63 + 1 = test-below k (2 ^ 63 + 1) u.1 in
    let m = number-reads.takes r k b.0.1 b.1 in
    let back : suc (k - 1) ≡ k = omega arith in
    let left : b.0.1 ≡ rest = ap (λ (x : ℤ × List ℕ). x.1) t.1 in
    let text : r ≡ decimal (suc (k - 1)) ++ rest = rw back (m.0 ∙ ap (λ (w : List ℕ). decimal k ++ w) left) in
    subst (λ (x : ℤ). (bytes ≡ signed_decimal x ++ rest) × SignedFits x) (ap (λ (x : ℤ × List ℕ). x.0) t.1) (parts ∙ ap (λ (w : List ℕ). 45 ∷ w) text, omega arith)

positive-takes : (bytes : List ℕ) (z : ℤ) (rest : List ℕ) → positive_at bytes ≡ Some (z, rest) → (bytes ≡ signed_decimal z ++ rest) × SignedFits z
unfolding positive_at
positive-takes bytes z rest e =
    let b = bind_ok (number_at bytes) (λ x. cond (nat_lt x.0 (2 ^ 63)) (Some (pos x.0, x.1)) None) (z, rest) e in
    let k = b.0.0 in
    let t = if_ok (nat_lt k (2 ^ 63)) (pos k, b.0.1) (z, rest) b.2 in
    let m = number-reads.takes bytes k b.0.1 b.1 in
    let left : b.0.1 ≡ rest = ap (λ (x : ℤ × List ℕ). x.1) t.1 in
    subst (λ (x : ℤ). (bytes ≡ signed_decimal x ++ rest) × SignedFits x) (ap (λ (x : ℤ × List ℕ). x.0) t.1) (m.0 ∙ ap (λ (w : List ℕ). decimal k ++ w) left, test-below k (2 ^ 63) t.0)

-- the reader of signed numbers takes just the decimals of those that fit 64 bits
pub signed-reads : Reads signed_at signed_decimal SignedFits
unfolding signed_at
signed-reads = record {
  takes = λ bytes z rest e. step (codes "-") bytes negative_at (positive_at bytes) (z, rest) e (λ r p is. negative-takes bytes r z rest p is) (λ e1. positive-takes bytes z rest e1);
  again = signed-again;
}

-- ---- texts

-- the sorts of bytes that quoted text tells apart: quotation mark, backslash, line feed, or another byte
pub data Sorted (b : ℕ) : Type 0 where
  quote : b ≡ 34 → Sorted b
  slash : b ≡ 92 → Sorted b
  line : b ≡ 10 → Sorted b
  other : (b == 34) ≡ false → (b == 92) ≡ false → (b == 10) ≡ false → Sorted b

-- each byte is of one of the sorts that quoted text tells apart
pub sorted : (b : ℕ) → Sorted b
sorted b = first (b == 34) refl
  where
    third : (t : Bool) → (b == 10) ≡ t → (b == 34) ≡ false → (b == 92) ≡ false → Sorted b
    third true q x y = line (same_test b 10 q)
    third false q x y = other x y q

    second : (t : Bool) → (b == 92) ≡ t → (b == 34) ≡ false → Sorted b
    second true q x = slash (same_test b 92 q)
    second false q x = third (b == 10) refl x q

    first : (t : Bool) → (b == 34) ≡ t → Sorted b
    first true q = quote (same_test b 34 q)
    first false q = second (b == 92) refl q

pub printed : (b : ℕ) → (b == 10) ≡ false → (b == 10 || is_printed b) ≡ true → is_printed b ≡ true
printed b x h = rw x at h

-- quoted bytes are read again up to the quotation mark
pub chars-again : (xs rest : List ℕ) → all_spelled xs ≡ true → chars_at false (flat_map byte_text xs ++ (34 ∷ rest)) ≡ Some (xs, rest)
unfolding chars_at
chars-again [] rest h = refl
chars-again (b ∷ xs) rest h =
    let t = and_ok (b == 10 || is_printed b) (all_spelled xs) h in
    one b xs rest t.0 (sorted b) (chars-again xs rest t.1)
  where
    one : (b : ℕ) (xs rest : List ℕ) → (b == 10 || is_printed b) ≡ true → Sorted b → chars_at false (flat_map byte_text xs ++ (34 ∷ rest)) ≡ Some (xs, rest) → chars_at false (flat_map byte_text (b ∷ xs) ++ (34 ∷ rest)) ≡ Some (b ∷ xs, rest)
    one b xs rest p (quote e) more = subst (λ (c : ℕ). chars_at false (flat_map byte_text (c ∷ xs) ++ (34 ∷ rest)) ≡ Some (c ∷ xs, rest)) (sym e) (rw more refl)
    one b xs rest p (slash e) more = subst (λ (c : ℕ). chars_at false (flat_map byte_text (c ∷ xs) ++ (34 ∷ rest)) ≡ Some (c ∷ xs, rest)) (sym e) (rw more refl)
    one b xs rest p (line e) more = subst (λ (c : ℕ). chars_at false (flat_map byte_text (c ∷ xs) ++ (34 ∷ rest)) ≡ Some (c ∷ xs, rest)) (sym e) (rw more refl)
    one b xs rest p (other x y z) more = rw (x, y, z, x, y, printed b z p, more) refl

abbrev pub from_slash : Bool → List ℕ → List ℕ
from_slash false bytes = bytes
from_slash true bytes = 92 ∷ bytes

chosen : {A : Type 0} (t : Bool) (x y z : A) → cond t x y ≡ z → ((t ≡ true) × (x ≡ z)) ⊎ ((t ≡ false) × (y ≡ z))
chosen true x y z e = inl (refl, e)
chosen false x y z e = inr (refl, e)

abbrev pub Chars : List ℕ → List ℕ → List ℕ → Type 0
Chars bytes xs rest = (bytes ≡ flat_map byte_text xs ++ (34 ∷ rest)) × (all_spelled xs ≡ true)

-- one more byte in front
one-more : (b : ℕ) (front tail : List ℕ) (xs rest : List ℕ) → ((ys after : List ℕ) → chars_at false tail ≡ Some (ys, after) → Chars tail ys after) → byte_text b ≡ front → (b == 10 || is_printed b) ≡ true
    → with_byte b (chars_at false tail) ≡ Some (xs, rest) → Chars (front ++ tail) xs rest
one-more b front tail xs rest more text ok e =
    let x = bind_ok (chars_at false tail) (λ x. Some (b ∷ x.0, x.1)) (xs, rest) e in
    let q = some_is (b ∷ x.0.0, x.0.1) (xs, rest) x.2 in
    let g = more x.0.0 x.0.1 x.1 in
    let same : b ∷ x.0.0 ≡ xs = ap (λ (z : List ℕ × List ℕ). z.0) q in
    let left : x.0.1 ≡ rest = ap (λ (z : List ℕ × List ℕ). z.1) q in
    let tail-is : tail ≡ flat_map byte_text x.0.0 ++ (34 ∷ rest) = g.0 ∙ ap (λ (w : List ℕ). flat_map byte_text x.0.0 ++ (34 ∷ w)) left in
    subst (λ (ys : List ℕ). (front ++ tail ≡ flat_map byte_text ys ++ (34 ∷ rest)) × (all_spelled ys ≡ true)) same
    (ap (λ (w : List ℕ). front ++ w) tail-is ∙ ap (λ (w : List ℕ). w ++ (flat_map byte_text x.0.0 ++ (34 ∷ rest))) (sym text) ∙ sym (append_assoc (byte_text b) (flat_map byte_text x.0.0) (34 ∷ rest)), rw (ok, g.1) refl)

printed-other : (b : ℕ) → is_printed b ≡ true → (b == 10) ≡ false
printed-other b e = differs b 10 is_printed refl e

-- what is read of quoted text is the bytes that it spells
pub chars-takes : (bytes : List ℕ) (escaped : Bool) (xs rest : List ℕ) → chars_at escaped bytes ≡ Some (xs, rest) → Chars (from_slash escaped bytes) xs rest
unfolding chars_at
chars-takes [] escaped xs rest e = absurd cc
chars-takes (b ∷ bs) false xs rest e =
    plain b bs xs rest (chars-takes bs false) (chars-takes bs true) e
  where
    plain : (b : ℕ) (bs xs rest : List ℕ) → ((ys after : List ℕ) → chars_at false bs ≡ Some (ys, after) → Chars bs ys after) → ((ys after : List ℕ) → chars_at true bs ≡ Some (ys, after) → Chars (92 ∷ bs) ys after)
        → chars_at false (b ∷ bs) ≡ Some (xs, rest) → Chars (b ∷ bs) xs rest
    plain b bs xs rest more slashed e =
        elim (chosen (b == 34) (Some ([], bs)) (cond (b == 92) (chars_at true bs) (cond (is_printed b) (with_byte b (chars_at false bs)) None)) (Some (xs, rest)) e) [
          | inl h ↦
              let q = some_is ([], bs) (xs, rest) h.1 in
              let is : b ≡ 34 = same_test b 34 h.0 in
              let same : [] ≡ xs = ap (λ (z : List ℕ × List ℕ). z.0) q in
              let left : bs ≡ rest = ap (λ (z : List ℕ × List ℕ). z.1) q in
              subst (λ (ys : List ℕ). (b ∷ bs ≡ flat_map byte_text ys ++ (34 ∷ rest)) × (all_spelled ys ≡ true)) same (ap (λ (c : ℕ). c ∷ bs) is ∙ ap (λ (w : List ℕ). 34 ∷ w) left, refl)
          | inr h ↦ elim (chosen (b == 92) (chars_at true bs) (cond (is_printed b) (with_byte b (chars_at false bs)) None) (Some (xs, rest)) h.1) [
            | inl g ↦
                let r = slashed xs rest g.1 in
                (ap (λ (c : ℕ). c ∷ bs) (same_test b 92 g.0) ∙ r.0, r.1)
            | inr g ↦ elim (chosen (is_printed b) (with_byte b (chars_at false bs)) None (Some (xs, rest)) g.1) [
              | inl k ↦ one-more b (b ∷ []) bs xs rest more (rw (h.0, g.0, printed-other b k.0) refl) (rw (printed-other b k.0, k.0) refl) k.1
              | inr k ↦ absurd (nothing xs rest k.1)
            ]
          ]
        ]
      where
        nothing : (xs rest : List ℕ) → (let n : Option (List ℕ × List ℕ) = None in n) ≡ Some (xs, rest) → ⊥
        nothing xs rest e = cc
chars-takes (b ∷ bs) true xs rest e =
    behind b bs xs rest (chars-takes bs false) e
  where
    nothing : (xs rest : List ℕ) → (let n : Option (List ℕ × List ℕ) = None in n) ≡ Some (xs, rest) → ⊥
    nothing xs rest e = cc

    behind : (b : ℕ) (bs xs rest : List ℕ) → ((ys after : List ℕ) → chars_at false bs ≡ Some (ys, after) → Chars bs ys after)
        → chars_at true (b ∷ bs) ≡ Some (xs, rest) → Chars (92 ∷ b ∷ bs) xs rest
    behind b bs xs rest more e =
        elim (chosen (b == 34) (with_byte 34 (chars_at false bs)) (cond (b == 92) (with_byte 92 (chars_at false bs)) (cond (b == 110) (with_byte 10 (chars_at false bs)) None)) (Some (xs, rest)) e) [
          | inl h ↦ subst (λ (c : ℕ). Chars (92 ∷ c ∷ bs) xs rest) (sym (same_test b 34 h.0)) (one-more 34 (92 ∷ 34 ∷ []) bs xs rest more refl refl h.1)
          | inr h ↦ elim (chosen (b == 92) (with_byte 92 (chars_at false bs)) (cond (b == 110) (with_byte 10 (chars_at false bs)) None) (Some (xs, rest)) h.1) [
            | inl g ↦ subst (λ (c : ℕ). Chars (92 ∷ c ∷ bs) xs rest) (sym (same_test b 92 g.0)) (one-more 92 (92 ∷ 92 ∷ []) bs xs rest more refl refl g.1)
            | inr g ↦ elim (chosen (b == 110) (with_byte 10 (chars_at false bs)) None (Some (xs, rest)) g.1) [
              | inl k ↦ subst (λ (c : ℕ). Chars (92 ∷ c ∷ bs) xs rest) (sym (same_test b 110 k.0)) (one-more 10 (92 ∷ 110 ∷ []) bs xs rest more refl refl k.1)
              | inr k ↦ absurd (nothing xs rest k.1)
            ]
          ]
        ]
