-- The texts of kinds, labels, types and terms are compact, and so is each Omega text.
-- Main results: texts_stay, read.
use Rattle.std.proofs.Common.{◌≡◌, ℕ, zero, suc, ◌+◌, ◌-◌, ◌^◌, ◌<◌, Bool, true, false, List, [], ◌∷◌, ◌++◌, length, Option, Some, None, refl, sym, ap, ◌∙◌, subst, arith, inl, inr}
use Rattle.std.specs.Prelude.{◌⊎◌, codes, decimal, ◌==◌, ◌||◌, ◌&&◌, ℤ, pos, negsuc}
use Rattle.std.specs.Char.{is_ascii_digit}
use Rattle.std.specs.Fmt.{signed_decimal}
use Rattle.std.proofs.lemmas.Bool.Decides.{nat_tests}
use Rattle.std.proofs.lemmas.Fmt.{digits_decimal, decimal_nonempty, decimal_digit}
use Rattle.omega_kinds.specs.Text.{◌then◌}
use Rattle.omega_kinds.specs.Kind.{Kind, Star, Arrow as ArrowKind}
use Rattle.omega_kinds.specs.declared.label.Label.{Label}
use Rattle.omega_kinds.specs.declared.label.Label.TheVariants.{Val, Typ, Sig, App, Gen, Name}
use Rattle.omega_types.specs.Ty as types
use Rattle.omega_types.specs.Ty.{Ty, Row}
use Rattle.omega_terms.specs.Term as terms
use Rattle.omega_terms.specs.Term.{Term, TermRow}
use Rattle.omega_terms.specs.declared.op.Op.{Op}
use Rattle.omega_terms.specs.declared.op.Op.TheVariants as op
use Rattle.omega_terms.specs.declared.version.Version.{Version}
use Rattle.omega_terms.specs.declared.version.Version.TheVariants.{First, Second}
use Rattle.omega_terms.specs.KindText.{kind_text, label_text}
use Rattle.omega_terms.specs.TypeText.{ty_text, row_text}
use Rattle.omega_terms.specs.TermText.{quoted_text, op_front, term_text, term_row_text}
use Rattle.omega_terms.specs.OmegaText.{version_text}
use Rattle.omega_spelling.specs.Spelled.{LabelSpelled, TySpelled, RowSpelled, is_hidden}
use Rattle.omega_spelling.specs.TermReading.{TermSpelled, TermRowSpelled, SignedFits}
use Rattle.omega_spelling.specs.Reading.{passes, in_name, is_name, all_in_name}
use Rattle.omega_spelling.specs.Omega.{OmegaText}
use Rattle.omega_spelling.proofs.Steps.{and_ok}
use Rattle.omega_spelling.proofs.Numbers.{own}
use Rattle.omega_compact.specs.Tokens.{Token, Close, Word, Between, in_word, tokens_from, tokens_of}
use Rattle.omega_compact.specs.Spelling.{is_omega, spelled_from, spelled, compacted}
use Rattle.omega_compact.specs.Denotes.{Denotes}
use Rattle.omega_compact.proofs.Again.{IsWord, all_in_word, EndsWord, word_again, same_tokens}
use Rattle.omega_compact.proofs.Items.{Compact, Item, inner, behind_word, word_item, word_whole, text_item, bytes_text, Fields, no_fields, more_fields, one_form, two_form, three_form, fields_form, case_form}

-- ---- words

true_false : (let t : Bool = true in t) ≡ false → ⊥
true_false e = cc

other : (p : ℕ → Bool) (c b : ℕ) → p c ≡ false → p b ≡ true → (b == c) ≡ false
other p c b x e = pick (b == c) refl
  where
    pick : (t : Bool) → (b == c) ≡ t → t ≡ false
    pick true q = let h : b ≡ c = grind (arith, nat_tests) in absurd (true_false (sym e ∙ ap p h ∙ x))
    pick false q = refl

-- what passes is in words, where blanks, parentheses, quotes and `;` do not
record OfWords (p : ℕ → Bool) : Type 0 where
  blank : p 32 ≡ false
  line : p 10 ≡ false
  tab : p 9 ≡ false
  return : p 13 ≡ false
  opener : p 40 ≡ false
  close : p 41 ≡ false
  quote : p 34 ≡ false
  comment : p 59 ≡ false

word_byte : (p : ℕ → Bool) → OfWords p → (b : ℕ) → p b ≡ true → in_word b ≡ true
word_byte p w b e =
    rw (other p 32 b w.blank e, other p 10 b w.line e, other p 9 b w.tab e, other p 13 b w.return e, other p 40 b w.opener e, other p 41 b w.close e, other p 34 b w.quote e, other p 59 b w.comment e) refl

word_bytes : (p : ℕ → Bool) → OfWords p → (bytes : List ℕ) → passes p bytes ≡ true → all_in_word bytes
word_bytes p w [] e = tt
word_bytes p w (b ∷ bytes) e = let t = and_ok (p b) (passes p bytes) e in (word_byte p w b t.0, word_bytes p w bytes t.1)

digits : OfWords is_ascii_digit
digits = record { blank = refl; line = refl; tab = refl; return = refl; opener = refl; close = refl; quote = refl; comment = refl }

names : OfWords in_name
names = record { blank = refl; line = refl; tab = refl; return = refl; opener = refl; close = refl; quote = refl; comment = refl }

number_bytes : (k : ℕ) → k < 2 ^ 64 → all_in_word (decimal k)
number_bytes k lt = word_bytes is_ascii_digit digits (decimal k) (digits_decimal own k lt)

word_from : (bytes : List ℕ) → 0 < length bytes → all_in_word bytes → IsWord bytes
word_from [] lt w = absurd (omega arith)
word_from (b ∷ bytes) lt w = w

some_digit : (k : ℕ) → k < 2 ^ 64 → 0 < length (decimal k)
some_digit zero lt = rw (decimal_digit 0 (omega arith)) (omega arith)
some_digit (suc k) lt = decimal_nonempty (suc k) lt

number_word : (k : ℕ) → k < 2 ^ 64 → IsWord (decimal k)
number_word k lt = word_from (decimal k) (some_digit k lt) (number_bytes k lt)

no_omega : (bytes : List ℕ) → passes is_ascii_digit bytes ≡ true → is_omega (Word bytes) ≡ false
no_omega [] e = refl
no_omega (b ∷ bytes) e = let t = and_ok (is_ascii_digit b) (passes is_ascii_digit bytes) e in rw (other is_ascii_digit 111 b refl t.0) refl

number_item : (k : ℕ) → k < 2 ^ 64 → Item 0 (decimal k)
number_item k lt = word_whole (decimal k) (number_word k lt) (no_omega (decimal k) (digits_decimal own k lt))

signed_item : (z : ℤ) → SignedFits z → Item 0 (signed_decimal z)
signed_item (pos k) lt = number_item k (omega arith)
signed_item (negsuc k) lt = word_whole (45 ∷ decimal (suc k)) (refl, number_bytes (suc k) (omega arith)) refl

variable_item : (sort k : ℕ) → in_word sort ≡ true → (sort == 111) ≡ false → k < 2 ^ 64 → Item 0 (sort ∷ decimal k)
variable_item sort k w o lt = word_whole (sort ∷ decimal k) (w, number_bytes k lt) (rw o refl)

-- ---- labels

or_cases : (a b : Bool) → (a || b) ≡ true → (a ≡ true) ⊎ (b ≡ true)
or_cases true b e = inl refl
or_cases false b e = inr e

hidden_word : (bytes : List ℕ) → is_hidden bytes ≡ true → IsWord bytes
hidden_word [] e = absurd cc
hidden_word (p ∷ []) e = absurd cc
hidden_word (p ∷ d ∷ []) e =
    let t = and_ok (p == 37) (is_ascii_digit d) e in
    (word_byte (λ b. b == 37) (record { blank = refl; line = refl; tab = refl; return = refl; opener = refl; close = refl; quote = refl; comment = refl }) p t.0, (word_byte is_ascii_digit digits d t.1, tt))
hidden_word (p ∷ d ∷ x ∷ bs) e = absurd cc

name_word : (bytes : List ℕ) → is_name bytes ≡ true → all_in_name bytes ≡ true → IsWord bytes
name_word [] e f = absurd cc
name_word (b ∷ bytes) e f = word_bytes in_name names (b ∷ bytes) f

label_item : (l : Label) → LabelSpelled l → Item 1 (label_text l)
label_item Val ok = word_item (codes ".val") (refl, (refl, (refl, (refl, tt))))
label_item Typ ok = word_item (codes ".typ") (refl, (refl, (refl, (refl, tt))))
label_item Sig ok = word_item (codes ".sig") (refl, (refl, (refl, (refl, tt))))
label_item App ok = word_item (codes ".app") (refl, (refl, (refl, (refl, tt))))
label_item Gen ok = word_item (codes ".gen") (refl, (refl, (refl, (refl, tt))))
label_item (Name bytes) ok =
    elim (or_cases (is_name bytes && all_in_name bytes) (is_hidden bytes) ok) [
      | inl h ↦ (let t = and_ok (is_name bytes) (all_in_name bytes) h in word_item bytes (name_word bytes t.0 t.1))
      | inr h ↦ word_item bytes (hidden_word bytes h)
    ]

-- ---- kinds and types

one_byte : (b : ℕ) → in_word b ≡ true → Item 1 (b ∷ [])
one_byte b w = word_item (b ∷ []) (w, tt)

two_bytes : (b d : ℕ) → in_word b ≡ true → in_word d ≡ true → Item 1 (b ∷ d ∷ [])
two_bytes b d w x = word_item (b ∷ d ∷ []) (w, (x, tt))

kind_item : (k : Kind) → Item 0 (kind_text k)
kind_item Star = word_whole (codes "*") (refl, tt) refl
kind_item (ArrowKind a b) = two_form (codes ">") (kind_text a) (kind_text b) (one_byte 62 refl) (inner (kind_text a) (kind_item a)) (inner (kind_text b) (kind_item b))

three_bytes : (b d e : ℕ) → in_word b ≡ true → in_word d ≡ true → in_word e ≡ true → Item 1 (b ∷ d ∷ e ∷ [])
three_bytes b d e w x y = word_item (b ∷ d ∷ e ∷ []) (w, (x, (y, tt)))

four_bytes : (b d e f : ℕ) → in_word b ≡ true → in_word d ≡ true → in_word e ≡ true → in_word f ≡ true → Item 1 (b ∷ d ∷ e ∷ f ∷ [])
four_bytes b d e f w x y z = word_item (b ∷ d ∷ e ∷ f ∷ []) (w, (x, (y, (z, tt))))

variable_text : (sort k : ℕ) → in_word sort ≡ true → (sort == 111) ≡ false → k < 2 ^ 64 → Item 0 ((sort ∷ []) then decimal k)
unfolding ◌then◌
variable_text sort k w o lt = variable_item sort k w o lt

mutual
  ty_item : (v : Version) (n : ℕ) (t : Ty) → TySpelled v n t → Item 0 (ty_text n t)
  ty_item v n (types.Var i) ok = variable_text 97 (n - (i + 1)) refl refl ok.1
  ty_item v n types.Int ok = word_whole (codes "int") (refl, (refl, (refl, tt))) refl
  ty_item v n types.Bool ok = word_whole (codes "bool") (refl, (refl, (refl, (refl, tt)))) refl
  ty_item v n types.Text ok = word_whole (codes "text") (refl, (refl, (refl, (refl, tt)))) refl
  ty_item v n (types.Arrow a b) ok =
      two_form (codes "->") (ty_text n a) (ty_text n b) (two_bytes 45 62 refl refl) (inner (ty_text n a) (ty_item v n a ok.0)) (inner (ty_text n b) (ty_item v n b ok.1))
  ty_item v n (types.Fields r) ok = fields_form (codes "rec") (row_text n r) (three_bytes 114 101 99 refl refl refl) (row_fields v n None r ok)
  ty_item v n (types.Sum r) ok = fields_form (codes "sum") (row_text n r) (three_bytes 115 117 109 refl refl refl) (row_fields v n None r ok.1)
  ty_item v n (types.All k b) ok =
      two_form (codes "all") (kind_text k) (ty_text (n + 1) b) (three_bytes 97 108 108 refl refl refl) (inner (kind_text k) (kind_item k)) (inner (ty_text (n + 1) b) (ty_item v (n + 1) b ok))
  ty_item v n (types.Ex k b) ok =
      two_form (codes "some") (kind_text k) (ty_text (n + 1) b) (four_bytes 115 111 109 101 refl refl refl refl) (inner (kind_text k) (kind_item k)) (inner (ty_text (n + 1) b) (ty_item v (n + 1) b ok))
  ty_item v n (types.Mu b) ok = one_form (codes "mu") (ty_text (n + 1) b) (two_bytes 109 117 refl refl) (inner (ty_text (n + 1) b) (ty_item v (n + 1) b ok.1))
  ty_item v n (types.Lam k b) ok =
      two_form (codes "lam") (kind_text k) (ty_text (n + 1) b) (three_bytes 108 97 109 refl refl refl) (inner (kind_text k) (kind_item k)) (inner (ty_text (n + 1) b) (ty_item v (n + 1) b ok))
  ty_item v n (types.Apply f a) ok =
      two_form (codes "@") (ty_text n f) (ty_text n a) (one_byte 64 refl) (inner (ty_text n f) (ty_item v n f ok.0)) (inner (ty_text n a) (ty_item v n a ok.1))

  row_fields : (v : Version) (n : ℕ) (last : Option Label) (r : Row) → RowSpelled v n last r → Fields (row_text n r)
  row_fields v n last types.End ok = no_fields
  row_fields v n last (types.More l t r) ok =
      more_fields (label_text l) (ty_text n t) (row_text n r) (label_item l ok.1) (inner (ty_text n t) (ty_item v n t ok.2)) (row_fields v n (Some l) r ok.3)

-- ---- terms

operator_form : (o : Op) (a b : List ℕ) → Item 1 a → Item 1 b → Item 0 (op_front o then a then codes " " then b then codes ")")
operator_form op.Add a b i j = two_form (codes "+") a b (one_byte 43 refl) i j
operator_form op.Sub a b i j = two_form (codes "-") a b (one_byte 45 refl) i j
operator_form op.Mul a b i j = two_form (codes "*") a b (one_byte 42 refl) i j
operator_form op.Div a b i j = two_form (codes "/") a b (one_byte 47 refl) i j
operator_form op.Rem a b i j = two_form (codes "%") a b (one_byte 37 refl) i j
operator_form op.Less a b i j = two_form (codes "<") a b (one_byte 60 refl) i j
operator_form op.Equal a b i j = two_form (codes "==") a b (two_bytes 61 61 refl refl) i j

quoted_item : (bytes : List ℕ) → Item 0 (quoted_text bytes)
unfolding ◌then◌
quoted_item bytes = text_item _ (bytes_text bytes)

mutual
  term_item : (v : Version) (n m : ℕ) (e : Term) → TermSpelled v n m e → Item 0 (term_text n m e)
  term_item v n m (terms.Var i) ok = variable_text 120 (m - (i + 1)) refl refl ok.1
  term_item v n m (terms.Int z) ok = signed_item z ok
  term_item v n m (terms.Bool true) ok = word_whole (codes "true") (refl, (refl, (refl, (refl, tt)))) refl
  term_item v n m (terms.Bool false) ok = word_whole (codes "false") (refl, (refl, (refl, (refl, (refl, tt))))) refl
  term_item v n m (terms.Text s) ok = quoted_item s
  term_item v n m (terms.Lam t e) ok =
      two_form (codes "fn") (ty_text n t) (term_text n (m + 1) e) (two_bytes 102 110 refl refl) (inner (ty_text n t) (ty_item v n t ok.0)) (inner (term_text n (m + 1) e) (term_item v n (m + 1) e ok.1))
  term_item v n m (terms.Call f a) ok =
      two_form (codes "call") (term_text n m f) (term_text n m a) (four_bytes 99 97 108 108 refl refl refl refl) (inner (term_text n m f) (term_item v n m f ok.0)) (inner (term_text n m a) (term_item v n m a ok.1))
  term_item v n m (terms.TyLam k e) ok =
      two_form (codes "tfn") (kind_text k) (term_text (n + 1) m e) (three_bytes 116 102 110 refl refl refl) (inner (kind_text k) (kind_item k)) (inner (term_text (n + 1) m e) (term_item v (n + 1) m e ok))
  term_item v n m (terms.Inst e t) ok =
      two_form (codes "inst") (term_text n m e) (ty_text n t) (four_bytes 105 110 115 116 refl refl refl refl) (inner (term_text n m e) (term_item v n m e ok.0)) (inner (ty_text n t) (ty_item v n t ok.1))
  term_item v n m (terms.Fields r) ok = fields_form (codes "rec") (term_row_text n m r) (three_bytes 114 101 99 refl refl refl) (term_fields v n m None r ok)
  term_item v n m (terms.Get e l) ok =
      two_form (codes "get") (term_text n m e) (label_text l) (three_bytes 103 101 116 refl refl refl) (inner (term_text n m e) (term_item v n m e ok.0)) (label_item l ok.1)
  term_item v n m (terms.Pack t e u) ok =
      three_form (codes "pack") (ty_text n t) (term_text n m e) (ty_text n u) (four_bytes 112 97 99 107 refl refl refl refl)
      (inner (ty_text n t) (ty_item v n t ok.0)) (inner (term_text n m e) (term_item v n m e ok.1)) (inner (ty_text n u) (ty_item v n u ok.2))
  term_item v n m (terms.Unpack e b) ok =
      two_form (codes "open") (term_text n m e) (term_text (n + 1) (m + 1) b) (four_bytes 111 112 101 110 refl refl refl refl)
      (inner (term_text n m e) (term_item v n m e ok.0)) (inner (term_text (n + 1) (m + 1) b) (term_item v (n + 1) (m + 1) b ok.1))
  term_item v n m (terms.If a b d) ok =
      three_form (codes "if") (term_text n m a) (term_text n m b) (term_text n m d) (two_bytes 105 102 refl refl)
      (inner (term_text n m a) (term_item v n m a ok.0)) (inner (term_text n m b) (term_item v n m b ok.1)) (inner (term_text n m d) (term_item v n m d ok.2))
  term_item v n m (terms.Arith o a b) ok = operator_form o (term_text n m a) (term_text n m b) (inner (term_text n m a) (term_item v n m a ok.0)) (inner (term_text n m b) (term_item v n m b ok.1))
  term_item v n m (terms.Fix t u e) ok =
      three_form (codes "fix") (ty_text n t) (ty_text n u) (term_text n (m + 2) e) (three_bytes 102 105 120 refl refl refl)
      (inner (ty_text n t) (ty_item v n t ok.0)) (inner (ty_text n u) (ty_item v n u ok.1)) (inner (term_text n (m + 2) e) (term_item v n (m + 2) e ok.2))
  term_item v n m (terms.Inj l e t) ok =
      three_form (codes "inj") (label_text l) (term_text n m e) (ty_text n t) (three_bytes 105 110 106 refl refl refl)
      (label_item l ok.1) (inner (term_text n m e) (term_item v n m e ok.2)) (inner (ty_text n t) (ty_item v n t ok.3))
  term_item v n m (terms.Case e t r) ok =
      case_form (codes "case") (term_text n m e) (ty_text n t) (term_row_text n (m + 1) r) (four_bytes 99 97 115 101 refl refl refl refl)
      (inner (term_text n m e) (term_item v n m e ok.1)) (inner (ty_text n t) (ty_item v n t ok.2)) (term_fields v n (m + 1) None r ok.3)
  term_item v n m (terms.Roll e t) ok =
      two_form (codes "roll") (term_text n m e) (ty_text n t) (four_bytes 114 111 108 108 refl refl refl refl) (inner (term_text n m e) (term_item v n m e ok.1)) (inner (ty_text n t) (ty_item v n t ok.2))
  term_item v n m (terms.Unroll e) ok =
      one_form (codes "unroll") (term_text n m e) (word_item (codes "unroll") (refl, (refl, (refl, (refl, (refl, (refl, tt))))))) (inner (term_text n m e) (term_item v n m e ok.1))

  term_fields : (v : Version) (n m : ℕ) (last : Option Label) (r : TermRow) → TermRowSpelled v n m last r → Fields (term_row_text n m r)
  term_fields v n m last terms.End ok = no_fields
  term_fields v n m last (terms.More l t r) ok =
      more_fields (label_text l) (term_text n m t) (term_row_text n m r) (label_item l ok.1) (inner (term_text n m t) (term_item v n m t ok.2)) (term_fields v n m (Some l) r ok.3)

-- ---- whole texts

first_line : (d : ℕ) (rest : List ℕ) → in_word d ≡ true → (d == 111) ≡ false → EndsWord rest → Compact 0 (Some Close) rest → Compact 0 None (codes "omega " ++ (d ∷ rest))
first_line d rest w o ends c =
    ap (spelled_from 0 None) (word_again (codes "omega") (32 ∷ d ∷ rest) (refl, (refl, (refl, (refl, (refl, tt))))) refl)
    ∙ ap (λ (ts : List Token). spelled_from 0 None (Word (codes "omega") ∷ ts)) (word_again (d ∷ []) rest (w, tt) ends)
    ∙ ap (λ (x : List ℕ). codes "omega " ++ (d ∷ x)) (behind_word 0 (d ∷ []) (tokens_from Between rest) (inl (rw o refl)) ∙ c)

lines : (d : ℕ) (t e : List ℕ) → in_word d ≡ true → (d == 111) ≡ false → Item 0 t → Item 0 e → Compact 0 None (codes "omega " ++ (d ∷ (10 ∷ (t ++ (10 ∷ (e ++ (10 ∷ [])))))))
lines d t e w o i j =
    let c1 : Compact 0 (Some Close) (10 ∷ []) = refl in
    let c2 : Compact 0 (Some Close) (10 ∷ (e ++ (10 ∷ []))) = j 0 (omega arith) (Some Close) (10 ∷ []) refl c1 in
    let c3 : Compact 0 (Some Close) (10 ∷ (t ++ (10 ∷ (e ++ (10 ∷ []))))) = i 0 (omega arith) (Some Close) (10 ∷ (e ++ (10 ∷ []))) refl c2 in
    first_line d (10 ∷ (t ++ (10 ∷ (e ++ (10 ∷ []))))) w o refl c3

text_compact : (v : Version) (t : Ty) (e : Term) → TySpelled v 0 t → TermSpelled v 0 0 e → Compact 0 None (version_text v t e)
unfolding ◌then◌
text_compact First t e a b = lines 49 (ty_text 0 t) (term_text 0 0 e) refl refl (ty_item First 0 t a) (term_item First 0 0 e b)
text_compact Second t e a b = lines 50 (ty_text 0 t) (term_text 0 0 e) refl refl (ty_item Second 0 t a) (term_item Second 0 0 e b)

-- each Omega text is its own compact text
pub texts_stay : (bytes : List ℕ) (t : Ty) (e : Term) → OmegaText bytes t e → compacted bytes ≡ bytes
unfolding tokens_of spelled
texts_stay bytes t e o =
    let text = o.1.text in
    subst (λ (w : List ℕ). spelled_from 0 None (tokens_from Between w) ≡ w) (sym text) (text_compact o.0 t e o.1.type_spelled o.1.term_spelled)

-- what is read is what is denoted
pub denoted : (bytes : List ℕ) (t : Ty) (e : Term) → OmegaText (compacted bytes) t e → Denotes bytes t e
denoted bytes t e o = (compacted bytes, same_tokens bytes, o)

-- bytes that denote a type and a term have their Omega text as compact text
pub read : (bytes : List ℕ) (t : Ty) (e : Term) → Denotes bytes t e → OmegaText (compacted bytes) t e
read bytes t e d = subst (λ (w : List ℕ). OmegaText w t e) (sym (texts_stay d.0 t e d.2) ∙ ap spelled d.1) d.2
