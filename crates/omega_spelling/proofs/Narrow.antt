-- An Omega text has no number outside signed 64 bits.
-- Main results: text-not-wide.
use Rattle.std.proofs.Common.{◌≡◌, ℕ, suc, ◌+◌, ◌-◌, ◌^◌, ◌<◌, ◌≤◌, Bool as Truth, true, false, List, [], ◌∷◌, ◌++◌, refl, sym, ap, ◌∙◌, subst, append_assoc, arith, inl, inr}
use Rattle.std.specs.Prelude.{codes, decimal, flat_map, ◌&&◌, ◌==◌, not, nat_lt, Option, Some, None, ℤ, pos, negsuc}
use Rattle.std.specs.Fmt.{signed_decimal}
use Rattle.std.specs.Char.{is_ascii_digit}
use Rattle.std.proofs.lemmas.Bool.Decides.{nat_tests}
use Rattle.std.proofs.lemmas.List.{append-nil}
use Rattle.std.proofs.lemmas.Fmt.{digits_decimal, digits_value-decimal}
use Rattle.omega_kinds.specs.Text.{◌then◌}
use Rattle.omega_kinds.specs.Kind.{Kind, Star, Arrow as ArrowKind}
use Rattle.omega_kinds.specs.declared.label.Label.{Label}
use Rattle.omega_kinds.specs.declared.label.Label.TheVariants.{Val, Typ, Sig, App, Gen, Name}
use Rattle.omega_types.specs.Ty as types
use Rattle.omega_types.specs.Ty.{Ty, Row}
use Rattle.omega_terms.specs.KindText.{kind_text, label_text}
use Rattle.omega_terms.specs.TypeText.{ty_text, row_text}
use Rattle.omega_terms.specs.TermText.{byte_text, term_text, term_row_text}
use Rattle.omega_terms.specs.declared.version.Version.{Version}
use Rattle.omega_terms.specs.declared.version.Version.TheVariants.{First, Second}
use Rattle.omega_terms.specs.OmegaText.{version_line, version_text}
use Rattle.omega_spelling.specs.Spelled.{LabelSpelled, TySpelled, RowSpelled, is_hidden}
use Rattle.omega_terms.specs.declared.op.Op.TheVariants.{Add, Sub, Mul, Div, Rem, Less, Equal}
use Rattle.omega_terms.specs.Term.{Term, TermRow, Var, Int, Bool, Text, Lam, Call, TyLam, Inst, Fields, Get, Pack, Unpack, If, Arith, Fix, Inj, Case, Roll, Unroll, End, More}
use Rattle.omega_spelling.specs.Reading.{passes, in_name, begins_name, is_keyword, is_name, all_in_name, value_of}
use Rattle.omega_spelling.specs.TermReading.{TermSpelled, TermRowSpelled, SignedFits}
use Rattle.omega_spelling.specs.Refusals.{Outside, Inside, in_item, is_wide, some_digits, wide_from, lines_cut, has_wide}
use Rattle.omega_spelling.proofs.Steps.{and_ok, Stops}
use Rattle.omega_spelling.proofs.Numbers.{own}
use Rattle.omega_spelling.proofs.Quoted.{Sorted, quote, slash, line, other, sorted, differs}
use Rattle.omega_spelling.proofs.Types.{below-test, built-is, closed-is, field-is}
use Rattle.omega_spelling.proofs.Terms.{three-is, case-is, quoted-is}
use Rattle.omega_spelling.proofs.Depth.{or-cases}
use Rattle.omega_spelling.proofs.Texts.{text-is}

abbrev wide : List ℕ → Truth
wide bytes = wide_from Outside [] bytes

-- an item ends here
abbrev Delimits : List ℕ → Type 0
Delimits rest = Stops in_item rest

-- a text with no wide number, before a place where an item ends
abbrev Narrow : List ℕ → Type 0
Narrow text = (rest : List ℕ) → Delimits rest → wide (text ++ rest) ≡ wide rest

item-run : (xs item rest : List ℕ) → passes in_item xs ≡ true → wide_from Outside item (xs ++ rest) ≡ wide_from Outside (item ++ xs) rest
item-run [] item rest h = ap (λ (w : List ℕ). wide_from Outside w rest) (sym (append-nil item))
item-run (x ∷ xs) item rest h =
    let t = and_ok (in_item x) (passes in_item xs) h in
    let a : wide_from Outside item (x ∷ xs ++ rest) ≡ wide_from Outside (item ++ x ∷ []) (xs ++ rest) = rw t.0 refl in
    a ∙ item-run xs (item ++ x ∷ []) rest t.1 ∙ ap (λ (w : List ℕ). wide_from Outside w rest) (append_assoc item (x ∷ []) xs)

item-end : (item rest : List ℕ) → is_wide item ≡ false → Delimits rest → wide_from Outside item rest ≡ wide rest
item-end item [] h d = h
item-end item (b ∷ bs) h d = rw (d, h) refl

item-narrow : (xs : List ℕ) → passes in_item xs ≡ true → is_wide xs ≡ false → Narrow xs
item-narrow xs p h rest d = item-run xs [] rest p ∙ item-end xs rest h d

item-from : (p : ℕ → Truth) → p 32 ≡ false → p 10 ≡ false → p 40 ≡ false → p 41 ≡ false → p 34 ≡ false → (xs : List ℕ) → passes p xs ≡ true → passes in_item xs ≡ true
item-from p a b c d e [] h = refl
item-from p a b c d e (x ∷ xs) h =
    let t = and_ok (p x) (passes p xs) h in
    rw (differs x 32 p a t.0, differs x 10 p b t.0, differs x 40 p c t.0, differs x 41 p d t.0, differs x 34 p e t.0, item-from p a b c d e xs t.1) refl

not-digits : (b : ℕ) (bs : List ℕ) → is_ascii_digit b ≡ false → (b == 45) ≡ false → is_wide (b ∷ bs) ≡ false
not-digits b bs x y = rw (x, y) refl

letter : (b : ℕ) → begins_name b ≡ true → is_ascii_digit b ≡ false
letter b e = grind (arith, nat_tests)

digits-narrow : (ds : List ℕ) → passes is_ascii_digit ds ≡ true → value_of ds < 2 ^ 63 → is_wide ds ≡ false
digits-narrow [] h lt = refl
digits-narrow (b ∷ bs) h lt =
    let t = and_ok (is_ascii_digit b) (passes is_ascii_digit bs) h in
    rw (below-test (value_of (b ∷ bs)) (2 ^ 63) lt, differs b 45 is_ascii_digit refl t.0, t.0, t.1) refl

not-above : (a b : ℕ) → a ≤ b → nat_lt b a ≡ false
not-above a b h = grind (arith, nat_tests)

minus-narrow : (ds : List ℕ) → value_of ds ≤ 2 ^ 63 → is_wide (45 ∷ ds) ≡ false
minus-narrow ds le = rw (not-above (value_of ds) (2 ^ 63) le) (and-no (some_digits ds))
  where
    and-no : (t : Truth) → (t && false) ≡ false
    and-no true = refl
    and-no false = refl

signed-narrow : (z : ℤ) → SignedFits z → Narrow (signed_decimal z)
signed-narrow (pos n) lt =
    let q = digits_decimal own n (omega arith) in
    item-narrow (decimal n) (item-from is_ascii_digit refl refl refl refl refl (decimal n) q) (digits-narrow (decimal n) q (rw (digits_value-decimal own n (omega arith)) lt))
signed-narrow (negsuc n) lt =
    let q = digits_decimal own (suc n) (omega arith) in
    item-narrow (45 ∷ decimal (suc n)) (rw (item-from is_ascii_digit refl refl refl refl refl (decimal (suc n)) q) refl) (minus-narrow (decimal (suc n)) (rw (digits_value-decimal own (suc n) (omega arith)) (omega arith)))

level-narrow : (b n i : ℕ) → in_item b ≡ true → is_ascii_digit b ≡ false → (b == 45) ≡ false → n - (i + 1) < 2 ^ 64 → Narrow (b ∷ decimal (n - (i + 1)))
level-narrow b n i x y z lt =
    item-narrow (b ∷ decimal (n - (i + 1))) (rw (x, item-from is_ascii_digit refl refl refl refl refl (decimal (n - (i + 1))) (digits_decimal own (n - (i + 1)) lt)) refl) (not-digits b (decimal (n - (i + 1))) y z)

name-narrow : (bytes : List ℕ) → is_name bytes ≡ true → passes in_name bytes ≡ true → Narrow bytes
name-narrow [] e p = λ rest d. refl
name-narrow (b ∷ bs) e p =
    let first = (and_ok (begins_name b) (not (is_keyword (b ∷ bs))) e).0 in
    item-narrow (b ∷ bs) (item-from in_name refl refl refl refl refl (b ∷ bs) p) (not-digits b bs (letter b first) (differs b 45 begins_name refl first))

hidden-narrow : (bytes : List ℕ) → is_hidden bytes ≡ true → Narrow bytes
hidden-narrow [] e = absurd cc
hidden-narrow (p ∷ []) e = absurd cc
hidden-narrow (p ∷ d ∷ []) e =
    let t = and_ok (p == 37) (is_ascii_digit d) e in
    let first : passes (λ (b : ℕ). b == 37) (p ∷ []) ≡ true = rw t.0 refl in
    item-narrow (p ∷ d ∷ []) (both p d (item-from (λ (b : ℕ). b == 37) refl refl refl refl refl (p ∷ []) first) (item-from is_ascii_digit refl refl refl refl refl (d ∷ []) (rw t.1 refl))) (not-digits p (d ∷ []) (percent p t.0) (differs p 45 (λ (b : ℕ). b == 37) refl t.0))
  where
    both : (p d : ℕ) → passes in_item (p ∷ []) ≡ true → passes in_item (d ∷ []) ≡ true → passes in_item (p ∷ d ∷ []) ≡ true
    both p d x y = rw ((and_ok (in_item p) true x).0, (and_ok (in_item d) true y).0) refl

    percent : (p : ℕ) → (p == 37) ≡ true → is_ascii_digit p ≡ false
    percent p e = grind (arith, nat_tests)
hidden-narrow (p ∷ d ∷ x ∷ bs) e = absurd cc

label-narrow : (l : Label) → LabelSpelled l → Narrow (label_text l)
label-narrow Val ok = item-narrow (codes ".val") refl refl
label-narrow Typ ok = item-narrow (codes ".typ") refl refl
label-narrow Sig ok = item-narrow (codes ".sig") refl refl
label-narrow App ok = item-narrow (codes ".app") refl refl
label-narrow Gen ok = item-narrow (codes ".gen") refl refl
label-narrow (Name bytes) ok =
    elim (or-cases (is_name bytes && all_in_name bytes) (is_hidden bytes) ok) [
      | inl h ↦ let t = and_ok (is_name bytes) (all_in_name bytes) h in name-narrow bytes t.0 t.1
      | inr h ↦ hidden-narrow bytes h
    ]

inside-run : (xs w : List ℕ) → wide_from Inside [] (flat_map byte_text xs ++ w) ≡ wide_from Inside [] w
inside-run [] w = refl
inside-run (b ∷ xs) w = one b (flat_map byte_text xs) w (sorted b) ∙ inside-run xs w
  where
    one : (b : ℕ) (more w : List ℕ) → Sorted b → wide_from Inside [] ((byte_text b ++ more) ++ w) ≡ wide_from Inside [] (more ++ w)
    one b more w (quote q) = subst (λ (z : ℕ). wide_from Inside [] ((byte_text z ++ more) ++ w) ≡ wide_from Inside [] (more ++ w)) (sym q) refl
    one b more w (slash q) = subst (λ (z : ℕ). wide_from Inside [] ((byte_text z ++ more) ++ w) ≡ wide_from Inside [] (more ++ w)) (sym q) refl
    one b more w (line q) = subst (λ (z : ℕ). wide_from Inside [] ((byte_text z ++ more) ++ w) ≡ wide_from Inside [] (more ++ w)) (sym q) refl
    one b more w (other x y z) = rw (x, y, z, y, x) refl

text-narrow : (bytes : List ℕ) → Narrow (codes "\"" then flat_map byte_text bytes then codes "\"")
text-narrow bytes rest d = ap wide (quoted-is bytes rest) ∙ inside-run bytes (34 ∷ rest)

-- a prefix that ends its item
abbrev Opens : List ℕ → Type 0
Opens front = (w : List ℕ) → wide (front ++ w) ≡ wide w

two-narrow : (front a b : List ℕ) → Opens front → Narrow a → Narrow b → Narrow (front then a then codes " " then b then codes ")")
two-narrow front a b f na nb rest d =
    ap wide (built-is front a b rest) ∙ f (a ++ (32 ∷ (b ++ (41 ∷ rest)))) ∙ na (32 ∷ (b ++ (41 ∷ rest))) refl ∙ nb (41 ∷ rest) refl

one-narrow : (front a : List ℕ) → Opens front → Narrow a → Narrow (front then a then codes ")")
one-narrow front a f na rest d = ap wide (closed-is front a rest) ∙ f (a ++ (41 ∷ rest)) ∙ na (41 ∷ rest) refl

three-narrow : (front a b c : List ℕ) → Opens front → Narrow a → Narrow b → Narrow c → Narrow (front then a then codes " " then b then codes " " then c then codes ")")
three-narrow front a b c f na nb nc rest d =
    ap wide (three-is front a b c rest) ∙ f (a ++ (32 ∷ (b ++ (32 ∷ (c ++ (41 ∷ rest)))))) ∙ na (32 ∷ (b ++ (32 ∷ (c ++ (41 ∷ rest))))) refl ∙ nb (32 ∷ (c ++ (41 ∷ rest))) refl ∙ nc (41 ∷ rest) refl

-- the fields of a record, before the parenthesis that closes it
abbrev Closes : List ℕ → Type 0
Closes text = (rest : List ℕ) → wide (text ++ (41 ∷ rest)) ≡ wide rest

-- a form of fields, which begins with this word
row-narrow : (word a : List ℕ) → passes in_item word ≡ true → is_wide word ≡ false → Closes a → ((rest : List ℕ) → Delimits (a ++ (41 ∷ rest))) → Narrow ((40 ∷ word) then a then codes ")")
row-narrow word a p n na da rest d =
    ap wide (closed-is (40 ∷ word) a rest) ∙ item-narrow word p n (a ++ (41 ∷ rest)) (da rest) ∙ na rest

field-narrow : (l a b : List ℕ) → Narrow l → Narrow a → Closes b → Closes (codes " (" then l then codes " " then a then codes ")" then b)
field-narrow l a b nl na nb rest =
    ap wide (field-is (codes " (") l a b (41 ∷ rest)) ∙ nl (32 ∷ (a ++ (41 ∷ (b ++ (41 ∷ rest))))) refl ∙ na (41 ∷ (b ++ (41 ∷ rest))) refl ∙ nb rest

-- two parts and branches, before the parenthesis that closes them
case-narrow : (front a b c : List ℕ) → Opens front → Narrow a → Narrow b → Closes c → ((rest : List ℕ) → Delimits (c ++ (41 ∷ rest))) → Narrow (front then a then codes " " then b then c then codes ")")
case-narrow front a b c f na nb nc dc rest d =
    ap wide (case-is front a b c rest) ∙ f (a ++ (32 ∷ (b ++ (c ++ (41 ∷ rest))))) ∙ na (32 ∷ (b ++ (c ++ (41 ∷ rest)))) refl ∙ nb (c ++ (41 ∷ rest)) (dc rest) ∙ nc rest

kind-narrow : (k : Kind) → Narrow (kind_text k)
kind-narrow Star = item-narrow (codes "*") refl refl
kind-narrow (ArrowKind a b) = two-narrow (codes "(> ") (kind_text a) (kind_text b) (λ w. refl) (kind-narrow a) (kind-narrow b)

row-delimits : (n : ℕ) (r : Row) (rest : List ℕ) → Delimits (row_text n r ++ (41 ∷ rest))
unfolding ◌then◌
row-delimits n types.End rest = refl
row-delimits n (types.More l t r) rest = refl

term-row-delimits : (n m : ℕ) (r : TermRow) (rest : List ℕ) → Delimits (term_row_text n m r ++ (41 ∷ rest))
unfolding ◌then◌
term-row-delimits n m End rest = refl
term-row-delimits n m (More l t r) rest = refl

ty-var : (n i : ℕ) → n - (i + 1) < 2 ^ 64 → Narrow (ty_text n (types.Var i))
unfolding ◌then◌
ty-var n i lt = level-narrow 97 n i refl refl refl lt

term-var : (n m i : ℕ) → m - (i + 1) < 2 ^ 64 → Narrow (term_text n m (Var i))
unfolding ◌then◌
term-var n m i lt = level-narrow 120 m i refl refl refl lt

behind-line : (v : Version) (w : List ℕ) → (lines_cut (version_line v ++ w)).1 ≡ w
behind-line First w = refl
behind-line Second w = refl

module _ (v : Version) where
  mutual
    ty-narrow : (t : Ty) (n : ℕ) → TySpelled v n t → Narrow (ty_text n t)
    ty-narrow (types.Var i) n ok = ty-var n i ok.1
    ty-narrow types.Int n ok = item-narrow (codes "int") refl refl
    ty-narrow types.Bool n ok = item-narrow (codes "bool") refl refl
    ty-narrow types.Text n ok = item-narrow (codes "text") refl refl
    ty-narrow (types.Arrow a b) n ok = two-narrow (codes "(-> ") (ty_text n a) (ty_text n b) (λ w. refl) (ty-narrow a n ok.0) (ty-narrow b n ok.1)
    ty-narrow (types.Fields r) n ok = row-narrow (codes "rec") (row_text n r) refl refl (fields-narrow r n None ok) (row-delimits n r)
    ty-narrow (types.Sum r) n ok = row-narrow (codes "sum") (row_text n r) refl refl (fields-narrow r n None ok.1) (row-delimits n r)
    ty-narrow (types.Mu b) n ok = one-narrow (codes "(mu ") (ty_text (n + 1) b) (λ w. refl) (ty-narrow b (n + 1) ok.1)
    ty-narrow (types.All k b) n ok = two-narrow (codes "(all ") (kind_text k) (ty_text (n + 1) b) (λ w. refl) (kind-narrow k) (ty-narrow b (n + 1) ok)
    ty-narrow (types.Ex k b) n ok = two-narrow (codes "(some ") (kind_text k) (ty_text (n + 1) b) (λ w. refl) (kind-narrow k) (ty-narrow b (n + 1) ok)
    ty-narrow (types.Lam k b) n ok = two-narrow (codes "(lam ") (kind_text k) (ty_text (n + 1) b) (λ w. refl) (kind-narrow k) (ty-narrow b (n + 1) ok)
    ty-narrow (types.Apply a b) n ok = two-narrow (codes "(@ ") (ty_text n a) (ty_text n b) (λ w. refl) (ty-narrow a n ok.0) (ty-narrow b n ok.1)

    fields-narrow : (r : Row) (n : ℕ) (last : Option Label) → RowSpelled v n last r → Closes (row_text n r)
    fields-narrow types.End n last ok = λ rest. refl
    fields-narrow (types.More l t r) n last ok = field-narrow (label_text l) (ty_text n t) (row_text n r) (label-narrow l ok.1) (ty-narrow t n ok.2) (fields-narrow r n (Some l) ok.3)

  mutual
    term-narrow : (x : Term) (n m : ℕ) → TermSpelled v n m x → Narrow (term_text n m x)
    term-narrow (Var i) n m ok = term-var n m i ok.1
    term-narrow (Int z) n m ok = signed-narrow z ok
    term-narrow (Bool true) n m ok = item-narrow (codes "true") refl refl
    term-narrow (Bool false) n m ok = item-narrow (codes "false") refl refl
    term-narrow (Text bytes) n m ok = text-narrow bytes
    term-narrow (Fields r) n m ok = row-narrow (codes "rec") (term_row_text n m r) refl refl (term-row-narrow r n m None ok) (term-row-delimits n m r)
    term-narrow (Lam t e) n m ok = two-narrow (codes "(fn ") (ty_text n t) (term_text n (m + 1) e) (λ w. refl) (ty-narrow t n ok.0) (term-narrow e n (m + 1) ok.1)
    term-narrow (Call f a) n m ok = two-narrow (codes "(call ") (term_text n m f) (term_text n m a) (λ w. refl) (term-narrow f n m ok.0) (term-narrow a n m ok.1)
    term-narrow (TyLam k e) n m ok = two-narrow (codes "(tfn ") (kind_text k) (term_text (n + 1) m e) (λ w. refl) (kind-narrow k) (term-narrow e (n + 1) m ok)
    term-narrow (Inst f t) n m ok = two-narrow (codes "(inst ") (term_text n m f) (ty_text n t) (λ w. refl) (term-narrow f n m ok.0) (ty-narrow t n ok.1)
    term-narrow (Get e l) n m ok = two-narrow (codes "(get ") (term_text n m e) (label_text l) (λ w. refl) (term-narrow e n m ok.0) (label-narrow l ok.1)
    term-narrow (Pack t e u) n m ok = three-narrow (codes "(pack ") (ty_text n t) (term_text n m e) (ty_text n u) (λ w. refl) (ty-narrow t n ok.0) (term-narrow e n m ok.1) (ty-narrow u n ok.2)
    term-narrow (Unpack e b) n m ok = two-narrow (codes "(open ") (term_text n m e) (term_text (n + 1) (m + 1) b) (λ w. refl) (term-narrow e n m ok.0) (term-narrow b (n + 1) (m + 1) ok.1)
    term-narrow (If a b d) n m ok = three-narrow (codes "(if ") (term_text n m a) (term_text n m b) (term_text n m d) (λ w. refl) (term-narrow a n m ok.0) (term-narrow b n m ok.1) (term-narrow d n m ok.2)
    term-narrow (Fix t u e) n m ok = three-narrow (codes "(fix ") (ty_text n t) (ty_text n u) (term_text n (m + 2) e) (λ w. refl) (ty-narrow t n ok.0) (ty-narrow u n ok.1) (term-narrow e n (m + 2) ok.2)
    term-narrow (Inj l e t) n m ok = three-narrow (codes "(inj ") (label_text l) (term_text n m e) (ty_text n t) (λ w. refl) (label-narrow l ok.1) (term-narrow e n m ok.2) (ty-narrow t n ok.3)
    term-narrow (Case e t r) n m ok =
        case-narrow (codes "(case ") (term_text n m e) (ty_text n t) (term_row_text n (m + 1) r) (λ w. refl) (term-narrow e n m ok.1) (ty-narrow t n ok.2) (term-row-narrow r n (m + 1) None ok.3) (term-row-delimits n (m + 1) r)
    term-narrow (Roll e t) n m ok = two-narrow (codes "(roll ") (term_text n m e) (ty_text n t) (λ w. refl) (term-narrow e n m ok.1) (ty-narrow t n ok.2)
    term-narrow (Unroll e) n m ok = one-narrow (codes "(unroll ") (term_text n m e) (λ w. refl) (term-narrow e n m ok.1)
    term-narrow (Arith Add a b) n m ok = two-narrow (codes "(+ ") (term_text n m a) (term_text n m b) (λ w. refl) (term-narrow a n m ok.0) (term-narrow b n m ok.1)
    term-narrow (Arith Sub a b) n m ok = two-narrow (codes "(- ") (term_text n m a) (term_text n m b) (λ w. refl) (term-narrow a n m ok.0) (term-narrow b n m ok.1)
    term-narrow (Arith Mul a b) n m ok = two-narrow (codes "(* ") (term_text n m a) (term_text n m b) (λ w. refl) (term-narrow a n m ok.0) (term-narrow b n m ok.1)
    term-narrow (Arith Div a b) n m ok = two-narrow (codes "(/ ") (term_text n m a) (term_text n m b) (λ w. refl) (term-narrow a n m ok.0) (term-narrow b n m ok.1)
    term-narrow (Arith Rem a b) n m ok = two-narrow (codes "(% ") (term_text n m a) (term_text n m b) (λ w. refl) (term-narrow a n m ok.0) (term-narrow b n m ok.1)
    term-narrow (Arith Less a b) n m ok = two-narrow (codes "(< ") (term_text n m a) (term_text n m b) (λ w. refl) (term-narrow a n m ok.0) (term-narrow b n m ok.1)
    term-narrow (Arith Equal a b) n m ok = two-narrow (codes "(== ") (term_text n m a) (term_text n m b) (λ w. refl) (term-narrow a n m ok.0) (term-narrow b n m ok.1)

    term-row-narrow : (r : TermRow) (n m : ℕ) (last : Option Label) → TermRowSpelled v n m last r → Closes (term_row_text n m r)
    term-row-narrow End n m last ok = λ rest. refl
    term-row-narrow (More l t r) n m last ok = field-narrow (label_text l) (term_text n m t) (term_row_text n m r) (label-narrow l ok.1) (term-narrow t n m ok.2) (term-row-narrow r n m (Some l) ok.3)

  -- in an Omega text each number is one of signed 64 bits
  pub text-not-wide : (t : Ty) (e : Term) → TySpelled v 0 t → TermSpelled v 0 0 e → has_wide (version_text v t e) ≡ false
  unfolding has_wide
  text-not-wide t e p q =
      subst (λ (w : List ℕ). wide (lines_cut w).1 ≡ false) (sym (text-is v t e))
      (ap wide (behind-line v (ty_text 0 t ++ (10 ∷ (term_text 0 0 e ++ (10 ∷ []))))) ∙ ty-narrow t 0 p (10 ∷ (term_text 0 0 e ++ (10 ∷ []))) refl ∙ term-narrow e 0 0 q (10 ∷ []) refl)
