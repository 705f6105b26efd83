-- A text with no more than 4,000 open parentheses outside its text literals spells a term that is no deeper.
-- Main results: term-shows.
use Rattle.std.proofs.Common.{◌≡◌, ℕ, suc, ◌+◌, ◌-◌, ◌^◌, ◌<◌, ◌≤◌, max, true, false, List, [], ◌∷◌, ◌++◌, refl, subst, arith}
use Rattle.std.specs.Prelude.{codes, decimal, flat_map, ◌==◌, nat_lt, Option, Some, None, ℤ, pos, negsuc}
use Rattle.std.specs.Fmt.{signed_decimal}
use Rattle.std.specs.Char.{is_ascii_digit}
use Rattle.std.proofs.lemmas.Fmt.{digits_decimal}
use Rattle.omega_kinds.specs.Text.{◌then◌}
use Rattle.omega_terms.specs.KindText.{kind_text, label_text}
use Rattle.omega_terms.specs.TypeText.{ty_text}
use Rattle.omega_terms.specs.TermText.{byte_text, term_text, term_row_text}
use Rattle.omega_spelling.specs.Spelled.{kind_deep, deep}
use Rattle.omega_terms.specs.declared.version.Version.{Version}
use Rattle.omega_terms.specs.declared.op.Op.TheVariants.{Add, Sub, Mul, Div, Rem, Less, Equal}
use Rattle.omega_terms.specs.Term.{Term, TermRow, Var, Int, Bool, Text, Lam, Call, TyLam, Inst, Fields, Get, Pack, Unpack, If, Arith, Fix, Inj, Case, Roll, Unroll, End, More}
use Rattle.omega_spelling.specs.Reading.{passes}
use Rattle.omega_spelling.specs.TermReading.{TermSpelled, TermRowSpelled, term_deep, term_deep_row, SignedFits}
use Rattle.omega_spelling.specs.Refusals.{Outside, Inside, Escaped, deep_from}
use Rattle.omega_kinds.specs.declared.label.Label.{Label}
use Rattle.omega_spelling.proofs.Numbers.{own}
use Rattle.omega_spelling.proofs.Quoted.{Sorted, quote, slash, line, other, sorted}
use Rattle.omega_spelling.proofs.Types.{built-is, closed-is, field-is}
use Rattle.omega_spelling.proofs.Terms.{three-is, case-is, quoted-is}
use Rattle.omega_spelling.proofs.Depth.{quiet, quiet-all, quiet-run, quiet-shows, open-step, close-step, or-no, Shows, Shallow, two-shows, closed-shows, field-shows, kind-shows, label-quiet, ty-shows}

-- a byte in a text literal, which counts nothing
inside-step : (b o c : ℕ) (w : List ℕ) → (b == 92) ≡ false → (b == 34) ≡ false → deep_from Inside o c (b ∷ w) ≡ false → deep_from Inside o c w ≡ false
inside-step b o c w x y e =
    let f = rw (x, y) at e in
    let t = or-no (nat_lt (c + 0 + 4000) (o + 0)) (deep_from Inside (o + 0) (c + 0) w) f in
    let k : c + 0 ≡ c = omega arith in
    let j : o + 0 ≡ o = omega arith in
    rw (k, j) at t.1

slash-step : (b o c : ℕ) (w : List ℕ) → deep_from Inside o c (92 ∷ b ∷ w) ≡ false → deep_from Inside o c w ≡ false
slash-step b o c w e =
    let t = or-no (nat_lt (c + 0 + 4000) (o + 0)) (deep_from Escaped (o + 0) (c + 0) (b ∷ w)) e in
    let u = or-no (nat_lt (c + 0 + 0 + 4000) (o + 0 + 0)) (deep_from Inside (o + 0 + 0) (c + 0 + 0) w) t.1 in
    let k : c + 0 + 0 ≡ c = omega arith in
    let j : o + 0 + 0 ≡ o = omega arith in
    rw (k, j) at u.1

quote-step : (o c : ℕ) (w : List ℕ) → deep_from Inside o c (34 ∷ w) ≡ false → deep_from Outside o c w ≡ false
quote-step o c w e =
    let t = or-no (nat_lt (c + 0 + 4000) (o + 0)) (deep_from Outside (o + 0) (c + 0) w) e in
    let k : c + 0 ≡ c = omega arith in
    let j : o + 0 ≡ o = omega arith in
    rw (k, j) at t.1

begin-step : (o c : ℕ) (w : List ℕ) → deep_from Outside o c (34 ∷ w) ≡ false → deep_from Inside o c w ≡ false
begin-step o c w e =
    let t = or-no (nat_lt (c + 0 + 4000) (o + 0)) (deep_from Inside (o + 0) (c + 0) w) e in
    let k : c + 0 ≡ c = omega arith in
    let j : o + 0 ≡ o = omega arith in
    rw (k, j) at t.1

inside-run : (xs : List ℕ) (o c : ℕ) (w : List ℕ) → deep_from Inside o c (flat_map byte_text xs ++ w) ≡ false → deep_from Inside o c w ≡ false
inside-run [] o c w e = e
inside-run (b ∷ xs) o c w e = inside-run xs o c w (one b (flat_map byte_text xs) w o c (sorted b) e)
  where
    one : (b : ℕ) (more w : List ℕ) (o c : ℕ) → Sorted b → deep_from Inside o c ((byte_text b ++ more) ++ w) ≡ false → deep_from Inside o c (more ++ w) ≡ false
    one b more w o c (quote q) e = slash-step 34 o c (more ++ w) (subst (λ (z : ℕ). deep_from Inside o c ((byte_text z ++ more) ++ w) ≡ false) q e)
    one b more w o c (slash q) e = slash-step 92 o c (more ++ w) (subst (λ (z : ℕ). deep_from Inside o c ((byte_text z ++ more) ++ w) ≡ false) q e)
    one b more w o c (line q) e = slash-step 110 o c (more ++ w) (subst (λ (z : ℕ). deep_from Inside o c ((byte_text z ++ more) ++ w) ≡ false) q e)
    one b more w o c (other x y z) e = inside-step b o c (more ++ w) y x (rw (x, y, z) at e)

text-shows : (bytes : List ℕ) → Shows (codes "\"" then flat_map byte_text bytes then codes "\"") 0
text-shows bytes o c rest e =
    let s1 = begin-step o c (flat_map byte_text bytes ++ (34 ∷ rest)) (subst (λ (w : List ℕ). deep_from Outside o c w ≡ false) (quoted-is bytes rest) e) in
    let s2 = quote-step o c rest (inside-run bytes o c (34 ∷ rest) s1) in
    let k : o + 0 ≡ o = omega arith in
    let j : c + 0 ≡ c = omega arith in
    record { fits = λ some. absurd (omega arith); more = 0; later = rw (k, j) s2 }

signed-shows : (z : ℤ) → SignedFits z → Shows (signed_decimal z) 0
signed-shows (pos n) lt = quiet-shows (decimal n) (quiet-all is_ascii_digit refl refl refl (decimal n) (digits_decimal own n (omega arith)))
signed-shows (negsuc n) lt = quiet-shows (45 ∷ decimal (suc n)) (rw (quiet-all is_ascii_digit refl refl refl (decimal (suc n)) (digits_decimal own (suc n) (omega arith))) refl)

var-shows : (m i : ℕ) → m - (i + 1) < 2 ^ 64 → Shows (codes "x" then decimal (m - (i + 1))) 0
unfolding ◌then◌
var-shows m i lt = quiet-shows (120 ∷ decimal (m - (i + 1))) (rw (quiet-all is_ascii_digit refl refl refl (decimal (m - (i + 1))) (digits_decimal own (m - (i + 1)) lt)) refl)

deepest : (o c da db dd m k : ℕ) → o + 1 ≤ c + 4000 → (0 < da → o + 1 + da ≤ c + 4000) → (0 < db → o + 1 + m + db ≤ c + m + 4000) → (0 < dd → o + 1 + m + k + dd ≤ c + m + k + 4000) → o + (max da (max db dd) + 1) ≤ c + 4000
deepest o c da db dd m k x y z w = grind arith

three-shows : (front a b d : List ℕ) (da db dd : ℕ) → passes quiet front ≡ true → Shows a da → Shows b db → Shows d dd → (o c : ℕ) (rest : List ℕ)
    → deep_from Outside o c (40 ∷ (front ++ (a ++ (32 ∷ (b ++ (32 ∷ (d ++ (41 ∷ rest)))))))) ≡ false → Shallow o c (max da (max db dd) + 1) rest
three-shows front a b d da db dd q sa sb sd o c rest e =
    let s1 = open-step o c (front ++ (a ++ (32 ∷ (b ++ (32 ∷ (d ++ (41 ∷ rest))))))) e in
    let s2 = quiet-run front (o + 1) c (a ++ (32 ∷ (b ++ (32 ∷ (d ++ (41 ∷ rest)))))) q s1.1 in
    let s3 = sa (o + 1) c (32 ∷ (b ++ (32 ∷ (d ++ (41 ∷ rest))))) s2 in
    let s4 = quiet-run (32 ∷ []) (o + 1 + s3.more) (c + s3.more) (b ++ (32 ∷ (d ++ (41 ∷ rest)))) refl s3.later in
    let s5 = sb (o + 1 + s3.more) (c + s3.more) (32 ∷ (d ++ (41 ∷ rest))) s4 in
    let s6 = quiet-run (32 ∷ []) (o + 1 + s3.more + s5.more) (c + s3.more + s5.more) (d ++ (41 ∷ rest)) refl s5.later in
    let s7 = sd (o + 1 + s3.more + s5.more) (c + s3.more + s5.more) (41 ∷ rest) s6 in
    let s8 = close-step (o + 1 + s3.more + s5.more + s7.more) (c + s3.more + s5.more + s7.more) rest s7.later in
    let j : o + (s3.more + s5.more + s7.more + 1) ≡ o + 1 + s3.more + s5.more + s7.more = omega arith in
    let k : c + (s3.more + s5.more + s7.more + 1) ≡ c + s3.more + s5.more + s7.more + 1 = omega arith in
    let bound : o + (max da (max db dd) + 1) ≤ c + 4000 = deepest o c da db dd s3.more s5.more s1.0 s3.fits s5.fits s7.fits in
    record { fits = λ some. bound; more = s3.more + s5.more + s7.more + 1; later = rw (j, k) s8 }

-- two parts and branches
case-shows : (front a b d : List ℕ) (da db dd : ℕ) → passes quiet front ≡ true → Shows a da → Shows b db → Shows d dd → (o c : ℕ) (rest : List ℕ)
    → deep_from Outside o c (40 ∷ (front ++ (a ++ (32 ∷ (b ++ (d ++ (41 ∷ rest))))))) ≡ false → Shallow o c (max da (max db dd) + 1) rest
case-shows front a b d da db dd q sa sb sd o c rest e =
    let s1 = open-step o c (front ++ (a ++ (32 ∷ (b ++ (d ++ (41 ∷ rest)))))) e in
    let s2 = quiet-run front (o + 1) c (a ++ (32 ∷ (b ++ (d ++ (41 ∷ rest))))) q s1.1 in
    let s3 = sa (o + 1) c (32 ∷ (b ++ (d ++ (41 ∷ rest)))) s2 in
    let s4 = quiet-run (32 ∷ []) (o + 1 + s3.more) (c + s3.more) (b ++ (d ++ (41 ∷ rest))) refl s3.later in
    let s5 = sb (o + 1 + s3.more) (c + s3.more) (d ++ (41 ∷ rest)) s4 in
    let s7 = sd (o + 1 + s3.more + s5.more) (c + s3.more + s5.more) (41 ∷ rest) s5.later in
    let s8 = close-step (o + 1 + s3.more + s5.more + s7.more) (c + s3.more + s5.more + s7.more) rest s7.later in
    let j : o + (s3.more + s5.more + s7.more + 1) ≡ o + 1 + s3.more + s5.more + s7.more = omega arith in
    let k : c + (s3.more + s5.more + s7.more + 1) ≡ c + s3.more + s5.more + s7.more + 1 = omega arith in
    let bound : o + (max da (max db dd) + 1) ≤ c + 4000 = deepest o c da db dd s3.more s5.more s1.0 s3.fits s5.fits s7.fits in
    record { fits = λ some. bound; more = s3.more + s5.more + s7.more + 1; later = rw (j, k) s8 }

zero-max : (o c d : ℕ) (rest : List ℕ) → Shallow o c (max d 0 + 1) rest → Shallow o c (d + 1) rest
zero-max o c d rest s = let k : max d 0 ≡ d = omega arith in rw k at s

max-zero : (o c a b : ℕ) (rest : List ℕ) → Shallow o c (max 0 (max a b) + 1) rest → Shallow o c (max a b + 1) rest
max-zero o c a b rest s = let k : max 0 (max a b) ≡ max a b = omega arith in rw k at s

module _ (v : Version) where
  mutual
    -- the text of a spelled term shows its depth
    pub term-shows : (x : Term) (n m : ℕ) → TermSpelled v n m x → Shows (term_text n m x) (term_deep x)
    term-shows (Var i) n m ok = var-shows m i ok.1
    term-shows (Int z) n m ok = signed-shows z ok
    term-shows (Bool true) n m ok = quiet-shows (codes "true") refl
    term-shows (Bool false) n m ok = quiet-shows (codes "false") refl
    term-shows (Text bytes) n m ok = text-shows bytes
    term-shows (Fields r) n m ok = λ o c rest e.
        closed-shows (codes "rec") (term_row_text n m r) (term_deep_row r) refl (term-row-shows r n m None ok) o c rest
        (subst (λ (w : List ℕ). deep_from Outside o c w ≡ false) (closed-is (codes "(rec") (term_row_text n m r) rest) e)
    term-shows (Lam t e) n m ok = λ o c rest h.
        two-shows (codes "fn ") (ty_text n t) (term_text n (m + 1) e) (deep t) (term_deep e) refl (ty-shows v t n ok.0) (term-shows e n (m + 1) ok.1) o c rest
        (subst (λ (w : List ℕ). deep_from Outside o c w ≡ false) (built-is (codes "(fn ") (ty_text n t) (term_text n (m + 1) e) rest) h)
    term-shows (Call f a) n m ok = λ o c rest h.
        two-shows (codes "call ") (term_text n m f) (term_text n m a) (term_deep f) (term_deep a) refl (term-shows f n m ok.0) (term-shows a n m ok.1) o c rest
        (subst (λ (w : List ℕ). deep_from Outside o c w ≡ false) (built-is (codes "(call ") (term_text n m f) (term_text n m a) rest) h)
    term-shows (TyLam k e) n m ok = λ o c rest h.
        two-shows (codes "tfn ") (kind_text k) (term_text (n + 1) m e) (kind_deep k) (term_deep e) refl (kind-shows k) (term-shows e (n + 1) m ok) o c rest
        (subst (λ (w : List ℕ). deep_from Outside o c w ≡ false) (built-is (codes "(tfn ") (kind_text k) (term_text (n + 1) m e) rest) h)
    term-shows (Inst f t) n m ok = λ o c rest h.
        two-shows (codes "inst ") (term_text n m f) (ty_text n t) (term_deep f) (deep t) refl (term-shows f n m ok.0) (ty-shows v t n ok.1) o c rest
        (subst (λ (w : List ℕ). deep_from Outside o c w ≡ false) (built-is (codes "(inst ") (term_text n m f) (ty_text n t) rest) h)
    term-shows (Get e l) n m ok = λ o c rest h.
        zero-max o c (term_deep e) rest (two-shows (codes "get ") (term_text n m e) (label_text l) (term_deep e) 0 refl (term-shows e n m ok.0) (quiet-shows (label_text l) (label-quiet l ok.1)) o c rest
        (subst (λ (w : List ℕ). deep_from Outside o c w ≡ false) (built-is (codes "(get ") (term_text n m e) (label_text l) rest) h))
    term-shows (Pack t e u) n m ok = λ o c rest h.
        three-shows (codes "pack ") (ty_text n t) (term_text n m e) (ty_text n u) (deep t) (term_deep e) (deep u) refl (ty-shows v t n ok.0) (term-shows e n m ok.1) (ty-shows v u n ok.2) o c rest
        (subst (λ (w : List ℕ). deep_from Outside o c w ≡ false) (three-is (codes "(pack ") (ty_text n t) (term_text n m e) (ty_text n u) rest) h)
    term-shows (Unpack e b) n m ok = λ o c rest h.
        two-shows (codes "open ") (term_text n m e) (term_text (n + 1) (m + 1) b) (term_deep e) (term_deep b) refl (term-shows e n m ok.0) (term-shows b (n + 1) (m + 1) ok.1) o c rest
        (subst (λ (w : List ℕ). deep_from Outside o c w ≡ false) (built-is (codes "(open ") (term_text n m e) (term_text (n + 1) (m + 1) b) rest) h)
    term-shows (If a b d) n m ok = λ o c rest h.
        three-shows (codes "if ") (term_text n m a) (term_text n m b) (term_text n m d) (term_deep a) (term_deep b) (term_deep d) refl (term-shows a n m ok.0) (term-shows b n m ok.1) (term-shows d n m ok.2) o c rest
        (subst (λ (w : List ℕ). deep_from Outside o c w ≡ false) (three-is (codes "(if ") (term_text n m a) (term_text n m b) (term_text n m d) rest) h)
    term-shows (Fix t u e) n m ok = λ o c rest h.
        three-shows (codes "fix ") (ty_text n t) (ty_text n u) (term_text n (m + 2) e) (deep t) (deep u) (term_deep e) refl (ty-shows v t n ok.0) (ty-shows v u n ok.1) (term-shows e n (m + 2) ok.2) o c rest
        (subst (λ (w : List ℕ). deep_from Outside o c w ≡ false) (three-is (codes "(fix ") (ty_text n t) (ty_text n u) (term_text n (m + 2) e) rest) h)
    term-shows (Inj l e t) n m ok = λ o c rest h.
        max-zero o c (term_deep e) (deep t) rest (three-shows (codes "inj ") (label_text l) (term_text n m e) (ty_text n t) 0 (term_deep e) (deep t) refl (quiet-shows (label_text l) (label-quiet l ok.1)) (term-shows e n m ok.2) (ty-shows v t n ok.3) o c rest
        (subst (λ (w : List ℕ). deep_from Outside o c w ≡ false) (three-is (codes "(inj ") (label_text l) (term_text n m e) (ty_text n t) rest) h))
    term-shows (Case e t r) n m ok = λ o c rest h.
        case-shows (codes "case ") (term_text n m e) (ty_text n t) (term_row_text n (m + 1) r) (term_deep e) (deep t) (term_deep_row r) refl (term-shows e n m ok.1) (ty-shows v t n ok.2) (term-row-shows r n (m + 1) None ok.3) o c rest
        (subst (λ (w : List ℕ). deep_from Outside o c w ≡ false) (case-is (codes "(case ") (term_text n m e) (ty_text n t) (term_row_text n (m + 1) r) rest) h)
    term-shows (Roll e t) n m ok = λ o c rest h.
        two-shows (codes "roll ") (term_text n m e) (ty_text n t) (term_deep e) (deep t) refl (term-shows e n m ok.1) (ty-shows v t n ok.2) o c rest
        (subst (λ (w : List ℕ). deep_from Outside o c w ≡ false) (built-is (codes "(roll ") (term_text n m e) (ty_text n t) rest) h)
    term-shows (Unroll e) n m ok = λ o c rest h.
        closed-shows (codes "unroll ") (term_text n m e) (term_deep e) refl (term-shows e n m ok.1) o c rest
        (subst (λ (w : List ℕ). deep_from Outside o c w ≡ false) (closed-is (codes "(unroll ") (term_text n m e) rest) h)
    term-shows (Arith Add a b) n m ok = λ o c rest h.
        two-shows (codes "+ ") (term_text n m a) (term_text n m b) (term_deep a) (term_deep b) refl (term-shows a n m ok.0) (term-shows b n m ok.1) o c rest
        (subst (λ (w : List ℕ). deep_from Outside o c w ≡ false) (built-is (codes "(+ ") (term_text n m a) (term_text n m b) rest) h)
    term-shows (Arith Sub a b) n m ok = λ o c rest h.
        two-shows (codes "- ") (term_text n m a) (term_text n m b) (term_deep a) (term_deep b) refl (term-shows a n m ok.0) (term-shows b n m ok.1) o c rest
        (subst (λ (w : List ℕ). deep_from Outside o c w ≡ false) (built-is (codes "(- ") (term_text n m a) (term_text n m b) rest) h)
    term-shows (Arith Mul a b) n m ok = λ o c rest h.
        two-shows (codes "* ") (term_text n m a) (term_text n m b) (term_deep a) (term_deep b) refl (term-shows a n m ok.0) (term-shows b n m ok.1) o c rest
        (subst (λ (w : List ℕ). deep_from Outside o c w ≡ false) (built-is (codes "(* ") (term_text n m a) (term_text n m b) rest) h)
    term-shows (Arith Div a b) n m ok = λ o c rest h.
        two-shows (codes "/ ") (term_text n m a) (term_text n m b) (term_deep a) (term_deep b) refl (term-shows a n m ok.0) (term-shows b n m ok.1) o c rest
        (subst (λ (w : List ℕ). deep_from Outside o c w ≡ false) (built-is (codes "(/ ") (term_text n m a) (term_text n m b) rest) h)
    term-shows (Arith Rem a b) n m ok = λ o c rest h.
        two-shows (codes "% ") (term_text n m a) (term_text n m b) (term_deep a) (term_deep b) refl (term-shows a n m ok.0) (term-shows b n m ok.1) o c rest
        (subst (λ (w : List ℕ). deep_from Outside o c w ≡ false) (built-is (codes "(% ") (term_text n m a) (term_text n m b) rest) h)
    term-shows (Arith Less a b) n m ok = λ o c rest h.
        two-shows (codes "< ") (term_text n m a) (term_text n m b) (term_deep a) (term_deep b) refl (term-shows a n m ok.0) (term-shows b n m ok.1) o c rest
        (subst (λ (w : List ℕ). deep_from Outside o c w ≡ false) (built-is (codes "(< ") (term_text n m a) (term_text n m b) rest) h)
    term-shows (Arith Equal a b) n m ok = λ o c rest h.
        two-shows (codes "== ") (term_text n m a) (term_text n m b) (term_deep a) (term_deep b) refl (term-shows a n m ok.0) (term-shows b n m ok.1) o c rest
        (subst (λ (w : List ℕ). deep_from Outside o c w ≡ false) (built-is (codes "(== ") (term_text n m a) (term_text n m b) rest) h)

    term-row-shows : (r : TermRow) (n m : ℕ) (last : Option Label) → TermRowSpelled v n m last r → Shows (term_row_text n m r) (term_deep_row r)
    term-row-shows End n m last ok = quiet-shows [] refl
    term-row-shows (More l t r) n m last ok = λ o c rest e.
        field-shows (label_text l) (term_text n m t) (term_row_text n m r) (term_deep t) (term_deep_row r) (label-quiet l ok.1) (term-shows t n m ok.2) (term-row-shows r n m (Some l) ok.3) o c rest
        (subst (λ (w : List ℕ). deep_from Outside o c w ≡ false) (field-is (codes " (") (label_text l) (term_text n m t) (term_row_text n m r) rest) e)
