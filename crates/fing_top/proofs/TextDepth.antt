-- Each form with parts opens a parenthesis, so a type and a term that are legible are no higher than the parentheses of their
-- text are nested, whatever variables they have.
-- Main results: not-high.
use Rattle.std.proofs.Common.{◌≡◌, ℕ, zero, suc, ◌+◌, ◌-◌, ◌/◌, ◌%◌, ◌≤◌, ◌<◌, max, Bool, true, false, List, [], ◌∷◌, ◌++◌, refl, subst, append_assoc, arith}
use Rattle.std.specs.Prelude.{codes, decimal, ◌==◌, nat_lt, if◌then◌else◌, Option, Some, None, ℤ, pos, negsuc}
use Rattle.std.specs.Fmt.{signed_decimal, digits, digits_onto, digit_glyph}
use Rattle.std.proofs.lemmas.Bool.Decides.{nat_tests}
use Rattle.omega_kinds.specs.Text.{◌then◌}
use Rattle.omega_kinds.specs.declared.label.Label.{Label}
use Rattle.omega_types.specs.Ty.{Ty, Row}
use Rattle.omega_types.specs.Height.{height, height_row}
use Rattle.omega_terms.specs.declared.op.Op.{Op}
use Rattle.omega_terms.specs.declared.op.Op.TheVariants.{Add, Sub, Mul, Div, Rem, Less, Equal}
use Rattle.omega_terms.specs.declared.version.Version.{Version}
use Rattle.omega_terms.specs.Term.{Term, TermRow}
use Rattle.omega_terms.specs.Height.{term_height, row_height}
use Rattle.omega_terms.specs.KindText.{kind_text, label_text}
use Rattle.omega_terms.specs.TypeText.{level_text, ty_text, row_text}
use Rattle.omega_terms.specs.TermText.{op_front, term_text, term_row_text}
use Rattle.omega_terms.specs.OmegaText.{version_line, version_text}
use Rattle.omega_spelling.specs.Reading.{passes}
use Rattle.omega_spelling.specs.Refusals.{Outside, deep_from, is_too_deep}
use Rattle.omega_spelling.specs.Spelled.{kind_deep, deep, deep_row}
use Rattle.omega_spelling.specs.TermReading.{term_deep, term_deep_row}
use Rattle.omega_spelling.proofs.Types.{built-is, closed-is, field-is}
use Rattle.omega_spelling.proofs.Texts.{text-is}
use Rattle.omega_spelling.proofs.Wholes.{line-quiet}
use Rattle.omega_spelling.proofs.Depth.{quiet, quiet-run, quiet-shows, label-quiet, kind-shows, Shows, two-shows, closed-shows, field-shows}
use Rattle.omega_spelling.proofs.TermDepth as spelled
use Rattle.elab_spelling.specs.Legible.{TyLegible, RowLegible, TermLegible, TermRowLegible}

-- ---- numbers of any size

glyph-quiet : (d : ℕ) → quiet (digit_glyph false d) ≡ true
glyph-quiet d = go (nat_lt d 10)
  where
    digit : (d : ℕ) → quiet (48 + d) ≡ true
    digit d = grind (arith, nat_tests)

    letter : (d : ℕ) → quiet (87 + d) ≡ true
    letter d = grind (arith, nat_tests)

    go : (b : Bool) → quiet (if b then 48 + d else (if false then 55 + d else 87 + d)) ≡ true
    go true = digit d
    go false = letter d

onto-quiet : (k n : ℕ) (acc : List ℕ) → passes quiet acc ≡ true → passes quiet (digits_onto k 10 false n acc) ≡ true
onto-quiet zero n acc q = q
onto-quiet (suc k) n acc q = go (n / 10 == 0) (onto-quiet k (n / 10) (digit_glyph false (n % 10) ∷ acc) more)
  where
    more : passes quiet (digit_glyph false (n % 10) ∷ acc) ≡ true
    more = rw (glyph-quiet (n % 10)) q

    go : (b : Bool) → passes quiet (digits_onto k 10 false (n / 10) (digit_glyph false (n % 10) ∷ acc)) ≡ true
        → passes quiet (if b then digit_glyph false (n % 10) ∷ acc else digits_onto k 10 false (n / 10) (digit_glyph false (n % 10) ∷ acc)) ≡ true
    go true h = more
    go false h = h

decimal-quiet : (n : ℕ) → passes quiet (decimal n) ≡ true
unfolding digits
decimal-quiet n = onto-quiet 64 n [] refl

signed-quiet : (z : ℤ) → passes quiet (signed_decimal z) ≡ true
signed-quiet (pos n) = decimal-quiet n
signed-quiet (negsuc n) = rw (decimal-quiet (suc n)) refl

ty_var-shows : (n i : ℕ) → Shows (codes "a" then level_text n i) 0
unfolding ◌then◌
ty_var-shows n i = quiet-shows (97 ∷ decimal (n - (i + 1))) (rw (decimal-quiet (n - (i + 1))) refl)

term_var-shows : (m i : ℕ) → Shows (codes "x" then level_text m i) 0
unfolding ◌then◌
term_var-shows m i = quiet-shows (120 ∷ decimal (m - (i + 1))) (rw (decimal-quiet (m - (i + 1))) refl)

-- ---- forms

abbrev Fits : (o c : ℕ) → List ℕ → Type 0
Fits o c w = deep_from Outside o c w ≡ false

one-form : (front a : List ℕ) (da : ℕ) → passes quiet front ≡ true → Shows a da → Shows ((40 ∷ front) then a then codes ")") (da + 1)
one-form front a da q s = λ o c rest e. closed-shows front a da q s o c rest (subst (Fits o c) (closed-is (40 ∷ front) a rest) e)

two-form : (front a b : List ℕ) (da db : ℕ) → passes quiet front ≡ true → Shows a da → Shows b db → Shows ((40 ∷ front) then a then codes " " then b then codes ")") (max da db + 1)
two-form front a b da db q s t = λ o c rest e. two-shows front a b da db q s t o c rest (subst (Fits o c) (built-is (40 ∷ front) a b rest) e)

deepest : (o c da db m : ℕ) → 0 < max da db → (0 < da → o + da ≤ c + 4000) → (0 < db → o + m + db ≤ c + m + 4000) → o + max da db ≤ c + 4000
deepest o c da db m some x y = grind arith

-- two parts with a space between them
beside : (a b : List ℕ) (da db : ℕ) → Shows a da → Shows b db → Shows (a ++ (32 ∷ b)) (max da db)
beside a b da db s t o c rest e =
    let s1 = s o c (32 ∷ (b ++ rest)) (subst (Fits o c) (apart a b rest) e) in
    let s2 = quiet-run (32 ∷ []) (o + s1.more) (c + s1.more) (b ++ rest) refl s1.later in
    let s3 = t (o + s1.more) (c + s1.more) rest s2 in
    let j : o + (s1.more + s3.more) ≡ o + s1.more + s3.more = omega arith in
    let k : c + (s1.more + s3.more) ≡ c + s1.more + s3.more = omega arith in
    record { fits = λ some. deepest o c da db s1.more some s1.fits s3.fits; more = s1.more + s3.more; later = rw (j, k) s3.later }
  where
    apart : (a b rest : List ℕ) → (a ++ (32 ∷ b)) ++ rest ≡ a ++ (32 ∷ (b ++ rest))
    apart a b rest = simp append_assoc

three-is : (p a b d rest : List ℕ) → (p then a then codes " " then b then codes " " then d then codes ")") ++ rest ≡ p ++ (a ++ (32 ∷ ((b ++ (32 ∷ d)) ++ (41 ∷ rest))))
unfolding ◌then◌
three-is p a b d rest = simp append_assoc

three-form : (front a b d : List ℕ) (da db dd : ℕ) → passes quiet front ≡ true → Shows a da → Shows b db → Shows d dd
    → Shows ((40 ∷ front) then a then codes " " then b then codes " " then d then codes ")") (max da (max db dd) + 1)
three-form front a b d da db dd q s t u = λ o c rest e.
    two-shows front a (b ++ (32 ∷ d)) da (max db dd) q s (beside b d db dd t u) o c rest (subst (Fits o c) (three-is (40 ∷ front) a b d rest) e)

-- one part right before another
joined : (a b : List ℕ) (da db : ℕ) → Shows a da → Shows b db → Shows (a ++ b) (max da db)
joined a b da db s t o c rest e =
    let s1 = s o c (b ++ rest) (subst (Fits o c) (apart a b rest) e) in
    let s2 = t (o + s1.more) (c + s1.more) rest s1.later in
    let j : o + (s1.more + s2.more) ≡ o + s1.more + s2.more = omega arith in
    let k : c + (s1.more + s2.more) ≡ c + s1.more + s2.more = omega arith in
    record { fits = λ some. deepest o c da db s1.more some s1.fits s2.fits; more = s1.more + s2.more; later = rw (j, k) s2.later }
  where
    apart : (a b rest : List ℕ) → (a ++ b) ++ rest ≡ a ++ (b ++ rest)
    apart a b rest = simp append_assoc

branches-is : (p a b d rest : List ℕ) → (p then a then codes " " then b then d then codes ")") ++ rest ≡ p ++ (a ++ (32 ∷ ((b ++ d) ++ (41 ∷ rest))))
unfolding ◌then◌
branches-is p a b d rest = simp append_assoc

branched-form : (front a b d : List ℕ) (da db dd : ℕ) → passes quiet front ≡ true → Shows a da → Shows b db → Shows d dd
    → Shows ((40 ∷ front) then a then codes " " then b then d then codes ")") (max da (max db dd) + 1)
branched-form front a b d da db dd q s t u = λ o c rest e.
    two-shows front a (b ++ d) da (max db dd) q s (joined b d db dd t u) o c rest (subst (Fits o c) (branches-is (40 ∷ front) a b d rest) e)

field-form : (l a b : List ℕ) (da db : ℕ) → passes quiet l ≡ true → Shows a da → Shows b db → Shows (codes " (" then l then codes " " then a then codes ")" then b) (max da db)
field-form l a b da db q s t = λ o c rest e. field-shows l a b da db q s t o c rest (subst (Fits o c) (field-is (codes " (") l a b rest) e)

op-form : (op : Op) (a b : List ℕ) (da db : ℕ) → Shows a da → Shows b db → Shows (op_front op then a then codes " " then b then codes ")") (max da db + 1)
op-form Add a b da db = two-form (codes "+ ") a b da db refl
op-form Sub a b da db = two-form (codes "- ") a b da db refl
op-form Mul a b da db = two-form (codes "* ") a b da db refl
op-form Div a b da db = two-form (codes "/ ") a b da db refl
op-form Rem a b da db = two-form (codes "% ") a b da db refl
op-form Less a b da db = two-form (codes "< ") a b da db refl
op-form Equal a b da db = two-form (codes "== ") a b da db refl

-- ---- types and terms

module _ (v : Version) where
  mutual
    ty-shows : (t : Ty) (n : ℕ) → TyLegible v t → Shows (ty_text n t) (deep t)
    ty-shows (Ty.Var i) n h = ty_var-shows n i
    ty-shows Ty.Int n h = quiet-shows (codes "int") refl
    ty-shows Ty.Bool n h = quiet-shows (codes "bool") refl
    ty-shows Ty.Text n h = quiet-shows (codes "text") refl
    ty-shows (Ty.Arrow a b) n h = two-form (codes "-> ") (ty_text n a) (ty_text n b) (deep a) (deep b) refl (ty-shows a n h.0) (ty-shows b n h.1)
    ty-shows (Ty.Fields row) n h = one-form (codes "rec") (row_text n row) (deep_row row) refl (row-shows row n None h)
    ty-shows (Ty.Sum row) n h = one-form (codes "sum") (row_text n row) (deep_row row) refl (row-shows row n None h.1)
    ty-shows (Ty.All k b) n h = two-form (codes "all ") (kind_text k) (ty_text (n + 1) b) (kind_deep k) (deep b) refl (kind-shows k) (ty-shows b (n + 1) h)
    ty-shows (Ty.Ex k b) n h = two-form (codes "some ") (kind_text k) (ty_text (n + 1) b) (kind_deep k) (deep b) refl (kind-shows k) (ty-shows b (n + 1) h)
    ty-shows (Ty.Mu b) n h = one-form (codes "mu ") (ty_text (n + 1) b) (deep b) refl (ty-shows b (n + 1) h.1)
    ty-shows (Ty.Lam k b) n h = two-form (codes "lam ") (kind_text k) (ty_text (n + 1) b) (kind_deep k) (deep b) refl (kind-shows k) (ty-shows b (n + 1) h)
    ty-shows (Ty.Apply f a) n h = two-form (codes "@ ") (ty_text n f) (ty_text n a) (deep f) (deep a) refl (ty-shows f n h.0) (ty-shows a n h.1)

    row-shows : (row : Row) (n : ℕ) (last : Option Label) → RowLegible v last row → Shows (row_text n row) (deep_row row)
    row-shows Row.End n last h = quiet-shows [] refl
    row-shows (Row.More l t rest) n last h = field-form (label_text l) (ty_text n t) (row_text n rest) (deep t) (deep_row rest) (label-quiet l h.1) (ty-shows t n h.2) (row-shows rest n (Some l) h.3)

  mutual
    term-shows : (e : Term) (n m : ℕ) → TermLegible v e → Shows (term_text n m e) (term_deep e)
    term-shows (Term.Var i) n m h = term_var-shows m i
    term-shows (Term.Int z) n m h = quiet-shows (signed_decimal z) (signed-quiet z)
    term-shows (Term.Bool true) n m h = quiet-shows (codes "true") refl
    term-shows (Term.Bool false) n m h = quiet-shows (codes "false") refl
    term-shows (Term.Text bytes) n m h = spelled.term-shows v (Term.Text bytes) n m h
    term-shows (Term.Lam t e) n m h = two-form (codes "fn ") (ty_text n t) (term_text n (m + 1) e) (deep t) (term_deep e) refl (ty-shows t n h.0) (term-shows e n (m + 1) h.1)
    term-shows (Term.Call f a) n m h = two-form (codes "call ") (term_text n m f) (term_text n m a) (term_deep f) (term_deep a) refl (term-shows f n m h.0) (term-shows a n m h.1)
    term-shows (Term.TyLam k e) n m h = two-form (codes "tfn ") (kind_text k) (term_text (n + 1) m e) (kind_deep k) (term_deep e) refl (kind-shows k) (term-shows e (n + 1) m h)
    term-shows (Term.Inst e t) n m h = two-form (codes "inst ") (term_text n m e) (ty_text n t) (term_deep e) (deep t) refl (term-shows e n m h.0) (ty-shows t n h.1)
    term-shows (Term.Fields row) n m h = one-form (codes "rec") (term_row_text n m row) (term_deep_row row) refl (term_row-shows row n m None h)
    term-shows (Term.Get e l) n m h =
        let k : max (term_deep e) 0 ≡ term_deep e = omega arith in
        subst (λ (d : ℕ). Shows (term_text n m (Term.Get e l)) (d + 1)) k
        (two-form (codes "get ") (term_text n m e) (label_text l) (term_deep e) 0 refl (term-shows e n m h.0) (quiet-shows (label_text l) (label-quiet l h.1)))
    term-shows (Term.Pack t e u) n m h =
        three-form (codes "pack ") (ty_text n t) (term_text n m e) (ty_text n u) (deep t) (term_deep e) (deep u) refl (ty-shows t n h.0) (term-shows e n m h.1) (ty-shows u n h.2)
    term-shows (Term.Unpack p e) n m h =
        two-form (codes "open ") (term_text n m p) (term_text (n + 1) (m + 1) e) (term_deep p) (term_deep e) refl (term-shows p n m h.0) (term-shows e (n + 1) (m + 1) h.1)
    term-shows (Term.If a b d) n m h =
        three-form (codes "if ") (term_text n m a) (term_text n m b) (term_text n m d) (term_deep a) (term_deep b) (term_deep d) refl (term-shows a n m h.0) (term-shows b n m h.1) (term-shows d n m h.2)
    term-shows (Term.Arith op a b) n m h = op-form op (term_text n m a) (term_text n m b) (term_deep a) (term_deep b) (term-shows a n m h.0) (term-shows b n m h.1)
    term-shows (Term.Fix t u e) n m h =
        three-form (codes "fix ") (ty_text n t) (ty_text n u) (term_text n (m + 2) e) (deep t) (deep u) (term_deep e) refl (ty-shows t n h.0) (ty-shows u n h.1) (term-shows e n (m + 2) h.2)
    term-shows (Term.Inj l e t) n m h =
        let k : max 0 (max (term_deep e) (deep t)) ≡ max (term_deep e) (deep t) = omega arith in
        subst (λ (d : ℕ). Shows (term_text n m (Term.Inj l e t)) (d + 1)) k
        (three-form (codes "inj ") (label_text l) (term_text n m e) (ty_text n t) 0 (term_deep e) (deep t) refl (quiet-shows (label_text l) (label-quiet l h.1)) (term-shows e n m h.2) (ty-shows t n h.3))
    term-shows (Term.Case e t row) n m h =
        branched-form (codes "case ") (term_text n m e) (ty_text n t) (term_row_text n (m + 1) row) (term_deep e) (deep t) (term_deep_row row) refl (term-shows e n m h.1) (ty-shows t n h.2) (term_row-shows row n (m + 1) None h.3)
    term-shows (Term.Roll e t) n m h = two-form (codes "roll ") (term_text n m e) (ty_text n t) (term_deep e) (deep t) refl (term-shows e n m h.1) (ty-shows t n h.2)
    term-shows (Term.Unroll e) n m h = one-form (codes "unroll ") (term_text n m e) (term_deep e) refl (term-shows e n m h.1)

    term_row-shows : (row : TermRow) (n m : ℕ) (last : Option Label) → TermRowLegible v last row → Shows (term_row_text n m row) (term_deep_row row)
    term_row-shows TermRow.End n m last h = quiet-shows [] refl
    term_row-shows (TermRow.More l e rest) n m last h =
        field-form (label_text l) (term_text n m e) (term_row_text n m rest) (term_deep e) (term_deep_row rest) (label-quiet l h.1) (term-shows e n m h.2) (term_row-shows rest n m (Some l) h.3)

-- ---- heights

mutual
  low : (t : Ty) → height t ≤ deep t + 1
  low (Ty.Var i) = omega arith
  low Ty.Int = omega arith
  low Ty.Bool = omega arith
  low Ty.Text = omega arith
  low (Ty.Arrow a b) = omega (arith, low a, low b)
  low (Ty.Fields row) = omega (arith, low-row row)
  low (Ty.Sum row) = omega (arith, low-row row)
  low (Ty.All k b) = omega (arith, low b)
  low (Ty.Ex k b) = omega (arith, low b)
  low (Ty.Mu b) = omega (arith, low b)
  low (Ty.Lam k b) = omega (arith, low b)
  low (Ty.Apply f a) = omega (arith, low f, low a)

  low-row : (row : Row) → height_row row ≤ deep_row row + 1
  low-row Row.End = omega arith
  low-row (Row.More l t rest) = omega (arith, low t, low-row rest)

mutual
  term-low : (e : Term) → term_height e ≤ term_deep e + 1
  term-low (Term.Var i) = omega arith
  term-low (Term.Int z) = omega arith
  term-low (Term.Bool b) = omega arith
  term-low (Term.Text s) = omega arith
  term-low (Term.Lam t e) = omega (arith, low t, term-low e)
  term-low (Term.Call f a) = omega (arith, term-low f, term-low a)
  term-low (Term.TyLam k e) = omega (arith, term-low e)
  term-low (Term.Inst e t) = omega (arith, term-low e, low t)
  term-low (Term.Fields row) = omega (arith, term_row-low row)
  term-low (Term.Get e l) = omega (arith, term-low e)
  term-low (Term.Pack t e u) = omega (arith, low t, term-low e, low u)
  term-low (Term.Unpack p e) = omega (arith, term-low p, term-low e)
  term-low (Term.If a b c) = omega (arith, term-low a, term-low b, term-low c)
  term-low (Term.Arith op a b) = omega (arith, term-low a, term-low b)
  term-low (Term.Fix t u e) = omega (arith, low t, low u, term-low e)
  term-low (Term.Inj l e t) = omega (arith, term-low e, low t)
  term-low (Term.Case e t row) = omega (arith, term-low e, low t, term_row-low row)
  term-low (Term.Roll e t) = omega (arith, term-low e, low t)
  term-low (Term.Unroll e) = omega (arith, term-low e)

  term_row-low : (row : TermRow) → row_height row ≤ term_deep_row row + 1
  term_row-low TermRow.End = omega arith
  term_row-low (TermRow.More l e rest) = omega (arith, term-low e, term_row-low rest)

-- a text that is not too deep is that of a type and a term of a height of at most 4,001
pub not-high : (v : Version) (t : Ty) (e : Term) → TyLegible v t → TermLegible v e → is_too_deep (version_text v t e) ≡ false → (height t ≤ 4001) × (term_height e ≤ 4001)
unfolding is_too_deep
not-high v t e p q shallow =
    let after : List ℕ = term_text 0 0 e ++ (10 ∷ []) in
    let f : Fits 0 0 (version_line v ++ (ty_text 0 t ++ (10 ∷ after))) = subst (Fits 0 0) (text-is v t e) shallow in
    let s1 = quiet-run (version_line v) 0 0 (ty_text 0 t ++ (10 ∷ after)) (line-quiet v) f in
    let s2 = ty-shows v t 0 p 0 0 (10 ∷ after) s1 in
    let s3 = quiet-run (10 ∷ []) (0 + s2.more) (0 + s2.more) after refl s2.later in
    let s4 = term-shows v e 0 0 q (0 + s2.more) (0 + s2.more) (10 ∷ []) s3 in
    (omega (arith, low t, within (deep t) 0 s2.fits), omega (arith, term-low e, within (term_deep e) (0 + s2.more) s4.fits))
  where
    within : (d o : ℕ) → (0 < d → o + d ≤ o + 4000) → d ≤ 4000
    within zero o h = omega arith
    within (suc d) o h = omega (arith, h (omega arith))
