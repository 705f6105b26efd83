-- A text with no more than 4,000 open parentheses spells a type that is no deeper.
-- Main results: kind-shows, field-shows, two-shows.
use Rattle.std.proofs.Common.{◌≡◌, ℕ, ◌+◌, ◌-◌, ◌^◌, ◌<◌, ◌≤◌, max, Bool, true, false, List, [], ◌∷◌, ◌++◌, refl, sym, ap, ◌∙◌, subst, arith, inl, inr}
use Rattle.std.specs.Prelude.{◌⊎◌, codes, decimal, ◌&&◌, ◌||◌, ◌==◌, not, nat_lt, Option, Some, None}
use Rattle.std.specs.Char.{is_ascii_digit}
use Rattle.std.proofs.lemmas.Bool.Decides.{nat_tests}
use Rattle.omega_kinds.specs.Text.{◌then◌}
use Rattle.omega_kinds.specs.declared.label.Label.{Label}
use Rattle.omega_kinds.specs.declared.label.Label.TheVariants.{Val, Typ, Sig, App, Gen, Name}
use Rattle.omega_kinds.specs.Kind.{Kind, Star, Arrow as ArrowKind}
use Rattle.omega_types.specs.Ty.{Ty, Row, Var, Int, Bool as BoolTy, Text, Arrow, Fields, Sum, All, Ex, Mu, Lam, Apply, End, More}
use Rattle.omega_terms.specs.declared.version.Version.{Version}
use Rattle.omega_terms.specs.KindText.{kind_text, label_text}
use Rattle.omega_terms.specs.TypeText.{ty_text, row_text}
use Rattle.omega_spelling.specs.Spelled.{LabelSpelled, TySpelled, RowSpelled, kind_deep, deep, deep_row, is_hidden}
use Rattle.omega_spelling.specs.Reading.{passes, in_name, all_in_name, is_name}
use Rattle.omega_spelling.specs.Refusals.{Outside, deep_from}
use Rattle.std.proofs.lemmas.Fmt.{digits_decimal}
use Rattle.omega_spelling.proofs.Steps.{and_ok}
use Rattle.omega_spelling.proofs.Numbers.{own}
use Rattle.omega_spelling.proofs.Types.{built-is, closed-is, field-is}

-- a byte that neither opens nor closes anything
abbrev pub quiet : ℕ → Bool
quiet b = not (b == 34) && not (b == 40) && not (b == 41)

-- if neither of two holds, each does not
pub or-no : (a b : Bool) → (a || b) ≡ false → (a ≡ false) × (b ≡ false)
or-no true b e = absurd cc
or-no false b e = (refl, e)

not-true : (b : Bool) → not b ≡ true → b ≡ false
not-true true e = absurd cc
not-true false e = refl

quiet-step : (b o c : ℕ) (rest : List ℕ) → quiet b ≡ true → deep_from Outside o c (b ∷ rest) ≡ false → deep_from Outside o c rest ≡ false
quiet-step b o c rest q e =
    let t = and_ok (not (b == 34) && not (b == 40)) (not (b == 41)) q in
    let u = and_ok (not (b == 34)) (not (b == 40)) t.0 in
    go b o c rest (not-true (b == 34) u.0) (not-true (b == 40) u.1) (not-true (b == 41) t.1) e
  where
    go : (b o c : ℕ) (rest : List ℕ) → (b == 34) ≡ false → (b == 40) ≡ false → (b == 41) ≡ false → deep_from Outside o c (b ∷ rest) ≡ false → deep_from Outside o c rest ≡ false
    go b o c rest x y z e =
        let f = rw (x, y, z) at e in
        let t = or-no (nat_lt (c + 0 + 4000) (o + 0)) (deep_from Outside (o + 0) (c + 0) rest) f in
        let k : c + 0 ≡ c = omega arith in
        let j : o + 0 ≡ o = omega arith in
        rw (k, j) at t.1

-- bytes without parentheses and quotation marks do not change how deep a text is
pub quiet-run : (xs : List ℕ) (o c : ℕ) (rest : List ℕ) → passes quiet xs ≡ true → deep_from Outside o c (xs ++ rest) ≡ false → deep_from Outside o c rest ≡ false
quiet-run [] o c rest q e = e
quiet-run (x ∷ xs) o c rest q e = let t = and_ok (quiet x) (passes quiet xs) q in quiet-run xs o c rest t.1 (quiet-step x o c (xs ++ rest) t.0 e)

not-below : (a b : ℕ) → nat_lt a b ≡ false → b ≤ a
not-below a b e = grind (arith, nat_tests)

-- an open parenthesis is one of those that the depth allows
pub open-step : (o c : ℕ) (rest : List ℕ) → deep_from Outside o c (40 ∷ rest) ≡ false → (o + 1 ≤ c + 4000) × (deep_from Outside (o + 1) c rest ≡ false)
open-step o c rest e =
    let t = or-no (nat_lt (c + 0 + 4000) (o + 1)) (deep_from Outside (o + 1) (c + 0) rest) e in
    let k : c + 0 ≡ c = omega arith in
    let le = not-below (c + 0 + 4000) (o + 1) t.0 in
    (omega (arith, le), rw k at t.1)

-- a closed parenthesis is counted as closed
pub close-step : (o c : ℕ) (rest : List ℕ) → deep_from Outside o c (41 ∷ rest) ≡ false → deep_from Outside o (c + 1) rest ≡ false
close-step o c rest e =
    let t = or-no (nat_lt (c + 1 + 4000) (o + 0)) (deep_from Outside (o + 0) (c + 1) rest) e in
    let k : o + 0 ≡ o = omega arith in
    rw k at t.1

quiet-from : (p : ℕ → Bool) → p 34 ≡ false → p 40 ≡ false → p 41 ≡ false → (b : ℕ) → p b ≡ true → quiet b ≡ true
quiet-from p x y z b e = rw (other p 34 b x e, other p 40 b y e, other p 41 b z e) refl
  where
    true-false : (let t : Bool = true in t) ≡ false → ⊥
    true-false e = cc

    equal : (b c : ℕ) → (b == c) ≡ true → b ≡ c
    equal b c e = grind (arith, nat_tests)

    pick : (p : ℕ → Bool) (c b : ℕ) → p c ≡ false → p b ≡ true → (t : Bool) → (b == c) ≡ t → t ≡ false
    pick p c b x e true q = absurd (true-false (sym e ∙ ap p (equal b c q) ∙ x))
    pick p c b x e false q = refl

    other : (p : ℕ → Bool) (c b : ℕ) → p c ≡ false → p b ≡ true → (b == c) ≡ false
    other p c b x e = pick p c b x e (b == c) refl

-- bytes that pass a test which the marks and parentheses fail are without these
pub quiet-all : (p : ℕ → Bool) → p 34 ≡ false → p 40 ≡ false → p 41 ≡ false → (xs : List ℕ) → passes p xs ≡ true → passes quiet xs ≡ true
quiet-all p x y z [] e = refl
quiet-all p x y z (b ∷ bs) e = let t = and_ok (p b) (passes p bs) e in rw (quiet-from p x y z b t.0, quiet-all p x y z bs t.1) refl

-- if one of two tests holds, the first or the second does
pub or-cases : (a b : Bool) → (a || b) ≡ true → (a ≡ true) ⊎ (b ≡ true)
or-cases true b e = inl refl
or-cases false b e = inr e

name-quiet : (bytes : List ℕ) → LabelSpelled (Name bytes) → passes quiet bytes ≡ true
name-quiet bytes ok =
    elim (or-cases (is_name bytes && all_in_name bytes) (is_hidden bytes) ok) [
      | inl h ↦ quiet-all in_name refl refl refl bytes (and_ok (is_name bytes) (all_in_name bytes) h).1
      | inr h ↦ hidden-quiet bytes h
    ]
  where
    hidden-quiet : (bytes : List ℕ) → is_hidden bytes ≡ true → passes quiet bytes ≡ true
    hidden-quiet [] e = absurd cc
    hidden-quiet (p ∷ []) e = absurd cc
    hidden-quiet (p ∷ d ∷ []) e =
        let t = and_ok (p == 37) (is_ascii_digit d) e in
        rw (quiet-from (λ b. b == 37) refl refl refl p t.0, quiet-from is_ascii_digit refl refl refl d t.1) refl
    hidden-quiet (p ∷ d ∷ x ∷ bs) e = absurd cc

-- a spelled label has no parentheses and no quotation marks
pub label-quiet : (l : Label) → LabelSpelled l → passes quiet (label_text l) ≡ true
label-quiet Val ok = refl
label-quiet Typ ok = refl
label-quiet Sig ok = refl
label-quiet App ok = refl
label-quiet Gen ok = refl
label-quiet (Name bytes) ok = name-quiet bytes ok

-- what is known after a text of depth d
pub record Shallow (o c d : ℕ) (rest : List ℕ) : Type 0 where
  pub fits : 0 < d → o + d ≤ c + 4000
  pub more : ℕ
  pub later : deep_from Outside (o + more) (c + more) rest ≡ false

-- a text is no deeper than said, and what is behind it starts at the same depth
abbrev pub Shows : List ℕ → ℕ → Type 0
Shows text d = (o c : ℕ) (rest : List ℕ) → deep_from Outside o c (text ++ rest) ≡ false → Shallow o c d rest

-- a text without parentheses and quotation marks is of depth 0
pub quiet-shows : (text : List ℕ) → passes quiet text ≡ true → Shows text 0
quiet-shows text q o c rest e =
    let k : o + 0 ≡ o = omega arith in
    let j : c + 0 ≡ c = omega arith in
    record { fits = λ some. absurd (omega arith); more = 0; later = rw (k, j) (quiet-run text o c rest q e) }

-- two texts in parentheses show the greater of their depths, and one more
pub two-shows : (front a b : List ℕ) (da db : ℕ) → passes quiet front ≡ true → Shows a da → Shows b db → (o c : ℕ) (rest : List ℕ)
    → deep_from Outside o c (40 ∷ (front ++ (a ++ (32 ∷ (b ++ (41 ∷ rest)))))) ≡ false → Shallow o c (max da db + 1) rest
two-shows front a b da db q sa sb o c rest e =
    let s1 = open-step o c (front ++ (a ++ (32 ∷ (b ++ (41 ∷ rest))))) e in
    let s2 = quiet-run front (o + 1) c (a ++ (32 ∷ (b ++ (41 ∷ rest)))) q s1.1 in
    let s3 = sa (o + 1) c (32 ∷ (b ++ (41 ∷ rest))) s2 in
    let s4 = quiet-run (32 ∷ []) (o + 1 + s3.more) (c + s3.more) (b ++ (41 ∷ rest)) refl s3.later in
    let s5 = sb (o + 1 + s3.more) (c + s3.more) (41 ∷ rest) s4 in
    let s6 = close-step (o + 1 + s3.more + s5.more) (c + s3.more + s5.more) rest s5.later in
    let j : o + (s3.more + s5.more + 1) ≡ o + 1 + s3.more + s5.more = omega arith in
    let k : c + (s3.more + s5.more + 1) ≡ c + s3.more + s5.more + 1 = omega arith in
    let bound : o + (max da db + 1) ≤ c + 4000 = deepest o c da db s3.more s1.0 s3.fits s5.fits in
    record { fits = λ some. bound; more = s3.more + s5.more + 1; later = rw (j, k) s6 }
  where
    deepest : (o c da db m : ℕ) → o + 1 ≤ c + 4000 → (0 < da → o + 1 + da ≤ c + 4000) → (0 < db → o + 1 + m + db ≤ c + m + 4000) → o + (max da db + 1) ≤ c + 4000
    deepest o c da db m x y z = grind arith

-- the text of a kind shows its depth
pub kind-shows : (k : Kind) → Shows (kind_text k) (kind_deep k)
kind-shows Star = quiet-shows (codes "*") refl
kind-shows (ArrowKind a b) = λ o c rest e.
    two-shows (codes "> ") (kind_text a) (kind_text b) (kind_deep a) (kind_deep b) refl (kind-shows a) (kind-shows b) o c rest
    (subst (λ (w : List ℕ). deep_from Outside o c w ≡ false) (built-is (codes "(> ") (kind_text a) (kind_text b) rest) e)

var-shows : (n i : ℕ) → n - (i + 1) < 2 ^ 64 → Shows (codes "a" then decimal (n - (i + 1))) 0
unfolding ◌then◌
var-shows n i lt = quiet-shows (97 ∷ decimal (n - (i + 1))) (rw (quiet-all is_ascii_digit refl refl refl (decimal (n - (i + 1))) (digits_decimal own (n - (i + 1)) lt)) refl)

-- a form of one part, or of fields
pub closed-shows : (front a : List ℕ) (da : ℕ) → passes quiet front ≡ true → Shows a da → (o c : ℕ) (rest : List ℕ) → deep_from Outside o c (40 ∷ (front ++ (a ++ (41 ∷ rest)))) ≡ false → Shallow o c (da + 1) rest
closed-shows front a da q sa o c rest e =
    let s1 = open-step o c (front ++ (a ++ (41 ∷ rest))) e in
    let s2 = quiet-run front (o + 1) c (a ++ (41 ∷ rest)) q s1.1 in
    let s3 = sa (o + 1) c (41 ∷ rest) s2 in
    let s6 = close-step (o + 1 + s3.more) (c + s3.more) rest s3.later in
    let j : o + (s3.more + 1) ≡ o + 1 + s3.more = omega arith in
    let k : c + (s3.more + 1) ≡ c + s3.more + 1 = omega arith in
    record { fits = λ some. deepest o c da s1.0 s3.fits; more = s3.more + 1; later = rw (j, k) s6 }
  where
    deepest : (o c da : ℕ) → o + 1 ≤ c + 4000 → (0 < da → o + 1 + da ≤ c + 4000) → o + (da + 1) ≤ c + 4000
    deepest o c da x y = grind arith

-- the text of a field and of those after it shows the greater of their depths
pub field-shows : (l a b : List ℕ) (da db : ℕ) → passes quiet l ≡ true → Shows a da → Shows b db → (o c : ℕ) (rest : List ℕ)
    → deep_from Outside o c (codes " (" ++ (l ++ (32 ∷ (a ++ (41 ∷ (b ++ rest)))))) ≡ false → Shallow o c (max da db) rest
field-shows l a b da db q sa sb o c rest e =
    let s0 = quiet-run (32 ∷ []) o c (40 ∷ (l ++ (32 ∷ (a ++ (41 ∷ (b ++ rest)))))) refl e in
    let s1 = open-step o c (l ++ (32 ∷ (a ++ (41 ∷ (b ++ rest))))) s0 in
    let s2 = quiet-run l (o + 1) c (32 ∷ (a ++ (41 ∷ (b ++ rest)))) q s1.1 in
    let s3 = quiet-run (32 ∷ []) (o + 1) c (a ++ (41 ∷ (b ++ rest))) refl s2 in
    let s4 = sa (o + 1) c (41 ∷ (b ++ rest)) s3 in
    let s5 = close-step (o + 1 + s4.more) (c + s4.more) (b ++ rest) s4.later in
    let m = s4.more + 1 in
    let j : o + 1 + s4.more ≡ o + (s4.more + 1) = omega arith in
    let k : c + s4.more + 1 ≡ c + (s4.more + 1) = omega arith in
    let s6 = sb (o + (s4.more + 1)) (c + (s4.more + 1)) rest (rw (j, k) at s5) in
    let i : o + (s4.more + 1 + s6.more) ≡ o + (s4.more + 1) + s6.more = omega arith in
    let h : c + (s4.more + 1 + s6.more) ≡ c + (s4.more + 1) + s6.more = omega arith in
    record { fits = λ some. deepest o c da db (s4.more + 1) some s4.fits s6.fits; more = s4.more + 1 + s6.more; later = rw (i, h) s6.later }
  where
    deepest : (o c da db m : ℕ) → 0 < max da db → (0 < da → o + 1 + da ≤ c + 4000) → (0 < db → o + m + db ≤ c + m + 4000) → o + max da db ≤ c + 4000
    deepest o c da db m some x y = grind arith

module _ (v : Version) where
  mutual
    -- the text of a spelled type shows its depth
    pub ty-shows : (t : Ty) (n : ℕ) → TySpelled v n t → Shows (ty_text n t) (deep t)
    ty-shows (Var i) n ok = var-shows n i ok.1
    ty-shows Int n ok = quiet-shows (codes "int") refl
    ty-shows BoolTy n ok = quiet-shows (codes "bool") refl
    ty-shows Text n ok = quiet-shows (codes "text") refl
    ty-shows (Arrow a b) n ok = λ o c rest e.
        two-shows (codes "-> ") (ty_text n a) (ty_text n b) (deep a) (deep b) refl (ty-shows a n ok.0) (ty-shows b n ok.1) o c rest
        (subst (λ (w : List ℕ). deep_from Outside o c w ≡ false) (built-is (codes "(-> ") (ty_text n a) (ty_text n b) rest) e)
    ty-shows (Fields r) n ok = λ o c rest e.
        closed-shows (codes "rec") (row_text n r) (deep_row r) refl (row-shows r n None ok) o c rest
        (subst (λ (w : List ℕ). deep_from Outside o c w ≡ false) (closed-is (codes "(rec") (row_text n r) rest) e)
    ty-shows (Sum r) n ok = λ o c rest e.
        closed-shows (codes "sum") (row_text n r) (deep_row r) refl (row-shows r n None ok.1) o c rest
        (subst (λ (w : List ℕ). deep_from Outside o c w ≡ false) (closed-is (codes "(sum") (row_text n r) rest) e)
    ty-shows (Mu b) n ok = λ o c rest e.
        closed-shows (codes "mu ") (ty_text (n + 1) b) (deep b) refl (ty-shows b (n + 1) ok.1) o c rest
        (subst (λ (w : List ℕ). deep_from Outside o c w ≡ false) (closed-is (codes "(mu ") (ty_text (n + 1) b) rest) e)
    ty-shows (All k b) n ok = λ o c rest e.
        two-shows (codes "all ") (kind_text k) (ty_text (n + 1) b) (kind_deep k) (deep b) refl (kind-shows k) (ty-shows b (n + 1) ok) o c rest
        (subst (λ (w : List ℕ). deep_from Outside o c w ≡ false) (built-is (codes "(all ") (kind_text k) (ty_text (n + 1) b) rest) e)
    ty-shows (Ex k b) n ok = λ o c rest e.
        two-shows (codes "some ") (kind_text k) (ty_text (n + 1) b) (kind_deep k) (deep b) refl (kind-shows k) (ty-shows b (n + 1) ok) o c rest
        (subst (λ (w : List ℕ). deep_from Outside o c w ≡ false) (built-is (codes "(some ") (kind_text k) (ty_text (n + 1) b) rest) e)
    ty-shows (Lam k b) n ok = λ o c rest e.
        two-shows (codes "lam ") (kind_text k) (ty_text (n + 1) b) (kind_deep k) (deep b) refl (kind-shows k) (ty-shows b (n + 1) ok) o c rest
        (subst (λ (w : List ℕ). deep_from Outside o c w ≡ false) (built-is (codes "(lam ") (kind_text k) (ty_text (n + 1) b) rest) e)
    ty-shows (Apply a b) n ok = λ o c rest e.
        two-shows (codes "@ ") (ty_text n a) (ty_text n b) (deep a) (deep b) refl (ty-shows a n ok.0) (ty-shows b n ok.1) o c rest
        (subst (λ (w : List ℕ). deep_from Outside o c w ≡ false) (built-is (codes "(@ ") (ty_text n a) (ty_text n b) rest) e)

    row-shows : (r : Row) (n : ℕ) (last : Option Label) → RowSpelled v n last r → Shows (row_text n r) (deep_row r)
    row-shows End n last ok = quiet-shows [] refl
    row-shows (More l t r) n last ok = λ o c rest e.
        field-shows (label_text l) (ty_text n t) (row_text n r) (deep t) (deep_row r) (label-quiet l ok.1) (ty-shows t n ok.2) (row-shows r n (Some l) ok.3) o c rest
        (subst (λ (w : List ℕ). deep_from Outside o c w ≡ false) (field-is (codes " (") (label_text l) (ty_text n t) (row_text n r) rest) e)
