-- A whole Omega text with no more than 4,000 open parentheses is read as it is written, and nothing else is read.
-- Main results: omega-again, omega-takes.
use Rattle.std.proofs.Common.{◌≡◌, ℕ, zero, suc, ◌+◌, ◌<◌, ◌≤◌, true, false, List, [], ◌∷◌, ◌++◌, Some, None, refl, sym, ap, ◌∙◌, subst, arith}
use Rattle.std.specs.Prelude.{codes}
use Rattle.omega_types.specs.Ty.{Ty}
use Rattle.omega_terms.specs.TypeText.{ty_text}
use Rattle.omega_terms.specs.TermText.{term_text}
use Rattle.omega_terms.specs.declared.version.Version.{Version}
use Rattle.omega_terms.specs.declared.version.Version.TheVariants.{First, Second}
use Rattle.omega_terms.specs.OmegaText.{version_line, version_text}
use Rattle.omega_terms.specs.Term.{Term}
use Rattle.omega_spelling.specs.Spelled.{TySpelled, deep}
use Rattle.omega_spelling.specs.Reading.{strip, run, passes, ty_at}
use Rattle.omega_spelling.specs.TermReading.{TermSpelled, term_deep, term_at}
use Rattle.omega_spelling.specs.Refusals.{Outside, deep_from, is_too_deep, is_version, has_wide}
use Rattle.omega_spelling.specs.Omega.{TextIn, OmegaText, version_at, omega_at, is_nil}
use Rattle.omega_spelling.proofs.Steps.{bind_ok, if_ok, strip-is, constant}
use Rattle.omega_spelling.proofs.Types.{none-some, ty-reads}
use Rattle.omega_spelling.proofs.Terms.{term-reads}
use Rattle.omega_spelling.proofs.Depth.{quiet, ty-shows, quiet-run}
use Rattle.omega_spelling.proofs.TermDepth.{term-shows}
use Rattle.omega_spelling.proofs.Narrow.{text-not-wide}
use Rattle.omega_spelling.proofs.Texts.{text-is}

nil-is : (xs : List ℕ) → is_nil xs ≡ true → xs ≡ []
nil-is [] e = refl
nil-is (x ∷ xs) e = absurd cc

within : (n m : ℕ) → (0 < n → 0 + m + n ≤ 0 + m + 4000) → n ≤ 4000
within zero m h = omega arith
within (suc n) m h = omega (arith, h (omega arith))

-- ---- the first line

abbrev AnyVersion : Version → Type 0
AnyVersion v = Unit {0}

version-takes : (bytes : List ℕ) (v : Version) (rest : List ℕ) → version_at bytes ≡ Some (v, rest) → bytes ≡ version_line v ++ rest
unfolding version_at
version-takes bytes v rest e =
    (constant version_line AnyVersion First tt bytes v rest _ e (λ e1.
    constant version_line AnyVersion Second tt bytes v rest None e1 (none-some (v, rest)))).0

version-again : (v : Version) (rest : List ℕ) → version_at (version_line v ++ rest) ≡ Some (v, rest)
unfolding version_at strip
version-again First rest = refl
version-again Second rest = refl

version-known : (v : Version) (rest : List ℕ) → is_version (version_line v ++ rest) ≡ false
unfolding is_version strip run
version-known First rest = refl
version-known Second rest = refl

-- the first line has no parentheses and no quotation marks
pub line-quiet : (v : Version) → passes quiet (version_line v) ≡ true
line-quiet First = refl
line-quiet Second = refl

-- ---- whole texts

-- a text that is not too deep spells no deeper type and term
pub deep-text : (v : Version) (t : Ty) (e : Term) → TySpelled v 0 t → TermSpelled v 0 0 e → is_too_deep (version_text v t e) ≡ false → (deep t ≤ 4000) × (term_deep e ≤ 4000)
unfolding is_too_deep
deep-text v t e p q shallow =
    let f : deep_from Outside 0 0 (version_line v ++ (ty_text 0 t ++ (10 ∷ (term_text 0 0 e ++ (10 ∷ []))))) ≡ false = subst (λ (w : List ℕ). deep_from Outside 0 0 w ≡ false) (text-is v t e) shallow in
    let s1 = quiet-run (version_line v) 0 0 (ty_text 0 t ++ (10 ∷ (term_text 0 0 e ++ (10 ∷ [])))) (line-quiet v) f in
    let s2 = ty-shows v t 0 p 0 0 (10 ∷ (term_text 0 0 e ++ (10 ∷ []))) s1 in
    let s3 = quiet-run (10 ∷ []) (0 + s2.more) (0 + s2.more) (term_text 0 0 e ++ (10 ∷ [])) refl s2.later in
    let s4 = term-shows v e 0 0 q (0 + s2.more) (0 + s2.more) (10 ∷ []) s3 in
    (first (deep t) s2.fits, within (term_deep e) s2.more s4.fits)
  where
    first : (n : ℕ) → (0 < n → 0 + n ≤ 0 + 4000) → n ≤ 4000
    first zero h = omega arith
    first (suc n) h = omega (arith, h (omega arith))

-- an Omega text that is not too deep is read as its type and its term
pub omega-again : (bytes : List ℕ) (t : Ty) (e : Term) → OmegaText bytes t e → is_too_deep bytes ≡ false → omega_at bytes ≡ Some (t, e)
unfolding omega_at strip
omega-again bytes t e (v, o) shallow =
    let s : is_too_deep (version_text v t e) ≡ false = subst (λ (w : List ℕ). is_too_deep w ≡ false) o.text shallow in
    let d = deep-text v t e o.type_spelled o.term_spelled s in
    subst (λ (w : List ℕ). omega_at w ≡ Some (t, e)) (sym (o.text ∙ text-is v t e))
    (rw (version-again v (ty_text 0 t ++ (10 ∷ (term_text 0 0 e ++ (10 ∷ [])))), (ty-reads v 4000 0).again t (10 ∷ (term_text 0 0 e ++ (10 ∷ []))) (o.type_spelled, d.0) refl, (term-reads v 4000 0 0).again e (10 ∷ []) (o.term_spelled, d.1) refl) refl)

-- what is read as a type and a term is their Omega text
pub omega-takes : (bytes : List ℕ) (t : Ty) (e : Term) → omega_at bytes ≡ Some (t, e) → OmegaText bytes t e
unfolding omega_at
omega-takes bytes t e h =
    let b1 = bind_ok (version_at bytes) _ (t, e) h in
    let v = b1.0.0 in
    let b2 = bind_ok (ty_at v 4000 0 b1.0.1) _ (t, e) b1.2 in
    let b3 = bind_ok (strip (codes "\n") b2.0.1) _ (t, e) b2.2 in
    let b4 = bind_ok (term_at v 4000 0 0 b3.0) _ (t, e) b3.2 in
    let b5 = bind_ok (strip (codes "\n") b4.0.1) _ (t, e) b4.2 in
    let z = if_ok (is_nil b5.0) (b2.0.0, b4.0.0) (t, e) b5.2 in
    let r = (ty-reads v 4000 0).takes b1.0.1 b2.0.0 b2.0.1 b2.1 in
    let q = (term-reads v 4000 0 0).takes b3.0 b4.0.0 b4.0.1 b4.1 in
    let s1 = version-takes bytes v b1.0.1 b1.1 in
    let s3 = strip-is (codes "\n") b2.0.1 b3.0 b3.1 in
    let s5 = strip-is (codes "\n") b4.0.1 b5.0 b5.1 in
    let last : b4.0.1 ≡ 10 ∷ [] = s5 ∙ ap (λ (w : List ℕ). 10 ∷ w) (nil-is b5.0 z.0) in
    let second : b3.0 ≡ term_text 0 0 b4.0.0 ++ (10 ∷ []) = q.0 ∙ ap (λ (w : List ℕ). term_text 0 0 b4.0.0 ++ w) last in
    let middle : b2.0.1 ≡ 10 ∷ (term_text 0 0 b4.0.0 ++ (10 ∷ [])) = s3 ∙ ap (λ (w : List ℕ). 10 ∷ w) second in
    let whole : bytes ≡ version_line v ++ (ty_text 0 b2.0.0 ++ (10 ∷ (term_text 0 0 b4.0.0 ++ (10 ∷ [])))) =
    s1 ∙ ap (λ (w : List ℕ). version_line v ++ w) (r.0 ∙ ap (λ (w : List ℕ). ty_text 0 b2.0.0 ++ w) middle) in
    (v, subst (λ (x : Ty × Term). TextIn v bytes x.0 x.1) z.1 (record { type_spelled = r.1.0; term_spelled = q.1.0; text = whole ∙ sym (text-is v b2.0.0 b4.0.0) }))

-- an Omega text has neither another version nor a number that is too wide
pub not-refused : (bytes : List ℕ) (t : Ty) (e : Term) → OmegaText bytes t e → (is_version bytes ≡ false) × (has_wide bytes ≡ false)
not-refused bytes t e (v, o) = (
  subst (λ (w : List ℕ). is_version w ≡ false) (sym (o.text ∙ text-is v t e)) (version-known v (ty_text 0 t ++ (10 ∷ (term_text 0 0 e ++ (10 ∷ []))))),
  subst (λ (w : List ℕ). has_wide w ≡ false) (sym o.text) (text-not-wide v t e o.type_spelled o.term_spelled),
)
