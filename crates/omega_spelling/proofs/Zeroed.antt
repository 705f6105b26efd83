-- Bytes whose numbers are replaced by 0 have no more open parentheses, so that they are read where they are a text.
-- Main results: not-wide.
use Rattle.std.proofs.Common.{◌≡◌, ℕ, ◌+◌, ◌≤◌, Bool, true, false, cond, List, [], ◌∷◌, ◌++◌, None, refl, sym, ap, ◌∙◌, subst, append_assoc, arith}
use Rattle.std.specs.Prelude.{◌==◌, nat_lt}
use Rattle.std.proofs.lemmas.Bool.Decides.{nat_tests}
use Rattle.omega_kinds.specs.Text.{◌then◌}
use Rattle.omega_types.specs.Ty.{Ty}
use Rattle.omega_terms.specs.Term.{Term}
use Rattle.omega_terms.specs.declared.version.Version.{Version}
use Rattle.omega_terms.specs.declared.version.Version.TheVariants.{First, Second}
use Rattle.omega_terms.specs.OmegaText.{version_line, version_text}
use Rattle.omega_spelling.specs.Reading.{passes}
use Rattle.omega_spelling.specs.Refusals.{Place, Outside, Inside, Escaped, after, opens, closes, deep_from, is_too_deep, in_item, is_number, zeroed_item, zeroed_from, lines_cut, zeroed}
use Rattle.omega_spelling.specs.Omega.{OmegaText, omega_at}
use Rattle.omega_spelling.specs.Refused.{HasWide}
use Rattle.omega_spelling.proofs.Steps.{and_ok, some-none}
use Rattle.omega_spelling.proofs.Depth.{quiet, quiet-run, quiet-all, or-no}
use Rattle.omega_spelling.proofs.Wholes.{line-quiet, omega-again}

-- the bounds that each byte is tested for
not-past : (a b : ℕ) → nat_lt a b ≡ false → b ≤ a
not-past a b e = grind (arith, nat_tests)

past-not : (a b : ℕ) → b ≤ a → nat_lt a b ≡ false
past-not a b e = grind (arith, nat_tests)

abbrev Item : List ℕ → Type 0
Item item = passes in_item item ≡ true

item-quiet : (item : List ℕ) → Item item → passes quiet item ≡ true
item-quiet item h = quiet-all in_item refl refl refl item h

zero-quiet : (item : List ℕ) → Item item → passes quiet (zeroed_item item) ≡ true
zero-quiet item h = pick (is_number item)
  where
    pick : (t : Bool) → passes quiet (cond t (48 ∷ []) item) ≡ true
    pick true = refl
    pick false = item-quiet item h

quiet-one : (b o c : ℕ) (rest : List ℕ) → quiet b ≡ true → o ≤ c + 4000 → deep_from Outside o c rest ≡ false → deep_from Outside o c (b ∷ rest) ≡ false
quiet-one b o c rest q le e = go b o c rest (b == 34) (b == 40) (b == 41) refl refl refl q le e
  where
    go : (b o c : ℕ) (rest : List ℕ) (x y z : Bool) → (b == 34) ≡ x → (b == 40) ≡ y → (b == 41) ≡ z → quiet b ≡ true → o ≤ c + 4000 → deep_from Outside o c rest ≡ false → deep_from Outside o c (b ∷ rest) ≡ false
    go b o c rest true y z p q r h le e = absurd cc
    go b o c rest false true z p q r h le e = absurd cc
    go b o c rest false false true p q r h le e = absurd cc
    go b o c rest false false false p q r h le e =
        let k : c + 0 ≡ c = omega arith in
        let j : o + 0 ≡ o = omega arith in
        rw (p, q, r, k, j, past-not (c + 4000) o le) e

quiet-more : (xs : List ℕ) (o c : ℕ) (rest : List ℕ) → passes quiet xs ≡ true → o ≤ c + 4000 → deep_from Outside o c rest ≡ false → deep_from Outside o c (xs ++ rest) ≡ false
quiet-more [] o c rest q le e = e
quiet-more (x ∷ xs) o c rest q le e =
    let t = and_ok (quiet x) (passes quiet xs) q in
    quiet-one x o c (xs ++ rest) t.0 le (quiet-more xs o c rest t.1 le e)

-- outside texts no part of an item is left over
abbrev Here : Place → List ℕ → Type 0
Here Outside item = Item item
Here Inside item = item ≡ []
Here Escaped item = item ≡ []

fresh : (p : Place) → Here p []
fresh Outside = refl
fresh Inside = refl
fresh Escaped = refl

item-more : (item : List ℕ) (b : ℕ) → Item item → in_item b ≡ true → Item (item ++ b ∷ [])
item-more [] b h e = rw e refl
item-more (x ∷ item) b h e = let t = and_ok (in_item x) (passes in_item item) h in rw (t.0, item-more item b t.1 e) refl

abbrev Falls : Place → ℕ → ℕ → List ℕ → List ℕ → Type 0
Falls p o c from to = deep_from p o c from ≡ false → deep_from p o c to ≡ false

-- a byte stays, and what is behind it falls
stays : (p : Place) (o c b : ℕ) (from to : List ℕ)
    → (o + opens p b ≤ c + closes p b + 4000 → Falls (after p b) (o + opens p b) (c + closes p b) from to) → Falls p o c (b ∷ from) (b ∷ to)
stays p o c b from to more e =
    let t = or-no (nat_lt (c + closes p b + 4000) (o + opens p b)) (deep_from (after p b) (o + opens p b) (c + closes p b) from) e in
    rw (t.0, more (not-past (c + closes p b + 4000) (o + opens p b) t.0) t.1) refl

zeroed-falls : (bs : List ℕ) (p : Place) (item : List ℕ) (o c : ℕ) → Here p item → o ≤ c + 4000 → Falls p o c (item ++ bs) (zeroed_from p item bs)
zeroed-falls [] Outside item o c h le e =
    subst (λ (w : List ℕ). deep_from Outside o c w ≡ false) (nil (zeroed_item item)) (quiet-more (zeroed_item item) o c [] (zero-quiet item h) le refl)
  where
    nil : (xs : List ℕ) → xs ++ [] ≡ xs
    nil [] = refl
    nil (x ∷ xs) = ap (λ (w : List ℕ). x ∷ w) (nil xs)
zeroed-falls [] Inside item o c h le e = rw h refl
zeroed-falls [] Escaped item o c h le e = rw h refl
zeroed-falls (b ∷ bs) Outside item o c h le e =
    pick (in_item b) refl (zeroed-falls bs Outside (item ++ b ∷ []) o c)
    (λ bound. zeroed-falls bs (after Outside b) [] (o + opens Outside b) (c + closes Outside b) (fresh (after Outside b)) bound)
  where
    pick : (t : Bool) → in_item b ≡ t
        → (Item (item ++ b ∷ []) → o ≤ c + 4000 → Falls Outside o c ((item ++ b ∷ []) ++ bs) (zeroed_from Outside (item ++ b ∷ []) bs))
        → (o + opens Outside b ≤ c + closes Outside b + 4000 → Falls (after Outside b) (o + opens Outside b) (c + closes Outside b) bs (zeroed_from (after Outside b) [] bs))
        → deep_from Outside o c (cond t (zeroed_from Outside (item ++ b ∷ []) bs) (zeroed_item item ++ (b ∷ zeroed_from (after Outside b) [] bs))) ≡ false
    pick true q on past =
        on (item-more item b h q) le (subst (λ (w : List ℕ). deep_from Outside o c w ≡ false) (sym (append_assoc item (b ∷ []) bs)) e)
    pick false q on past =
        quiet-more (zeroed_item item) o c (b ∷ zeroed_from (after Outside b) [] bs) (zero-quiet item h) le
        (stays Outside o c b bs (zeroed_from (after Outside b) [] bs) past (quiet-run item o c (b ∷ bs) (item-quiet item h) e))
zeroed-falls (b ∷ bs) Inside item o c h le e =
    let f = rw h at e in
    rw h (stays Inside o c b bs (zeroed_from (after Inside b) [] bs) (λ bound. zeroed-falls bs (after Inside b) [] (o + opens Inside b) (c + closes Inside b) (fresh (after Inside b)) bound) f)
zeroed-falls (b ∷ bs) Escaped item o c h le e =
    let f = rw h at e in
    rw h (stays Escaped o c b bs (zeroed_from (after Escaped b) [] bs) (λ bound. zeroed-falls bs (after Escaped b) [] (o + opens Escaped b) (c + closes Escaped b) (fresh (after Escaped b)) bound) f)

-- ---- the first line

lines-join : (bytes : List ℕ) → bytes ≡ (lines_cut bytes).0 ++ (lines_cut bytes).1
lines-join [] = refl
lines-join (b ∷ bs) =
    elim (b == 10) as (λ t. b ∷ bs ≡ (let r : List ℕ × List ℕ = cond t (b ∷ [], bs) (b ∷ (lines_cut bs).0, (lines_cut bs).1) in r.0 ++ r.1)) [ true ↦ refl | false ↦ ap (λ (w : List ℕ). b ∷ w) (lines-join bs) ]

-- the first line stays the first line
line-stays : (bytes : List ℕ) → (lines_cut (zeroed bytes)).0 ≡ (lines_cut bytes).0
unfolding zeroed
line-stays [] = refl
line-stays (b ∷ bs) = pick (b == 10) refl (line-stays bs)
  where
    pick : (t : Bool) → (b == 10) ≡ t → (lines_cut ((lines_cut bs).0 ++ zeroed_from Outside [] (lines_cut bs).1)).0 ≡ (lines_cut bs).0
        → (let r : List ℕ × List ℕ = cond t (b ∷ [], bs) (b ∷ (lines_cut bs).0, (lines_cut bs).1) in (lines_cut (r.0 ++ zeroed_from Outside [] r.1)).0 ≡ r.0)
    pick true q more = rw q refl
    pick false q more = rw q (ap (λ (w : List ℕ). b ∷ w) more)

text-line : (v : Version) (t : Ty) (e : Term) → (lines_cut (version_text v t e)).0 ≡ version_line v
unfolding ◌then◌
text-line First t e = refl
text-line Second t e = refl

-- where the numbers are replaced by 0 and a text comes out, no more parentheses are open than before
pub zeroed-shallow : (bytes : List ℕ) (t : Ty) (e : Term) → OmegaText (zeroed bytes) t e → is_too_deep bytes ≡ false → is_too_deep (zeroed bytes) ≡ false
unfolding is_too_deep zeroed
zeroed-shallow bytes t e (v, text) shallow =
    let first : (lines_cut bytes).0 ≡ version_line v = sym (line-stays bytes) ∙ ap (λ (w : List ℕ). (lines_cut w).0) text.text ∙ text-line v t e in
    let rest = (lines_cut bytes).1 in
    let whole : bytes ≡ version_line v ++ rest = lines-join bytes ∙ ap (λ (w : List ℕ). w ++ rest) first in
    let behind : deep_from Outside 0 0 rest ≡ false = quiet-run (version_line v) 0 0 rest (line-quiet v) (subst (λ (w : List ℕ). deep_from Outside 0 0 w ≡ false) whole shallow) in
    let zero : deep_from Outside 0 0 (zeroed_from Outside [] rest) ≡ false = zeroed-falls rest Outside [] 0 0 refl (omega arith) behind in
    subst (λ (w : List ℕ). deep_from Outside 0 0 (w ++ zeroed_from Outside [] rest) ≡ false) (sym first)
    (quiet-more (version_line v) 0 0 (zeroed_from Outside [] rest) (line-quiet v) (omega arith) zero)

-- bytes that are not read with each number replaced by 0 are not refused for a wide number
pub not-wide : (bytes : List ℕ) → is_too_deep bytes ≡ false → omega_at (zeroed bytes) ≡ None → HasWide bytes → ⊥
not-wide bytes shallow none h =
    let again = omega-again (zeroed bytes) h.0.0 h.0.1 h.0.2 (zeroed-shallow bytes h.0.0 h.0.1 h.0.2 shallow) in
    some-none (h.0.0, h.0.1) (sym again ∙ none)
