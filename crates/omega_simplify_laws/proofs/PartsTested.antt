-- Records in label order that are built of the parts of a variable, by their labels.
-- Main results: parts_are_tested.
use Rattle.std.proofs.Common.{◌≡◌, ◌≢◌, ◌⊎◌, zero, [], ◌∷◌, true, ◌&&◌, refl, sym, ◌∙◌, subst}
use Rattle.std.proofs.Math.Logic.{inl, inr}
use Rattle.std.proofs.lemmas.Bool.{and_from}
use Rattle.std.specs.Ordering.{is_eq}
use Rattle.omega_kinds.specs.declared.label.Label.{Label}
use Rattle.omega_kinds.specs.LabelOrder.{LabelBefore, label_cmp}
use Rattle.omega_kinds.proofs.LabelLaws.{label-self, irreflexive, transitive}
use Rattle.omega_types.specs.Ty.{Ty, Row}
use Rattle.omega_types.specs.Fields.{Pairs, row, Rises}
use Rattle.omega_terms.specs.Term.{Term, TermRow}
use Rattle.omega_terms.specs.Fields.{TermPairs, term_row}
use Rattle.omega_terms.specs.Typing.{HasPart}
use Rattle.omega_terms.specs.Steps.{HasField}
use Rattle.omega_simplify_laws.specs.Simplified.{are_parts}
use Rattle.omega_simplify_laws.specs.Claims.{PartsAreTested, AreOwnParts, SameLabels}
use Rattle.omega_simplify_laws.proofs.Flat.{parts_of, are_parts-yes}

-- ---- the fields of a record of parts

part_is : {e d : Term} {l : Label} (r : Row) → HasField (parts_of e r) l d → d ≡ Term.Get e l
part_is Row.End x = elim x [ ]
part_is (Row.More m t r) HasField.here = refl
part_is (Row.More m t r) (HasField.there n x) = part_is r x

part_there : {l : Label} {t : Ty} {r : Row} (e : Term) → HasPart r l t → HasField (parts_of e r) l (Term.Get e l)
part_there e HasPart.here = HasField.here
part_there e (HasPart.there n p) = HasField.there n (part_there e p)

part_of : (e : Term) {d : Term} {l : Label} (r : Row) → HasField (parts_of e r) l d → (t : Ty) × HasPart r l t
part_of e Row.End x = elim x [ ]
part_of e (Row.More m t r) HasField.here = (t, HasPart.here)
part_of e (Row.More m t r) (HasField.there n x) = let p = part_of e r x in (p.0, HasPart.there n p.1)

-- ---- rows and records

own_parts : (r : Row) (f : TermRow) → f ≡ parts_of (Term.Var zero) r → AreOwnParts f × SameLabels r f
own_parts r f p = (
  λ l e x. part_is r (subst (λ g. HasField g l e) p x),
  λ l. (
    λ q. (Term.Get (Term.Var zero) l, subst (λ g. HasField g l (Term.Get (Term.Var zero) l)) (sym p) (part_there (Term.Var zero) q.1)),
    λ q. part_of (Term.Var zero) r (subst (λ g. HasField g l q.0) p q.1),
  ),
)

-- ---- labels in order

differs : (l m : Label) → LabelBefore l m → m ≢ l
differs l m b p = irreflexive l (subst (λ k. LabelBefore l k) p b)

row_rises : (x : Label × Ty) (xs : Pairs) {l : Label} {t : Ty} → Rises (x ∷ xs) → HasPart (row xs) l t → LabelBefore x.0 l
row_rises x [] r p = elim p [ ]
row_rises x (y ∷ ys) r HasPart.here = r.0
row_rises x (y ∷ ys) {l} r (HasPart.there n p) = transitive x.0 y.0 l r.0 (row_rises y ys r.1 p)

term_row_rises : (x : Label × Term) (xs : TermPairs) {l : Label} {e : Term} → Rises (x ∷ xs) → HasField (term_row xs) l e → LabelBefore x.0 l
term_row_rises x [] r p = elim p [ ]
term_row_rises x (y ∷ ys) r HasField.here = r.0
term_row_rises x (y ∷ ys) {l} r (HasField.there n p) = transitive x.0 y.0 l r.0 (term_row_rises y ys r.1 p)

rises_on : {A : Type 0} (x : Label × A) (xs : _) → Rises {T = A} (x ∷ xs) → Rises {T = A} xs
rises_on x [] r = tt
rises_on x (y ∷ ys) r = r.1

-- a label of a row is the first one, or a later one
at_first_part : {l : Label} {t : Ty} (x : Label × Ty) (xs : Pairs) → HasPart (row (x ∷ xs)) l t → (l ≡ x.0) ⊎ (HasPart (row xs) l t)
at_first_part x xs HasPart.here = inl refl
at_first_part x xs (HasPart.there n p) = inr p

at_first_field : {l : Label} {e : Term} (x : Label × Term) (xs : TermPairs) → HasField (term_row (x ∷ xs)) l e → (l ≡ x.0) ⊎ (HasField (term_row xs) l e)
at_first_field x xs HasField.here = inl refl
at_first_field x xs (HasField.there n p) = inr p

later_part : {l : Label} {t : Ty} (x : Label × Ty) (xs : Pairs) → l ≢ x.0 → HasPart (row (x ∷ xs)) l t → HasPart (row xs) l t
later_part x xs n p = elim (at_first_part x xs p) [ inl e ↦ absurd (n e) | inr q ↦ q ]

later_field : {l : Label} {e : Term} (x : Label × Term) (xs : TermPairs) → l ≢ x.0 → HasField (term_row (x ∷ xs)) l e → HasField (term_row xs) l e
later_field x xs n p = elim (at_first_field x xs p) [ inl e ↦ absurd (n e) | inr q ↦ q ]

-- the first labels of both are the same, since each stands in the other
first_same : (x : Label × Ty) (xs : Pairs) (y : Label × Term) (ys : TermPairs) → Rises (x ∷ xs) → Rises (y ∷ ys) →
    SameLabels (row (x ∷ xs)) (term_row (y ∷ ys)) → x.0 ≡ y.0
first_same x xs y ys r s h =
    let p = (h x.0).0 (x.1, HasPart.here) in
    let q = (h y.0).1 (y.1, HasField.here) in
    elim (at_first_field y ys p.1) [
      | inl e ↦ e
      | inr a ↦ elim (at_first_part x xs q.1) [
        | inl e ↦ sym e
        | inr b ↦ absurd (irreflexive x.0 (transitive x.0 y.0 x.0 (row_rises x xs r b) (term_row_rises y ys s a)))
      ]
    ]

later_same : (x : Label × Ty) (xs : Pairs) (y : Label × Term) (ys : TermPairs) → Rises (x ∷ xs) → Rises (y ∷ ys) →
    SameLabels (row (x ∷ xs)) (term_row (y ∷ ys)) → x.0 ≡ y.0 → SameLabels (row xs) (term_row ys)
later_same x xs y ys r s h e l = (forth, back)
  where
    forth : (t : Ty) × HasPart (row xs) l t → (d : Term) × HasField (term_row ys) l d
    forth p =
        let n : l ≢ x.0 = differs x.0 l (row_rises x xs r p.1) in
        let q = (h l).0 (p.0, HasPart.there n p.1) in
        (q.0, later_field y ys (λ u. n (u ∙ sym e)) q.1)

    back : (d : Term) × HasField (term_row ys) l d → (t : Ty) × HasPart (row xs) l t
    back p =
        let n : l ≢ y.0 = differs y.0 l (term_row_rises y ys s p.1) in
        let q = (h l).1 (p.0, HasField.there n p.1) in
        (q.0, later_part x xs (λ u. n (u ∙ e)) q.1)

later_own : (y : Label × Term) (ys : TermPairs) → Rises (y ∷ ys) → AreOwnParts (term_row (y ∷ ys)) → AreOwnParts (term_row ys)
later_own y ys s h l e x = h l e (HasField.there (differs y.0 l (term_row_rises y ys s x)) x)

first_tested : (x : Label × Ty) (xs : Pairs) (y : Label × Term) (f : TermRow) → x.0 ≡ y.0 → y.1 ≡ Term.Get (Term.Var zero) y.0 →
    are_parts (row xs) f ≡ true → are_parts (row (x ∷ xs)) (TermRow.More y.0 y.1 f) ≡ true
first_tested x xs y f p q h =
    let s : is_eq (label_cmp x.0 y.0) ≡ true = subst (λ l. is_eq (label_cmp x.0 l) ≡ true) p (label-self x.0) in
    let t : are_parts (row (x ∷ xs)) (TermRow.More y.0 (Term.Get (Term.Var zero) y.0) f) ≡ true =
    and_from (is_eq (label_cmp x.0 y.0) && is_eq (label_cmp x.0 y.0)) (are_parts (row xs) f)
    (and_from (is_eq (label_cmp x.0 y.0)) (is_eq (label_cmp x.0 y.0)) s s) h in
    subst (λ e. are_parts (row (x ∷ xs)) (TermRow.More y.0 e f) ≡ true) (sym q) t

tested : (xs : Pairs) (fs : TermPairs) → Rises xs → Rises fs → AreOwnParts (term_row fs) → SameLabels (row xs) (term_row fs) →
    are_parts (row xs) (term_row fs) ≡ true
tested [] [] r s o h = refl
tested [] (y ∷ ys) r s o h = let q = (h y.0).1 (y.1, HasField.here) in elim q.1 [ ]
tested (x ∷ xs) [] r s o h = let q = (h x.0).0 (x.1, HasPart.here) in elim q.1 [ ]
tested (x ∷ xs) (y ∷ ys) r s o h =
    let e = first_same x xs y ys r s h in
    first_tested x xs y (term_row ys) e (o y.0 y.1 HasField.here)
    (tested xs ys (rises_on x xs r) (rises_on y ys s) (later_own y ys s o) (later_same x xs y ys r s h e))

-- the test accepts exactly a record of the argument's parts at their labels, which are those of the row
pub parts_are_tested : PartsAreTested
parts_are_tested xs fs r s = (λ h. own_parts (row xs) (term_row fs) (are_parts-yes (row xs) (term_row fs) h), λ p. tested xs fs r s p.0 p.1)
