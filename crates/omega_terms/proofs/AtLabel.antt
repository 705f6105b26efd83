-- What stands at a label of the fields of a record, or of the branches of a case, is the part there.
-- Main results: part-found, no-part, field-found, no-field.
use Rattle.std.proofs.Common.{◌≡◌, [], ◌∷◌, Some, None, Bool, true, false, if◌then◌else◌, refl, sym, ap, subst, ◌∙◌}
use Rattle.std.specs.Ordering.{is_eq}
use Rattle.std.proofs.lemmas.Bool.{false≢true}
use Rattle.omega_kinds.specs.LabelOrder.{label_cmp}
use Rattle.omega_kinds.specs.declared.label.Label.{Label}
use Rattle.omega_kinds.proofs.LabelLaws.{label-yes, label-self}
use Rattle.omega_types.specs.Ty.{Ty, Row}
use Rattle.omega_types.specs.Fields.{Pairs, row, at_label}
use Rattle.omega_terms.specs.Term.{Term, TermRow}
use Rattle.omega_terms.specs.Fields.{TermPairs, term_row}
use Rattle.omega_terms.specs.Typing.{HasPart}
use Rattle.omega_terms.specs.Steps.{HasField}

some-same : {A : Type 0} {x y : A} → Some x ≡ Some y → x ≡ y
some-same e = cc

none-some : {A B : Type 0} {x : A} → None ≡ Some x → B
none-some {x = x} e = absurd (let f : None ≡ Some x → ⊥ = λ p. cc in f e)

differs : (m l : Label) → is_eq (label_cmp m l) ≡ false → l ≡ m → ⊥
differs m l e d = false≢true (sym e ∙ (ap (λ k. is_eq (label_cmp m k)) d ∙ label-self m))

-- what is found at a label of a list of parts is the part of their row there
pub part-found : (xs : Pairs) (l : Label) (t : Ty) → at_label xs l ≡ Some t → HasPart (row xs) l t
part-found [] l t e = none-some e
part-found (x ∷ xs) l t e = go (part-found xs l t) (is_eq (label_cmp x.0 l)) refl e
  where
    go : (at_label xs l ≡ Some t → HasPart (row xs) l t) → (b : Bool) → is_eq (label_cmp x.0 l) ≡ b → (if b then Some x.1 else at_label xs l) ≡ Some t → HasPart (Row.More x.0 x.1 (row xs)) l t
    go rest true s q = subst (λ k. HasPart (Row.More x.0 x.1 (row xs)) k t) (label-yes x.0 l s) (subst (λ u. HasPart (Row.More x.0 x.1 (row xs)) x.0 u) (some-same q) HasPart.here)
    go rest false s q = HasPart.there (differs x.0 l s) (rest q)

other-part : {m l : Label} {t u : Ty} {r : Row} → (m ≡ l → ⊥) → HasPart (Row.More m u r) l t → HasPart r l t
other-part {m} {l} n HasPart.here = absurd (n refl)
other-part n (HasPart.there d h) = h

-- where nothing is found at a label, the row has no part there
pub no-part : (xs : Pairs) (l : Label) → at_label xs l ≡ None → (t : Ty) → HasPart (row xs) l t → ⊥
no-part [] l e t h = elim h [ ]
no-part (x ∷ xs) l e t h = go (λ q p. no-part xs l q t p) (is_eq (label_cmp x.0 l)) refl e h
  where
    go : (at_label xs l ≡ None → HasPart (row xs) l t → ⊥) → (b : Bool) → is_eq (label_cmp x.0 l) ≡ b → (if b then Some x.1 else at_label xs l) ≡ None → HasPart (Row.More x.0 x.1 (row xs)) l t → ⊥
    go rest true s q p = none-some (sym q)
    go rest false s q p = rest q (other-part (λ e. differs x.0 l s (sym e)) p)

-- what is found at a label of a list of fields is the field of their row there
pub field-found : (xs : TermPairs) (l : Label) (e : Term) → at_label xs l ≡ Some e → HasField (term_row xs) l e
field-found [] l e q = none-some q
field-found (x ∷ xs) l e q = go (field-found xs l e) (is_eq (label_cmp x.0 l)) refl q
  where
    go : (at_label xs l ≡ Some e → HasField (term_row xs) l e) → (b : Bool) → is_eq (label_cmp x.0 l) ≡ b → (if b then Some x.1 else at_label xs l) ≡ Some e → HasField (TermRow.More x.0 x.1 (term_row xs)) l e
    go rest true s p = subst (λ k. HasField (TermRow.More x.0 x.1 (term_row xs)) k e) (label-yes x.0 l s) (subst (λ d. HasField (TermRow.More x.0 x.1 (term_row xs)) x.0 d) (some-same p) HasField.here)
    go rest false s p = HasField.there (differs x.0 l s) (rest p)

other-field : {m l : Label} {d e : Term} {f : TermRow} → (m ≡ l → ⊥) → HasField (TermRow.More m d f) l e → HasField f l e
other-field {m} {l} n HasField.here = absurd (n refl)
other-field n (HasField.there d h) = h

-- where nothing is found at a label, the row of terms has no field there
pub no-field : (xs : TermPairs) (l : Label) → at_label xs l ≡ None → (e : Term) → HasField (term_row xs) l e → ⊥
no-field [] l q e h = elim h [ ]
no-field (x ∷ xs) l q e h = go (λ p f. no-field xs l p e f) (is_eq (label_cmp x.0 l)) refl q h
  where
    go : (at_label xs l ≡ None → HasField (term_row xs) l e → ⊥) → (b : Bool) → is_eq (label_cmp x.0 l) ≡ b → (if b then Some x.1 else at_label xs l) ≡ None → HasField (TermRow.More x.0 x.1 (term_row xs)) l e → ⊥
    go rest true s p f = none-some (sym p)
    go rest false s p f = rest p (other-field (λ e. differs x.0 l s (sym e)) f)
