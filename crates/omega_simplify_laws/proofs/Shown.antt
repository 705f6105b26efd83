-- A value is shown as what it is like, and has the same value text.
-- Main results: text_like.
use Rattle.std.proofs.Common.{◌≡◌, ℕ, List, [], refl, ap, codes}
use Rattle.omega_kinds.specs.Text.{◌then◌}
use Rattle.omega_kinds.specs.declared.label.Label.{Label}
use Rattle.omega_kinds.specs.declared.label.Label.TheVariants.{Val, Typ, Sig, App, Gen}
use Rattle.omega_terms.specs.Term.{Term, TermRow}
use Rattle.omega_terms.specs.KindText.{label_text}
use Rattle.omega_terms.specs.Steps.{IsValue, AreValues}
use Rattle.omega_terms.specs.ValueText.{shown, shown_fields, lines, value_text}
use Rattle.omega_simplify_laws.proofs.Likeness.{Like, AreLike}

braced : (a b : List ℕ) → a ≡ b → codes "{" then a then codes "}" ≡ codes "{" then b then codes "}"
braced a b p = ap (λ x. codes "{" then x then codes "}") p

-- one field, whatever its label
shown_field : (l : Label) (e d : Term) → shown e ≡ shown d → shown_fields [] (TermRow.More l e TermRow.End) ≡ shown_fields [] (TermRow.More l d TermRow.End)
shown_field l e d p = ap (λ x. [] then label_text l then codes " = " then x then []) p

shown_one : (l : Label) (e d : Term) → shown e ≡ shown d →
    shown (Term.Fields (TermRow.More l e TermRow.End)) ≡ shown (Term.Fields (TermRow.More l d TermRow.End))
shown_one Val e d p = p
shown_one Typ e d p = refl
shown_one Sig e d p = refl
shown_one App e d p = braced _ _ (shown_field App e d p)
shown_one Gen e d p = braced _ _ (shown_field Gen e d p)
shown_one (Label.Name s) e d p = braced _ _ (shown_field (Label.Name s) e d p)

-- two fields or more, whatever the first label
shown_more : (l m : Label) (e d x y : Term) (f g : TermRow) →
    shown_fields [] (TermRow.More l e (TermRow.More m x f)) ≡ shown_fields [] (TermRow.More l d (TermRow.More m y g)) →
    shown (Term.Fields (TermRow.More l e (TermRow.More m x f))) ≡ shown (Term.Fields (TermRow.More l d (TermRow.More m y g)))
shown_more Val m e d x y f g p = braced _ _ p
shown_more Typ m e d x y f g p = braced _ _ p
shown_more Sig m e d x y f g p = braced _ _ p
shown_more App m e d x y f g p = braced _ _ p
shown_more Gen m e d x y f g p = braced _ _ p
shown_more (Label.Name s) m e d x y f g p = braced _ _ p

mutual
  -- a value and what it is like are shown alike
  pub shown_like : {n : ℕ} {v d : Term} → IsValue v → Like n v d → shown v ≡ shown d
  shown_like IsValue.int Like.int = refl
  shown_like IsValue.bool Like.bool = refl
  shown_like IsValue.text Like.text = refl
  shown_like IsValue.lam (Like.lam p) = refl
  shown_like IsValue.ty_lam (Like.ty_lam p) = refl
  shown_like IsValue.fix (Like.fix p) = refl
  shown_like (IsValue.fields v) (Like.fields p) = shown_record v p
  shown_like (IsValue.pack v) (Like.pack p) = refl
  shown_like (IsValue.inj {l = l} v) (Like.inj p) = λ i. codes "(" then label_text l then codes " " then shown_like v p i then codes ")"
  shown_like (IsValue.roll v) (Like.roll p) = λ i. codes "(roll " then shown_like v p i then codes ")"

  shown_record : {n : ℕ} {f g : TermRow} → AreValues f → AreLike n f g → shown (Term.Fields f) ≡ shown (Term.Fields g)
  shown_record AreValues.end AreLike.end = refl
  shown_record (AreValues.more {l = l} v AreValues.end) (AreLike.more p AreLike.end k) = shown_one l _ _ (shown_like v p)
  shown_record (AreValues.more {l = l} v (AreValues.more {l = m} u w)) (AreLike.more p (AreLike.more x q j) k) =
      shown_more l m _ _ _ _ _ _
      (λ i. [] then label_text l then codes " = " then shown_like v p i then
      codes ", " then label_text m then codes " = " then shown_like u x i then shown_fields_like (codes ", ") w q i)

  shown_fields_like : {n : ℕ} {f g : TermRow} (mark : List ℕ) → AreValues f → AreLike n f g → shown_fields mark f ≡ shown_fields mark g
  shown_fields_like mark AreValues.end AreLike.end = refl
  shown_fields_like mark (AreValues.more {l = l} v w) (AreLike.more p q k) =
      λ i. mark then label_text l then codes " = " then shown_like v p i then shown_fields_like (codes ", ") w q i

lines_like : {f g : TermRow} {n : ℕ} → AreValues f → AreLike n f g → lines f ≡ lines g
lines_like AreValues.end AreLike.end = refl
lines_like (AreValues.more {l = l} v w) (AreLike.more p q k) =
    λ i. label_text l then codes " = " then shown_like v p i then codes "\n" then lines_like w q i

-- a value and what it is like have the same value text
pub text_like : {v d : Term} {n : ℕ} → IsValue v → Like n v d → value_text v ≡ value_text d
text_like IsValue.int Like.int = refl
text_like IsValue.bool Like.bool = refl
text_like IsValue.text Like.text = refl
text_like IsValue.lam (Like.lam p) = refl
text_like IsValue.ty_lam (Like.ty_lam p) = refl
text_like IsValue.fix (Like.fix p) = refl
text_like (IsValue.fields v) (Like.fields p) = lines_like v p
text_like (IsValue.pack v) (Like.pack p) = text_like v p
text_like (IsValue.inj v) (Like.inj p) = refl
text_like (IsValue.roll v) (Like.roll p) = refl
