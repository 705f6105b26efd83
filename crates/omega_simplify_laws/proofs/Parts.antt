-- A record that is built anew of the parts of a record of values is that record.
-- Main results: like_record.
use Rattle.std.proofs.Common.{◌≡◌, ℕ, refl, ap, ◌∙◌, subst}
use Rattle.omega_kinds.specs.declared.label.Label.{Label}
use Rattle.omega_types.specs.Ty.{Ty, Row}
use Rattle.omega_terms.specs.Term.{Term, TermRow}
use Rattle.omega_terms.specs.Steps.{IsValue, AreValues, HasField}
use Rattle.omega_simplify_laws.proofs.Flat.{parts_of}
use Rattle.omega_simplify_laws.proofs.Likeness.{Like, AreLike}
use Rattle.omega_simplify_laws.proofs.Values.{field_value}

-- g has the labels of the row, each with what the record w has there
pub data Parts (w : TermRow) : Row → TermRow → Type 0 where
  end : Parts w Row.End TermRow.End
  more : {l : Label} {t : Ty} {r : Row} {v : Term} {g : TermRow} → HasField w l v → Parts w r g → Parts w (Row.More l t r) (TermRow.More l v g)

no_get : {e : Term} {l : Label} → IsValue (Term.Get e l) → ⊥
no_get v = elim v [ ]

-- what is like a part that is still to be taken out of values is like that part
like_part : {n : ℕ} {e v : Term} {w : TermRow} {l : Label} → AreValues w → HasField w l v → Like n e (Term.Get (Term.Fields w) l) → Like n e v
like_part vs x (Like.get p k) = Like.part p vs x k
like_part vs x (Like.drop g p k) = Like.drop g (like_part vs x p) k
like_part vs x (Like.part p us y k) = absurd (no_get (field_value us y))

like_parts : {w : TermRow} {n : ℕ} {f g : TermRow} {r : Row} → AreValues w → Parts w r g → AreLike n f (parts_of (Term.Fields w) r) → AreLike n f g
like_parts vs Parts.end AreLike.end = AreLike.end
like_parts vs (Parts.more x ps) (AreLike.more p q k) = AreLike.more (like_part vs x p) (like_parts vs ps q) k

no_part : {w g : TermRow} {r : Row} → Parts w r g → AreValues (parts_of (Term.Fields w) r) → parts_of (Term.Fields w) r ≡ g
no_part Parts.end v = refl
no_part (Parts.more x p) (AreValues.more v vs) = absurd (no_get v)

record_values : {f : TermRow} → IsValue (Term.Fields f) → AreValues f
record_values (IsValue.fields v) = v

-- d is given apart, since the parts of a row stand for no term that a match could see
pub like_record : {w g : TermRow} {r : Row} {n : ℕ} {e d : Term} → AreValues w → Parts w r g → Like n e d →
    d ≡ Term.Fields (parts_of (Term.Fields w) r) → Like n e (Term.Fields g)
like_record {w = w} {r = r} vs ps (Like.fields {n = n} {f = f} {g = h} p) q =
    let i : h ≡ parts_of (Term.Fields w) r = cc in
    Like.fields (like_parts vs ps (subst (λ x. AreLike n f x) i p))
like_record vs ps (Like.drop g p k) q = Like.drop g (like_record vs ps p q) k
like_record {n = n} {e = e} vs ps (Like.part p us y k) q =
    subst (λ x. Like n e x) (q ∙ ap Term.Fields (no_part ps (record_values (subst IsValue q (field_value us y))))) (Like.part p us y k)
like_record _ _ _ q = absurd (cc)
