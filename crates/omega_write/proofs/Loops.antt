-- Pieces and fields, one after the other.
-- Main results: pieces-text, ty_fields-text, term_fields-text.
use Rattle.std.proofs.Common.{◌≡◌, ℕ, zero, suc, ◌+◌, ◌<◌, ◌≤◌, List, [], ◌∷◌, ◌++◌, length, get_or, refl, ap, ◌∙◌, append_assoc, arith}
use Rattle.std.specs.Prelude.{flat_map, Result, IsErr}
use Rattle.std.proofs.lemmas.List.{append-nil}
use Rattle.std.proofs.lemmas.Result.{MatchResult-from_err}
use Rattle.fing_text.specs.Told.{Told}
use Rattle.fing_text.specs.Writes.{Grew, Broke, Wrote}
use Rattle.omega_kinds.specs.Text.{◌then◌}
use Rattle.omega_kinds.specs.declared.label.Label.{Label}
use Rattle.omega_types.specs.Ty.{Ty}
use Rattle.omega_types.specs.Fields.{Pairs, row}
use Rattle.omega_terms.specs.Term.{Term}
use Rattle.omega_terms.specs.Fields.{TermPairs, term_row}
use Rattle.omega_write.specs.declared.trees.Piece.{Piece}
use Rattle.omega_write.specs.Inner.Counted.{counted_ty, counted_row, counted_term, counted_term_row}
use Rattle.omega_write.specs.Inner.Pieces.{piece_text, pieces_text, field_text}
use Rattle.omega_write.proofs.Sizes.{weight, weights, ty_size, row_size, term_size, term_row_size}

-- a call that ends where an inner one failed
pub wrote-err : {T E : Type 0} (old new : Told) (text : List ℕ) (r : Result T E) → IsErr r → Broke old new text → Wrote old new text r
wrote-err old new text r failed broke =
    MatchResult-from_err r (λ _. Grew old new text) (λ _. Broke old new text) failed (λ _. broke)

-- pieces written one by one are the text of the pieces
pub pieces-text : (ps : List Piece) → flat_map piece_text ps ≡ pieces_text ps
unfolding ◌then◌
pieces-text [] = refl
pieces-text (p ∷ []) = append-nil (piece_text p)
pieces-text (p ∷ q ∷ ps) = ap (λ (w : List ℕ). piece_text p ++ w) (pieces-text (q ∷ ps))

-- a piece weighs no more than all of them
pub weight-at : (ps : List Piece) (i : ℕ) (d : Piece) → i < length ps → weight (get_or ps i d) ≤ weights ps
weight-at [] i d lt = absurd (omega arith)
weight-at (p ∷ ps) zero d lt = omega arith
weight-at (p ∷ ps) (suc i) d lt = omega (arith, weight-at ps i d (omega arith))

-- the text of a field of a type
abbrev pub ty_field_text : ℕ → Label × Ty → List ℕ
ty_field_text n x = field_text x.0 (counted_ty n x.1)

-- fields of types written one by one are the text of their row
pub ty_fields-text : (n : ℕ) (xs : Pairs) → flat_map (ty_field_text n) xs ≡ counted_row n (row xs)
unfolding ◌then◌
ty_fields-text n [] = refl
ty_fields-text n (x ∷ xs) = ap (λ (w : List ℕ). ty_field_text n x ++ w) (ty_fields-text n xs) ∙ simp append_assoc

-- a field's type is smaller than the row
pub ty_field-size : (xs : Pairs) (i : ℕ) (d : Label × Ty) → i < length xs → ty_size (get_or xs i d).1 + 1 ≤ row_size (row xs)
ty_field-size [] i d lt = absurd (omega arith)
ty_field-size (x ∷ xs) zero d lt = omega arith
ty_field-size (x ∷ xs) (suc i) d lt = omega (arith, ty_field-size xs i d (omega arith))

-- the text of a field of a term
abbrev pub term_field_text : (n m : ℕ) → Label × Term → List ℕ
term_field_text n m x = field_text x.0 (counted_term n m x.1)

-- fields of terms written one by one are the text of their row
pub term_fields-text : (n m : ℕ) (xs : TermPairs) → flat_map (term_field_text n m) xs ≡ counted_term_row n m (term_row xs)
unfolding ◌then◌
term_fields-text n m [] = refl
term_fields-text n m (x ∷ xs) =
    ap (λ (w : List ℕ). term_field_text n m x ++ w) (term_fields-text n m xs) ∙ simp append_assoc

-- a field's term is smaller than the row
pub term_field-size : (xs : TermPairs) (i : ℕ) (d : Label × Term) → i < length xs → term_size (get_or xs i d).1 + 1 ≤ term_row_size (term_row xs)
term_field-size [] i d lt = absurd (omega arith)
term_field-size (x ∷ xs) zero d lt = omega arith
term_field-size (x ∷ xs) (suc i) d lt = omega (arith, term_field-size xs i d (omega arith))
