-- Kinds, pieces and fields, one after the other.
-- Main results: kinds-text, pieces-text, fields-text.
use Rattle.std.proofs.Common.{◌≡◌, ℕ, zero, suc, ◌+◌, ◌*◌, ◌<◌, ◌≤◌, List, [], ◌∷◌, ◌++◌, length, get_or, map, refl, ap, ◌∙◌, append_assoc, arith}
use Rattle.std.specs.Prelude.{flat_map, codes}
use Rattle.std.proofs.lemmas.List.{append-nil}
use Rattle.omega_kinds.specs.Text.{◌then◌}
use Rattle.omega_kinds.specs.Name.{Name}
use Rattle.omega_kinds.specs.View.{kind_tree}
use Rattle.omega_kinds.specs.declared.kind.Kind.{Kind as SharedKind}
use Rattle.omega_terms.specs.KindText.{kind_text}
use Rattle.sig_definitions.specs.Signatures.Sig.{Sig}
use Rattle.semantic_sigs.specs.Inner.Fields.{SigPairs, sig_row}
use Rattle.semantic_sigs.specs.Inner.Size.{sig_nodes, abs_nodes, sig_row_nodes}
use Rattle.sig_text.specs.declared.trees.Piece.{Piece}
use Rattle.sig_text.specs.declared.trees.Piece.TheVariants as piece
use Rattle.sig_text.specs.Inner.Pieces.{field_text, piece_text, pieces_text, PieceInScope, PiecesInScope}
use Rattle.sig_text.specs.Inner.SigInScope.{SigInScope, SigRowInScope}
use Rattle.sig_text.specs.SigText.{more_kinds_text, sig_row_text}

-- a kind after a space
abbrev pub spaced_text : SharedKind → List ℕ
spaced_text k = codes " " then kind_text (kind_tree k)

-- kinds written one by one, each after a space, are the text of the kinds
pub kinds-text : (ks : List SharedKind) → flat_map spaced_text ks ≡ more_kinds_text (map kind_tree ks)
unfolding ◌then◌
kinds-text [] = refl
kinds-text (k ∷ ks) = ap (λ (w : List ℕ). spaced_text k ++ w) (kinds-text ks) ∙ simp append_assoc

-- pieces written one by one are the text of the pieces
pub pieces-text : (ps : List Piece) → flat_map piece_text ps ≡ pieces_text ps
unfolding ◌then◌
pieces-text [] = refl
pieces-text (p ∷ []) = append-nil (piece_text p)
pieces-text (p ∷ q ∷ ps) = ap (λ (w : List ℕ). piece_text p ++ w) (pieces-text (q ∷ ps))

-- how much is in a piece yet: four for each node, and one for the call of the piece
abbrev pub weight : Piece → ℕ
weight (piece.Bytes b) = 0
weight (piece.Kind k) = 0
weight (piece.Kinds ks) = 0
weight (piece.Ty n t) = 0
weight (piece.Sig n s) = 4 * sig_nodes s.now + 1
weight (piece.Abs n x) = 4 * abs_nodes x.now + 1
weight (piece.Fields n f) = 4 * sig_row_nodes (sig_row f.now) + 1

-- the weight of pieces that are still to be written
abbrev pub weights : List Piece → ℕ
weights [] = 0
weights (p ∷ ps) = weight p + weights ps

-- a piece weighs no more than all of them
pub weight-at : (ps : List Piece) (i : ℕ) (d : Piece) → i < length ps → weight (get_or ps i d) ≤ weights ps
weight-at [] i d lt = absurd (omega arith)
weight-at (p ∷ ps) zero d lt = omega arith
weight-at (p ∷ ps) (suc i) d lt = omega (arith, weight-at ps i d (omega arith))

-- a piece of pieces in scope is in scope
pub scope-at : (ps : List Piece) (i : ℕ) (d : Piece) → i < length ps → PiecesInScope ps → PieceInScope (get_or ps i d)
scope-at [] i d lt s = absurd (omega arith)
scope-at (p ∷ ps) zero d lt s = s.0
scope-at (p ∷ ps) (suc i) d lt s = scope-at ps i d (omega arith) s.1

-- fields

-- the text of a field
abbrev pub pair_text : ℕ → Name × Sig → List ℕ
pair_text n x = field_text n x.0 x.1

-- fields written one by one are the text of their row
pub fields-text : (n : ℕ) (xs : SigPairs) → flat_map (pair_text n) xs ≡ sig_row_text n (sig_row xs)
unfolding ◌then◌
fields-text n [] = refl
fields-text n (x ∷ xs) = ap (λ (w : List ℕ). pair_text n x ++ w) (fields-text n xs) ∙ simp append_assoc

-- a field is smaller than the row
pub field-size : (xs : SigPairs) (i : ℕ) (d : Name × Sig) → i < length xs → sig_nodes (get_or xs i d).1 + 1 ≤ sig_row_nodes (sig_row xs)
field-size [] i d lt = absurd (omega arith)
field-size (x ∷ xs) zero d lt = omega arith
field-size (x ∷ xs) (suc i) d lt = omega (arith, field-size xs i d (omega arith))

-- a field of a row in scope is in scope
pub field-scope : (n : ℕ) (xs : SigPairs) (i : ℕ) (d : Name × Sig) → i < length xs → SigRowInScope n (sig_row xs) → SigInScope n (get_or xs i d).1
field-scope n [] i d lt s = absurd (omega arith)
field-scope n (x ∷ xs) zero d lt s = s.0
field-scope n (x ∷ xs) (suc i) d lt s = field-scope n xs i d (omega arith) s.1
