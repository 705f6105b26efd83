-- Steps and pieces, one after the other.
-- Main results: items-text, pieces-text.
use Rattle.std.proofs.Common.{◌≡◌, ℕ, zero, suc, ◌<◌, List, [], ◌∷◌, ◌++◌, length, get_or, map, refl, ap, ◌∙◌, append_assoc, arith}
use Rattle.std.specs.Prelude.{flat_map, codes}
use Rattle.std.proofs.lemmas.List.{append-nil}
use Rattle.omega_kinds.specs.Text.{◌then◌}
use Rattle.semantic_sigs.specs.Inner.Items.{item_of}
use Rattle.semantic_sigs.specs.declared.path.Item.{Item as CodeItem}
use Rattle.fing_refusals.specs.declared.pieces.Piece.{Piece}
use Rattle.fing_refusals.specs.Line.{item_text, more_items_text}
use Rattle.fing_refusals.specs.Inner.Pieces.{piece_text, pieces_text, PieceInScope, PiecesInScope}

-- a step of a path after a dot
abbrev pub dotted_text : CodeItem → List ℕ
dotted_text a = codes "." then item_text (item_of a)

-- the steps of a path written one by one, each after a dot, are the text of the steps
pub items-text : (p : List CodeItem) → flat_map dotted_text p ≡ more_items_text (map item_of p)
unfolding ◌then◌
items-text [] = refl
items-text (a ∷ p) = ap (λ (w : List ℕ). dotted_text a ++ w) (items-text p) ∙ simp append_assoc

-- pieces written one by one are the text of the pieces
pub pieces-text : (ps : List Piece) → flat_map piece_text ps ≡ pieces_text ps
unfolding ◌then◌
pieces-text [] = refl
pieces-text (p ∷ []) = append-nil (piece_text p)
pieces-text (p ∷ q ∷ ps) = ap (λ (w : List ℕ). piece_text p ++ w) (pieces-text (q ∷ ps))

-- a piece of pieces in scope is in scope
pub scope-at : (ps : List Piece) (i : ℕ) (d : Piece) → i < length ps → PiecesInScope ps → PieceInScope (get_or ps i d)
scope-at [] i d lt s = absurd (omega arith)
scope-at (p ∷ ps) zero d lt s = s.0
scope-at (p ∷ ps) (suc i) d lt s = scope-at ps i d (omega arith) s.1
