-- The texts of pieces, what must be in scope in them, and the text of a reason that may be none.
use Rattle.std.specs.Prelude.{ℕ, List, [], ◌∷◌, Option, Some, None, codes, decimal}
use Rattle.omega_kinds.specs.Text.{◌then◌}
use Rattle.omega_kinds.specs.View.{kind_tree}
use Rattle.omega_terms.specs.InScope.{TyInScope}
use Rattle.omega_terms.specs.KindText.{kind_text}
use Rattle.omega_terms.specs.TypeText.{ty_text}
use Rattle.fing_syntax.specs.Phrase.{Span}
use Rattle.refusal_reasons.specs.Refusal.{ElabWhy}
use Rattle.fing_refusals.specs.declared.pieces.Piece.{Piece}
use Rattle.fing_refusals.specs.declared.pieces.Piece.TheVariants as piece
use Rattle.fing_refusals.specs.Line.{front_text, path_text, reason_text}
use Rattle.fing_refusals.specs.Inner.InScope.{ReasonInScope}

abbrev pub piece_text : Piece → List ℕ
piece_text (piece.Bytes b) = b.now
piece_text (piece.Number n) = decimal n
piece_text (piece.Kind k) = kind_text (kind_tree k.now)
piece_text (piece.Path p) = path_text p.now
piece_text (piece.Ty n t) = ty_text n t.now

abbrev pub pieces_text : List Piece → List ℕ
pieces_text [] = []
pieces_text (p ∷ []) = piece_text p
pieces_text (p ∷ q ∷ ps) = piece_text p then pieces_text (q ∷ ps)

abbrev pub PieceInScope : Piece → Type 0
PieceInScope (piece.Ty n t) = TyInScope n t.now
PieceInScope _ = Unit {0}

abbrev pub PiecesInScope : List Piece → Type 0
PiecesInScope [] = Unit {0}
PiecesInScope (p ∷ ps) = PieceInScope p × PiecesInScope ps

-- a reason that may be none, with n type variables in scope
abbrev pub given_text : ℕ → Option ElabWhy → List ℕ
given_text n (Some why) = reason_text n why
given_text n None = []

abbrev pub GivenInScope : ℕ → Option ElabWhy → Type 0
GivenInScope n (Some why) = ReasonInScope n why
GivenInScope n None = ⊥

abbrev pub whole_text : Span → ℕ → Option ElabWhy → List ℕ
whole_text at n given = front_text at then given_text n given then codes "\n"
