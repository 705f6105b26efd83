-- The texts of pieces, and what must be in scope in them.
use Rattle.std.specs.Prelude.{ℕ, List, [], ◌∷◌, codes}
use Rattle.omega_kinds.specs.Text.{◌then◌}
use Rattle.omega_kinds.specs.Name.{Name}
use Rattle.omega_kinds.specs.View.{kind_tree}
use Rattle.omega_terms.specs.InScope.{TyInScope}
use Rattle.omega_terms.specs.KindText.{kind_text}
use Rattle.omega_terms.specs.TypeText.{ty_text}
use Rattle.sig_definitions.specs.Signatures.Sig.{Sig}
use Rattle.semantic_sigs.specs.Inner.Fields.{sig_row}
use Rattle.sig_text.specs.declared.trees.Piece.{Piece}
use Rattle.sig_text.specs.declared.trees.Piece.TheVariants as piece
use Rattle.sig_text.specs.SigText.{kinds_text, sig_text, abs_text, sig_row_text}
use Rattle.sig_text.specs.Inner.SigInScope.{SigInScope, AbsInScope, SigRowInScope}

abbrev pub piece_text : Piece → List ℕ
piece_text (piece.Bytes b) = b.now
piece_text (piece.Kind k) = kind_text (kind_tree k.now)
piece_text (piece.Kinds ks) = kinds_text ks.now
piece_text (piece.Ty n t) = ty_text n t.now
piece_text (piece.Sig n s) = sig_text n s.now
piece_text (piece.Abs n x) = abs_text n x.now
piece_text (piece.Fields n f) = sig_row_text n (sig_row f.now)

abbrev pub pieces_text : List Piece → List ℕ
pieces_text [] = []
pieces_text (p ∷ []) = piece_text p
pieces_text (p ∷ q ∷ ps) = piece_text p then pieces_text (q ∷ ps)

abbrev pub PieceInScope : Piece → Type 0
PieceInScope (piece.Bytes b) = Unit {0}
PieceInScope (piece.Kind k) = Unit {0}
PieceInScope (piece.Kinds ks) = Unit {0}
PieceInScope (piece.Ty n t) = TyInScope n t.now
PieceInScope (piece.Sig n s) = SigInScope n s.now
PieceInScope (piece.Abs n x) = AbsInScope n x.now
PieceInScope (piece.Fields n f) = SigRowInScope n (sig_row f.now)

abbrev pub PiecesInScope : List Piece → Type 0
PiecesInScope [] = Unit {0}
PiecesInScope (p ∷ ps) = PieceInScope p × PiecesInScope ps

-- a form of one part
abbrev pub one_text : (front part : List ℕ) → List ℕ
one_text front part = front then part then codes ")"

-- a field of a structure
abbrev pub field_text : ℕ → Name → Sig → List ℕ
field_text n l s = codes " (" then l then codes " " then sig_text n s then codes ")"
