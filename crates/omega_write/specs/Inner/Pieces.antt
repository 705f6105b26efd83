-- The texts of pieces.
use Rattle.std.specs.Prelude.{ℕ, List, [], ◌∷◌, codes, decimal, flat_map}
use Rattle.omega_kinds.specs.Text.{◌then◌}
use Rattle.omega_kinds.specs.View.{kind_tree}
use Rattle.omega_kinds.specs.declared.label.Label.{Label}
use Rattle.omega_types.specs.Fields.{row}
use Rattle.omega_terms.specs.Fields.{term_row}
use Rattle.omega_terms.specs.KindText.{kind_text, label_text}
use Rattle.omega_terms.specs.TermText.{byte_text}
use Rattle.omega_write.specs.declared.trees.Piece.{Piece}
use Rattle.omega_write.specs.declared.trees.Piece.TheVariants as piece
use Rattle.omega_write.specs.Inner.Counted.{counted_ty, counted_row, counted_term, counted_term_row}

abbrev pub piece_text : Piece → List ℕ
piece_text (piece.Bytes b) = b.now
piece_text (piece.Number n) = decimal n
piece_text (piece.Text b) = flat_map byte_text b.now
piece_text (piece.Label l) = label_text l.now
piece_text (piece.Kind k) = kind_text (kind_tree k.now)
piece_text (piece.Ty n t) = counted_ty n t.now
piece_text (piece.TyFields n f) = counted_row n (row f.now)
piece_text (piece.Term here e) = counted_term here.types here.terms e.now
piece_text (piece.TermFields here f) = counted_term_row here.types here.terms (term_row f.now)

abbrev pub pieces_text : List Piece → List ℕ
pieces_text [] = []
pieces_text (p ∷ []) = piece_text p
pieces_text (p ∷ q ∷ ps) = piece_text p then pieces_text (q ∷ ps)

-- forms of one part, or of fields, and of two and of three parts
abbrev pub one_text : (front part : List ℕ) → List ℕ
one_text front part = front then part then codes ")"

abbrev pub two_text : (front first second : List ℕ) → List ℕ
two_text front first second = front then first then codes " " then second then codes ")"

abbrev pub three_text : (front first second third : List ℕ) → List ℕ
three_text front first second third =
    front then first then codes " " then second then codes " " then third then codes ")"

-- a case, whose branches each begin with a space
abbrev pub case_text : (whole ty branches : List ℕ) → List ℕ
case_text whole ty branches = codes "(case " then whole then codes " " then ty then branches then codes ")"

-- a field of a record or a branch of a case, whose part has this text
abbrev pub field_text : Label → (part : List ℕ) → List ℕ
field_text l part = two_text (codes " (") (label_text l) part
