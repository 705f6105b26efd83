use Rattle.std.proofs.Common.{◌*◌, ◌+◌, take}
use Rattle.std.specs.Prelude.{flat_map}
use Rattle.fing_text.specs.Writes.{Grew}
use Rattle.semantic_sigs.specs.Inner.Fields.{sig_row}
use Rattle.semantic_sigs.specs.Inner.Size.{sig_nodes, abs_nodes, sig_row_nodes}
use Rattle.sig_text.specs.Inner.Pieces.{piece_text}
use Rattle.sig_text.proofs.Loops.{weight, weights, pair_text}
use Rattle.sig_text.proofs.trees.+sigs.Given as goal

abbrev pub decreases-write_sig : goal.decreases-write_sig
decreases-write_sig g l = 4 * sig_nodes l.sig.now

abbrev pub decreases-write_abstract : goal.decreases-write_abstract
decreases-write_abstract g l = 4 * abs_nodes l.abs.now

abbrev pub decreases-write_fields : goal.decreases-write_fields
decreases-write_fields g l = 4 * sig_row_nodes (sig_row l.fields.now)

abbrev pub decreases-write_field : goal.decreases-write_field
decreases-write_field g l = 4 * sig_nodes l.sig.now + 3

abbrev pub decreases-write_one : goal.decreases-write_one
decreases-write_one g l = weight l.part + 2

abbrev pub decreases-write_pieces : goal.decreases-write_pieces
decreases-write_pieces g l = weights l.pieces.now + 1

abbrev pub decreases-write_piece : goal.decreases-write_piece
decreases-write_piece g l = weight l.piece.now

abbrev pub invariant-write_fields-loop-field : goal.invariant-write_fields-loop-field
invariant-write_fields-loop-field g l =
    Grew (g.K.Sink.told l.initial.sink) (g.K.Sink.told l.sink) (flat_map (pair_text l.types) (take l.field-index l.field-items))

abbrev pub invariant-write_pieces-loop-piece : goal.invariant-write_pieces-loop-piece
invariant-write_pieces-loop-piece g l =
    Grew (g.K.Sink.told l.initial.sink) (g.K.Sink.told l.sink) (flat_map piece_text (take l.piece-index l.pieces))
