use Rattle.std.proofs.Common.{take}
use Rattle.std.specs.Prelude.{flat_map}
use Rattle.fing_text.specs.Writes.{Grew}
use Rattle.fing_refusals.specs.Inner.Pieces.{piece_text}
use Rattle.fing_refusals.proofs.pieces.write_pieces.Given as goal

abbrev pub invariant-loop-piece : goal.invariant-loop-piece
invariant-loop-piece g l =
    Grew (g.K.Sink.told l.initial.sink) (g.K.Sink.told l.sink) (flat_map piece_text (take l.piece-index l.pieces))
