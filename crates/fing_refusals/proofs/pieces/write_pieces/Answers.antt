use Rattle.std.proofs.Common.{ℕ, List, subst, sym}
use Rattle.fing_text.specs.Writes.{Grew, Broke}
use Rattle.fing_text.proofs.InARow.{broke-next, grew-all}
use Rattle.omega_write.proofs.Loops.{wrote-err}
use Rattle.fing_refusals.specs.declared.pieces.Piece.{Piece}
use Rattle.fing_refusals.specs.Inner.Pieces.{piece_text, pieces_text, PieceInScope}
use Rattle.fing_refusals.proofs.Loops.{pieces-text, scope-at}
use Rattle.fing_refusals.proofs.pieces.write_pieces.Goals as goal

pub returns : goal.returns
returns g c =
    subst (λ (w : List ℕ). Grew (g.K.Sink.told c.args.sink.now) (g.K.Sink.told c.loop-piece.sink) w) (pieces-text c.args.pieces.now) (grew-all piece_text c.args.pieces.now c.loop-piece.piece-index _ _ c.loop-piece-test.false c.loop-piece.invariant)

pub returns-in_err-write_piece : goal.returns-in_err-write_piece
returns-in_err-write_piece g c =
    let ps = c.args.pieces.now in
    let i = c.loop-piece.piece-index in
    let d = c.piece-item.result in
    let a = g.K.Sink.told c.args.sink.now in
    let b = g.K.Sink.told c.loop-piece.sink in
    let e = g.K.Sink.told c.write_piece.new.sink in
    let broke = subst (λ (p : Piece). Broke b e (piece_text p)) c.piece-item.is c.in_err-write_piece.ensures in
    let all = subst (λ (w : List ℕ). Broke a e w) (pieces-text ps) (broke-next piece_text ps i d a b e c.loop-piece-test.true c.loop-piece.invariant broke) in
    wrote-err a e (pieces_text ps) c.from_residual.result c.from_residual.ensures.0 all

pub write_piece-requires : goal.write_piece-requires
write_piece-requires g c =
    subst (λ (p : Piece). PieceInScope p) (sym c.piece-item.is) (scope-at c.args.pieces.now c.loop-piece.piece-index c.piece-item.result c.loop-piece-test.true c.requires)
