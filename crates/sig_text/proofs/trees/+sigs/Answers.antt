use Rattle.std.proofs.Common.{ℕ, List, ap, subst, sym, arith}
use Rattle.fing_text.specs.Writes.{Grew, Broke}
use Rattle.fing_text.proofs.InARow.{broke-next, grew-all}
use Rattle.omega_kinds.specs.Name.{Name}
use Rattle.sig_definitions.specs.Signatures.Sig.{Sig}
use Rattle.semantic_sigs.specs.Inner.Fields.{SigPairs, sig_row}
use Rattle.semantic_sigs.specs.Inner.Size.{sig_nodes, sig_row_nodes}
use Rattle.omega_write.proofs.Loops.{wrote-err}
use Rattle.sig_text.specs.declared.trees.Piece.{Piece}
use Rattle.sig_text.specs.Inner.Pieces.{piece_text, pieces_text, PieceInScope}
use Rattle.sig_text.specs.Inner.SigInScope.{SigInScope, SigRowInScope}
use Rattle.sig_text.specs.SigText.{sig_row_text}
use Rattle.sig_text.proofs.Loops.{pieces-text, weight, weight-at, scope-at, pair_text, fields-text, field-size, field-scope}
use Rattle.sig_text.proofs.trees.+sigs.Goals as goal

pub write_pieces-returns : goal.write_pieces-returns
write_pieces-returns g t c =
    subst (λ (w : List ℕ). Grew (g.K.Sink.told c.args.sink.now) (g.K.Sink.told c.loop-piece.sink) w) (pieces-text c.args.pieces.now) (grew-all piece_text c.args.pieces.now c.loop-piece.piece-index _ _ c.loop-piece-test.false c.loop-piece.invariant)

pub write_pieces-returns-in_err-write_piece : goal.write_pieces-returns-in_err-write_piece
write_pieces-returns-in_err-write_piece g t c =
    let ps = c.args.pieces.now in
    let i = c.loop-piece.piece-index in
    let d = c.piece-item.result in
    let a = g.K.Sink.told c.args.sink.now in
    let b = g.K.Sink.told c.loop-piece.sink in
    let e = g.K.Sink.told c.write_piece.new.sink in
    let broke = subst (λ (p : Piece). Broke b e (piece_text p)) c.piece-item.is c.in_err-write_piece.ensures in
    let all = subst (λ (w : List ℕ). Broke a e w) (pieces-text ps) (broke-next piece_text ps i d a b e c.loop-piece-test.true c.loop-piece.invariant broke) in
    wrote-err a e (pieces_text ps) c.from_residual.result c.from_residual.ensures.0 all

pub write_pieces-write_piece-requires : goal.write_pieces-write_piece-requires
write_pieces-write_piece-requires g t c κs within =
    let ps = c.args.pieces.now in
    let i = c.loop-piece.piece-index in
    let d = c.piece-item.result in
    let here = c.loop-piece-test.true in
    (omega (arith, weight-at ps i d here, ap weight c.piece-item.is, c.decreases), (within, subst (λ (p : Piece). PieceInScope p) (sym c.piece-item.is) (scope-at ps i d here c.requires)))

pub write_fields-write_field-requires : goal.write_fields-write_field-requires
write_fields-write_field-requires g t c κs within =
    let xs = c.items-field-items.result.now in
    let i = c.loop-field.field-index in
    let d = c.field-item.result in
    let here = c.loop-field-test.true in
    (omega (arith, field-size xs i d here, ap (λ (ys : SigPairs). sig_row_nodes (sig_row ys)) c.items-field-items.ensures.value, ap (λ (x : Name × Sig). sig_nodes x.1) c.field-item.is, c.decreases), (within, subst (λ (x : Name × Sig). SigInScope c.args.types x.1) (sym c.field-item.is) (field-scope c.args.types xs i d here (subst (λ (ys : SigPairs). SigRowInScope c.args.types (sig_row ys)) (sym c.items-field-items.ensures.value) c.requires))))

pub write_fields-returns : goal.write_fields-returns
write_fields-returns g t c =
    let n = c.args.types in
    let xs = c.items-field-items.result.now in
    let a = g.K.Sink.told c.args.sink.now in
    let b = g.K.Sink.told c.loop-field.sink in
    let all = subst (λ (w : List ℕ). Grew a b w) (fields-text n xs) (grew-all (pair_text n) xs c.loop-field.field-index a b c.loop-field-test.false c.loop-field.invariant) in
    subst (λ (ys : SigPairs). Grew a b (sig_row_text n (sig_row ys))) c.items-field-items.ensures.value all

pub write_fields-returns-in_err-write_field : goal.write_fields-returns-in_err-write_field
write_fields-returns-in_err-write_field g t c =
    let n = c.args.types in
    let xs = c.items-field-items.result.now in
    let i = c.loop-field.field-index in
    let d = c.field-item.result in
    let a = g.K.Sink.told c.args.sink.now in
    let b = g.K.Sink.told c.loop-field.sink in
    let e = g.K.Sink.told c.write_field.new.sink in
    let broke = subst (λ (x : Name × Sig). Broke b e (pair_text n x)) c.field-item.is c.in_err-write_field.ensures in
    let all = subst (λ (w : List ℕ). Broke a e w) (fields-text n xs) (broke-next (pair_text n) xs i d a b e c.loop-field-test.true c.loop-field.invariant broke) in
    wrote-err a e (sig_row_text n (sig_row c.args.fields.now)) c.from_residual.result c.from_residual.ensures.0 (subst (λ (ys : SigPairs). Broke a e (sig_row_text n (sig_row ys))) c.items-field-items.ensures.value all)
