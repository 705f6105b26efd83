use Rattle.std.proofs.Common.{ℕ, List, ap, subst, arith}
use Rattle.fing_text.specs.Writes.{Grew, Broke}
use Rattle.fing_text.proofs.InARow.{broke-next, grew-all}
use Rattle.omega_kinds.specs.declared.label.Label.{Label}
use Rattle.omega_types.specs.Ty.{Ty}
use Rattle.omega_types.specs.Fields.{Pairs, row}
use Rattle.omega_terms.specs.Term.{Term}
use Rattle.omega_terms.specs.Fields.{TermPairs, term_row}
use Rattle.omega_write.specs.declared.trees.Piece.{Piece}
use Rattle.omega_write.specs.Inner.Counted.{counted_row, counted_term_row}
use Rattle.omega_write.specs.Inner.Pieces.{piece_text, pieces_text}
use Rattle.omega_write.proofs.Sizes.{weight, ty_size, row_size, term_size, term_row_size}
use Rattle.omega_write.proofs.Loops.{wrote-err, pieces-text, weight-at, ty_field_text, ty_fields-text, ty_field-size, term_field_text, term_fields-text, term_field-size}
use Rattle.omega_write.proofs.trees.+trees.Goals as goal

pub write_pieces-returns : goal.write_pieces-returns
write_pieces-returns g t c =
    subst (λ (w : List ℕ). Grew (g.K.Sink.told c.args.sink.now) (g.K.Sink.told c.loop-piece.sink) w) (pieces-text c.args.pieces.now) (grew-all piece_text c.args.pieces.now c.loop-piece.piece-index _ _ c.loop-piece-test.false c.loop-piece.invariant)

pub write_pieces-write_piece-requires : goal.write_pieces-write_piece-requires
write_pieces-write_piece-requires g t c κs within =
    let ps = c.args.pieces.now in
    let i = c.loop-piece.piece-index in
    let d = c.piece-item.result in
    let here = c.loop-piece-test.true in
    (omega (arith, weight-at ps i d here, ap weight c.piece-item.is, c.decreases), within)

pub write_pieces-returns-in_err-write_piece : goal.write_pieces-returns-in_err-write_piece
write_pieces-returns-in_err-write_piece g t c =
    let ps = c.args.pieces.now in
    let i = c.loop-piece.piece-index in
    let d = c.piece-item.result in
    let a = g.K.Sink.told c.args.sink.now in
    let b = g.K.Sink.told c.loop-piece.sink in
    let e = g.K.Sink.told c.write_piece.new.sink in
    let broke = subst (λ (p : Piece). Broke b e (piece_text p)) c.piece-item.is c.in_err-write_piece.ensures in
    let all = subst (λ (w : List ℕ). Broke a e w) (pieces-text ps) (broke-next piece_text ps i d a b e c.loop-piece-test.true c.loop-piece.invariant broke) in
    wrote-err a e (pieces_text ps) c.from_residual.result c.from_residual.ensures.0 all

pub write_ty_fields-returns : goal.write_ty_fields-returns
write_ty_fields-returns g t c =
    let n = c.args.types in
    let xs = c.items-field-items.result.now in
    let a = g.K.Sink.told c.args.sink.now in
    let b = g.K.Sink.told c.loop-field.sink in
    let all = subst (λ (w : List ℕ). Grew a b w) (ty_fields-text n xs) (grew-all (ty_field_text n) xs c.loop-field.field-index a b c.loop-field-test.false c.loop-field.invariant) in
    subst (λ (ys : Pairs). Grew a b (counted_row n (row ys))) c.items-field-items.ensures.value all

pub write_ty_fields-write_field-requires : goal.write_ty_fields-write_field-requires
write_ty_fields-write_field-requires g t c κs within =
    let xs = c.items-field-items.result.now in
    let i = c.loop-field.field-index in
    let d = c.field-item.result in
    let here = c.loop-field-test.true in
    (omega (arith, ty_field-size xs i d here, ap (λ (ys : Pairs). row_size (row ys)) c.items-field-items.ensures.value, ap (λ (x : Label × Ty). ty_size x.1) c.field-item.is, c.decreases), within)

pub write_ty_fields-returns-in_err-write_field : goal.write_ty_fields-returns-in_err-write_field
write_ty_fields-returns-in_err-write_field g t c =
    let n = c.args.types in
    let xs = c.items-field-items.result.now in
    let i = c.loop-field.field-index in
    let d = c.field-item.result in
    let a = g.K.Sink.told c.args.sink.now in
    let b = g.K.Sink.told c.loop-field.sink in
    let e = g.K.Sink.told c.write_field.new.sink in
    let broke = subst (λ (x : Label × Ty). Broke b e (ty_field_text n x)) c.field-item.is c.in_err-write_field.ensures in
    let all = subst (λ (w : List ℕ). Broke a e w) (ty_fields-text n xs) (broke-next (ty_field_text n) xs i d a b e c.loop-field-test.true c.loop-field.invariant broke) in
    wrote-err a e (counted_row n (row c.args.fields.now)) c.from_residual.result c.from_residual.ensures.0 (subst (λ (ys : Pairs). Broke a e (counted_row n (row ys))) c.items-field-items.ensures.value all)

pub write_term_fields-returns : goal.write_term_fields-returns
write_term_fields-returns g t c =
    let n = c.args.here.types in
    let m = c.args.here.terms in
    let xs = c.items-field-items.result.now in
    let a = g.K.Sink.told c.args.sink.now in
    let b = g.K.Sink.told c.loop-field.sink in
    let all = subst (λ (w : List ℕ). Grew a b w) (term_fields-text n m xs) (grew-all (term_field_text n m) xs c.loop-field.field-index a b c.loop-field-test.false c.loop-field.invariant) in
    subst (λ (ys : TermPairs). Grew a b (counted_term_row n m (term_row ys))) c.items-field-items.ensures.value all

pub write_term_fields-write_field-requires : goal.write_term_fields-write_field-requires
write_term_fields-write_field-requires g t c κs within =
    let xs = c.items-field-items.result.now in
    let i = c.loop-field.field-index in
    let d = c.field-item.result in
    let here = c.loop-field-test.true in
    (omega (arith, term_field-size xs i d here, ap (λ (ys : TermPairs). term_row_size (term_row ys)) c.items-field-items.ensures.value, ap (λ (x : Label × Term). term_size x.1) c.field-item.is, c.decreases), within)

pub write_term_fields-returns-in_err-write_field : goal.write_term_fields-returns-in_err-write_field
write_term_fields-returns-in_err-write_field g t c =
    let n = c.args.here.types in
    let m = c.args.here.terms in
    let xs = c.items-field-items.result.now in
    let i = c.loop-field.field-index in
    let d = c.field-item.result in
    let a = g.K.Sink.told c.args.sink.now in
    let b = g.K.Sink.told c.loop-field.sink in
    let e = g.K.Sink.told c.write_field.new.sink in
    let broke = subst (λ (x : Label × Term). Broke b e (term_field_text n m x)) c.field-item.is c.in_err-write_field.ensures in
    let all = subst (λ (w : List ℕ). Broke a e w) (term_fields-text n m xs) (broke-next (term_field_text n m) xs i d a b e c.loop-field-test.true c.loop-field.invariant broke) in
    wrote-err a e (counted_term_row n m (term_row c.args.fields.now)) c.from_residual.result c.from_residual.ensures.0 (subst (λ (ys : TermPairs). Broke a e (counted_term_row n m (term_row ys))) c.items-field-items.ensures.value all)
