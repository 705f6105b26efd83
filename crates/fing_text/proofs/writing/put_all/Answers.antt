use Rattle.std.proofs.lemmas.Result.{MatchResult-from_err}
use Rattle.fing_text.proofs.InARow.{broke-next}
use Rattle.fing_text.proofs.writing.put_all.Goals as goal

pub returns-in_err-put : goal.returns-in_err-put
returns-in_err-put g c =
    MatchResult-from_err _ _ _ c.from_residual.ensures.0 (λ _. broke-next (λ piece. piece.now) c.args.pieces.now c.loop-piece.piece-index _ _ _ _ c.loop-piece-test.true c.loop-piece.invariant c.in_err-put.ensures)
