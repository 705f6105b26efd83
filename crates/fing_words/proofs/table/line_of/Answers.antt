use Rattle.std.proofs.Common.{rules}
use Rattle.fing_words.proofs.Rows.{unflagged}
use Rattle.fing_words.proofs.table.line_of.Goals as goal

pub returns-in_err-simplify : goal.returns-in_err-simplify
returns-in_err-simplify c = unflagged _ _ _ _ c.from_residual.result (search rules) (search rules)
