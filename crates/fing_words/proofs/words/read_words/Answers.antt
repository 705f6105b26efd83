use Rattle.std.proofs.Common.{◌∙◌}
use Rattle.fing_words.proofs.Rows.{parsed, untaken}
use Rattle.fing_words.proofs.words.read_words.Goals as goal

pub returns-in-Ok : goal.returns-in-Ok
returns-in-Ok c = parsed _ _ _ _ c.in_ok-command.ensures c.in-Ok.ensures.matches c.in-Ok.ensures.kinds c.line_in.ensures

pub returns : goal.returns
returns c = untaken _ _ c.in_ok-command.ensures (λ t. c.in_default.not-OutOfMemory (c.kind.ensures ∙ c.in-Err.ensures.passes t))
