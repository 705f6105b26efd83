use Rattle.std.proofs.Common.{refl}
use Rattle.fing_c.proofs.answering.answer_words.Goals as goal

pub returns-in-Ok-None-clause-returns : goal.returns-in-Ok-None-clause-returns
returns-in-Ok-None-clause-returns c =
    let none = rw c.in-Ok-None.field-0-is at c.in-Ok-None.ensures in
    (λ is. none is.0 is.1, refl)
