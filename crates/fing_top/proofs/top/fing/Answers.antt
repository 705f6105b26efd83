use Rattle.std.proofs.Common.{rules, map}
use Rattle.std.specs.String.{string_bytes}
use Rattle.fing_top.specs.Answer.{change, output}
use Rattle.fing_top.specs.declared.status.Status.TheVariants as status
use Rattle.fing_top.proofs.Answering.{nothing_handed}
use Rattle.fing_top.proofs.top.fing.Goals as goal

pub returns-in-Ok-None-clause-answers : goal.returns-in-Ok-None-clause-answers
returns-in-Ok-None-clause-answers g c =
    let none = rw c.in-Ok-None.field-0-is at c.in-Ok-None.ensures in
    (λ is. none is.0 is.1, search rules, search rules)

pub returns-in-Ok-None-clause-completes : goal.returns-in-Ok-None-clause-completes
returns-in-Ok-None-clause-completes g c =
    let source = g.S.Source.told c.args.source.now in
    let sink = g.K.Sink.told c.args.sink.now in
    let confirmed = c.args.confirmed.now in
    nothing_handed (map string_bytes c.args.words.now) (change source source) (output (change sink sink) (change confirmed confirmed)) status.Words (rw c.in-Ok-None.field-0-is at c.in-Ok-None.ensures)
