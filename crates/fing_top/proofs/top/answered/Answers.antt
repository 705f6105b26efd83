use Rattle.std.proofs.Common.{ℕ, List, sym, subst}
use Rattle.fing_top.specs.Answer.{Takes, change, output}
use Rattle.fing_top.proofs.Answering.{answers, completes}
use Rattle.fing_top.proofs.Emitted.{hands_out}
use Rattle.fing_top.proofs.top.answered.Goals as goal

pub returns-in-Ok-clause-answers : goal.returns-in-Ok-clause-answers
returns-in-Ok-clause-answers g c = λ words line.
    answers words (change (g.S.Source.told c.args.source.now) (g.S.Source.told c.taken.new.source))
    (output (change (g.K.Sink.told c.args.sink.now) (g.K.Sink.told c.reply-status.new.sink)) (change c.args.confirmed.now c.reply-status.new.confirmed))
    c.args.command c.deref.result.now c.reply-status.result line
    (subst (λ (bytes : List ℕ). Takes c.args.command (change (g.S.Source.told c.args.source.now) (g.S.Source.told c.taken.new.source)) bytes) (sym c.deref.ensures.value) c.in-Ok.ensures.taken)
    c.reply-status.ensures

pub returns-in-Ok-clause-completes : goal.returns-in-Ok-clause-completes
returns-in-Ok-clause-completes g c = λ words line.
    completes words (change (g.S.Source.told c.args.source.now) (g.S.Source.told c.taken.new.source))
    (output (change (g.K.Sink.told c.args.sink.now) (g.K.Sink.told c.reply-status.new.sink)) (change c.args.confirmed.now c.reply-status.new.confirmed))
    c.args.command c.deref.result.now c.reply-status.result line
    (subst (λ (bytes : List ℕ). Takes c.args.command (change (g.S.Source.told c.args.source.now) (g.S.Source.told c.taken.new.source)) bytes) (sym c.deref.ensures.value) c.in-Ok.ensures.taken)
    c.reply-status.ensures

pub returns-in-Ok-clause-reads_back : goal.returns-in-Ok-clause-reads_back
returns-in-Ok-clause-reads_back g c = λ words line.
    let source = change (g.S.Source.told c.args.source.now) (g.S.Source.told c.taken.new.source) in
    let out = output (change (g.K.Sink.told c.args.sink.now) (g.K.Sink.told c.reply-status.new.sink)) (change c.args.confirmed.now c.reply-status.new.confirmed) in
    let taken = subst (λ (bytes : List ℕ). Takes c.args.command source bytes) (sym c.deref.ensures.value) c.in-Ok.ensures.taken in
    hands_out words source out c.reply-status.result (answers words source out c.args.command c.deref.result.now c.reply-status.result line taken c.reply-status.ensures) c.look_at_heights.ensures
