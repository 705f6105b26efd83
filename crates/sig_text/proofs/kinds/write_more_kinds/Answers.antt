use Rattle.std.proofs.Common.{ℕ, List, subst, map}
use Rattle.fing_text.specs.Writes.{Grew, Broke}
use Rattle.fing_text.proofs.InARow.{grew-next, broke-next, grew-all}
use Rattle.omega_kinds.specs.View.{kind_tree}
use Rattle.omega_kinds.specs.declared.kind.Kind.{Kind as SharedKind}
use Rattle.omega_write.proofs.Loops.{wrote-err}
use Rattle.sig_text.specs.SigText.{more_kinds_text}
use Rattle.sig_text.proofs.Loops.{spaced_text, kinds-text}
use Rattle.sig_text.proofs.kinds.write_more_kinds.Goals as goal

pub loop-kind-preserved : goal.loop-kind-preserved
loop-kind-preserved g c =
    let b = g.K.Sink.told c.loop-kind.sink in
    let e = g.K.Sink.told c.write_spaced.new.sink in
    grew-next spaced_text c.args.kinds.now c.loop-kind.kind-index c.kind-item.result (g.K.Sink.told c.args.sink.now) b e c.loop-kind-test.true c.loop-kind.invariant (subst (λ (k : SharedKind). Grew b e (spaced_text k)) c.kind-item.is c.in_ok-write_spaced.ensures)

pub returns-in_err-write_spaced : goal.returns-in_err-write_spaced
returns-in_err-write_spaced g c =
    let ks = c.args.kinds.now in
    let a = g.K.Sink.told c.args.sink.now in
    let b = g.K.Sink.told c.loop-kind.sink in
    let e = g.K.Sink.told c.write_spaced.new.sink in
    let broke = subst (λ (k : SharedKind). Broke b e (spaced_text k)) c.kind-item.is c.in_err-write_spaced.ensures in
    let all = subst (λ (w : List ℕ). Broke a e w) (kinds-text ks) (broke-next spaced_text ks c.loop-kind.kind-index c.kind-item.result a b e c.loop-kind-test.true c.loop-kind.invariant broke) in
    wrote-err a e (more_kinds_text (map kind_tree ks)) c.from_residual.result c.from_residual.ensures.0 all

pub returns : goal.returns
returns g c =
    subst (λ (w : List ℕ). Grew (g.K.Sink.told c.args.sink.now) (g.K.Sink.told c.loop-kind.sink) w) (kinds-text c.args.kinds.now) (grew-all spaced_text c.args.kinds.now c.loop-kind.kind-index _ _ c.loop-kind-test.false c.loop-kind.invariant)
