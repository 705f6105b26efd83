use Rattle.std.proofs.Common.{ℕ, List, subst, map}
use Rattle.fing_text.specs.Writes.{Grew, Broke}
use Rattle.fing_text.proofs.InARow.{grew-next, broke-next, grew-all}
use Rattle.semantic_sigs.specs.Inner.Items.{item_of}
use Rattle.semantic_sigs.specs.declared.path.Item.{Item as CodeItem}
use Rattle.omega_write.proofs.Loops.{wrote-err}
use Rattle.fing_refusals.specs.Line.{more_items_text}
use Rattle.fing_refusals.proofs.Loops.{dotted_text, items-text}
use Rattle.fing_refusals.proofs.path.write_more_items.Goals as goal

pub loop-item-preserved : goal.loop-item-preserved
loop-item-preserved g c =
    let b = g.K.Sink.told c.loop-item.sink in
    let e = g.K.Sink.told c.write_dotted.new.sink in
    grew-next dotted_text c.args.items.now c.loop-item.item-index c.item-item.result (g.K.Sink.told c.args.sink.now) b e c.loop-item-test.true c.loop-item.invariant (subst (λ (k : CodeItem). Grew b e (dotted_text k)) c.item-item.is c.in_ok-write_dotted.ensures)

pub returns-in_err-write_dotted : goal.returns-in_err-write_dotted
returns-in_err-write_dotted g c =
    let ks = c.args.items.now in
    let a = g.K.Sink.told c.args.sink.now in
    let b = g.K.Sink.told c.loop-item.sink in
    let e = g.K.Sink.told c.write_dotted.new.sink in
    let broke = subst (λ (k : CodeItem). Broke b e (dotted_text k)) c.item-item.is c.in_err-write_dotted.ensures in
    let all = subst (λ (w : List ℕ). Broke a e w) (items-text ks) (broke-next dotted_text ks c.loop-item.item-index c.item-item.result a b e c.loop-item-test.true c.loop-item.invariant broke) in
    wrote-err a e (more_items_text (map item_of ks)) c.from_residual.result c.from_residual.ensures.0 all

pub returns : goal.returns
returns g c =
    subst (λ (w : List ℕ). Grew (g.K.Sink.told c.args.sink.now) (g.K.Sink.told c.loop-item.sink) w) (items-text c.args.items.now) (grew-all dotted_text c.args.items.now c.loop-item.item-index _ _ c.loop-item-test.false c.loop-item.invariant)
