use Rattle.std.proofs.lemmas.Result.{IfOk-weaker, on_ok_weaker}
use Rattle.semantic_sigs.specs.Inner.Entries.{entry_of}
use Rattle.semantic_sigs.proofs.SlotSteps.{hidden-is, is-module, is-type, is-value, noted}
use Rattle.semantic_sigs.proofs.env.note_entry.Goals as goal

pub returns-in-Named-clause-ok : goal.returns-in-Named-clause-ok
returns-in-Named-clause-ok c = on_ok_weaker c.set_place.result (noted c.args.kinds.now.items c.args.places.now c.set_place.new.places c.in-Named.name c.args.at (entry_of c.args.entry.now) (is-module c.args.entry.now c.in-Named.name _ c.in-Named.is)) c.set_place.ensures.ok

pub returns-in-Named-clause-hidden : goal.returns-in-Named-clause-hidden
returns-in-Named-clause-hidden c = IfOk-weaker c.set_place.result _ _ (λ hidden h. hidden-is c.args.kinds.now.items c.args.places.now c.in-Named.name hidden (entry_of c.args.entry.now) (is-module c.args.entry.now c.in-Named.name _ c.in-Named.is) h) c.set_place.ensures.hidden

pub returns-in-Value-clause-ok : goal.returns-in-Value-clause-ok
returns-in-Value-clause-ok c = on_ok_weaker c.set_place-in-Value.result (noted c.args.kinds.now.items c.args.places.now c.set_place-in-Value.new.places c.in-Value.name c.args.at (entry_of c.args.entry.now) (is-value c.args.entry.now c.in-Value.name _ c.in-Value.is)) c.set_place-in-Value.ensures.ok

pub returns-in-Value-clause-hidden : goal.returns-in-Value-clause-hidden
returns-in-Value-clause-hidden c = IfOk-weaker c.set_place-in-Value.result _ _ (λ hidden h. hidden-is c.args.kinds.now.items c.args.places.now c.in-Value.name hidden (entry_of c.args.entry.now) (is-value c.args.entry.now c.in-Value.name _ c.in-Value.is) h) c.set_place-in-Value.ensures.hidden

pub returns-in-TypeParam-clause-ok : goal.returns-in-TypeParam-clause-ok
returns-in-TypeParam-clause-ok c = on_ok_weaker c.set_place-in-TypeParam.result (noted c.args.kinds.now.items c.args.places.now c.set_place-in-TypeParam.new.places c.in-TypeParam.name c.args.at (entry_of c.args.entry.now) (is-type c.args.entry.now c.in-TypeParam.name c.in-TypeParam.is)) c.set_place-in-TypeParam.ensures.ok

pub returns-in-TypeParam-clause-hidden : goal.returns-in-TypeParam-clause-hidden
returns-in-TypeParam-clause-hidden c = IfOk-weaker c.set_place-in-TypeParam.result _ _ (λ hidden h. hidden-is c.args.kinds.now.items c.args.places.now c.in-TypeParam.name hidden (entry_of c.args.entry.now) (is-type c.args.entry.now c.in-TypeParam.name c.in-TypeParam.is) h) c.set_place-in-TypeParam.ensures.hidden
