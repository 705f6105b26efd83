use Rattle.semantic_sigs.specs.Inner.Entries.{entry_of}
use Rattle.semantic_sigs.proofs.SlotSteps.{forgotten, is-module, is-type, is-value}
use Rattle.semantic_sigs.proofs.env.forget_entry.Goals as goal

pub returns-in-Named : goal.returns-in-Named
returns-in-Named c = forgotten c.args.kinds.now.items c.args.places.now c.restore_place.new.places c.in-Named.name c.args.hidden (entry_of c.args.entry.now) (is-module c.args.entry.now c.in-Named.name _ c.in-Named.is) c.restore_place.ensures

pub returns-in-Value : goal.returns-in-Value
returns-in-Value c = forgotten c.args.kinds.now.items c.args.places.now c.restore_place-in-Value.new.places c.in-Value.name c.args.hidden (entry_of c.args.entry.now) (is-value c.args.entry.now c.in-Value.name _ c.in-Value.is) c.restore_place-in-Value.ensures

pub returns-in-TypeParam : goal.returns-in-TypeParam
returns-in-TypeParam c = forgotten c.args.kinds.now.items c.args.places.now c.restore_place-in-TypeParam.new.places c.in-TypeParam.name c.args.hidden (entry_of c.args.entry.now) (is-type c.args.entry.now c.in-TypeParam.name c.in-TypeParam.is) c.restore_place-in-TypeParam.ensures
