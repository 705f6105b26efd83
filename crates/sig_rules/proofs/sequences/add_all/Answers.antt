use Rattle.sig_rules.proofs.Merging.{more-follow}
use Rattle.sig_rules.proofs.sequences.add_all.Goals as goal

pub add-requires : goal.add-requires
add-requires c = more-follow c.args.fields.now c.args.more.now c.loop-field.fields c.loop-field.field-index c.field-item.result c.loop-field-test.true c.field-item.is c.requires c.loop-field.invariant
