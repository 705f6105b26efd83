use Rattle.sig_rules.proofs.Gathered.{put-all, put-begin, put-next}
use Rattle.sig_rules.proofs.gathering.add_fields.Goals as goal

pub loop-left-init : goal.loop-left-init
loop-left-init c = put-begin c.args.fields.now c.args.parts.now.entries

pub loop-left-preserved : goal.loop-left-preserved
loop-left-preserved c = put-next c.args.fields.now c.args.parts.now.entries c.loop-left.parts.entries c.add.new.parts.entries c.loop-left.left c.index-fields-left.result c.loop-left-test.true c.requires c.index-fields-left.is c.in_ok-add.ensures c.loop-left.invariant

pub returns : goal.returns
returns c = put-all c.args.fields.now c.args.parts.now.entries c.loop-left.parts.entries c.loop-left.left c.loop-left-test.false c.loop-left.invariant
