use Rattle.sig_match.proofs.MadeSteps.{hold-at}
use Rattle.sig_match.proofs.made.known.Goals as goal

pub returns-then-same_key : goal.returns-then-same_key
returns-then-same_key c = hold-at c.args.made.now c.one-item.result c.loop-one.one-index c.args.key.now c.requires c.loop-one-test.true c.one-item.is (c.same_key.ensures.0 c.if-same_key.true)
