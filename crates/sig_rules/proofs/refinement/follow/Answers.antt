use Rattle.sig_rules.proofs.Following.{lacks, path-done, step-into, step-lost}
use Rattle.sig_rules.proofs.refinement.follow.Goals as goal

pub returns-in-None : goal.returns-in-None
returns-in-None c = step-lost c.loop-name.here.now c.args.sig.now c.args.path.now c.loop-name.name-index c.name-item.result c.loop-name-test.true c.name-item.is (lacks c.loop-name.here.now c.name-item.result c.in-None.ensures) c.loop-name.invariant

pub loop-name-preserved : goal.loop-name-preserved
loop-name-preserved c = step-into c.loop-name.here.now c.in-Some.inner.now c.args.sig.now c.args.path.now c.loop-name.name-index c.name-item.result c.loop-name-test.true c.name-item.is c.in-Some.ensures c.loop-name.invariant

pub returns : goal.returns
returns c = path-done c.loop-name.here.now c.args.sig.now c.args.path.now c.loop-name.name-index c.loop-name-test.false c.loop-name.invariant
