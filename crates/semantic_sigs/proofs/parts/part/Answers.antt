use Rattle.semantic_sigs.proofs.PartSteps.{step-into, step-lost, path-done}
use Rattle.semantic_sigs.proofs.parts.part.Goals as goal

pub returns-in-None : goal.returns-in-None
returns-in-None c =
    step-lost c.loop-name.here.now c.args.sig.now c.args.path.now c.loop-name.name-index c.name-item.result c.loop-name-test.true c.name-item.is c.in-None.ensures c.loop-name.invariant

pub loop-name-preserved : goal.loop-name-preserved
loop-name-preserved c =
    let e = c.in-Some.ensures in
    step-into c.loop-name.here.now c.in-Some.inner.now c.args.sig.now c.args.path.now c.loop-name.name-index c.name-item.result e.0 c.loop-name-test.true c.name-item.is e.1 e.2 c.loop-name.invariant

pub returns : goal.returns
returns c =
    path-done c.loop-name.here.now c.args.sig.now c.args.path.now c.loop-name.name-index c.loop-name-test.false c.loop-name.invariant
