use Rattle.std.proofs.Common.{refl}
use Rattle.elab_rules.proofs.Newness.{new-step, old-here, not-true}
use Rattle.elab_rules.proofs.naming.is_new.Goals as goal

pub returns-then-same_name : goal.returns-then-same_name
returns-then-same_name g c = (λ h. absurd cc, λ n. absurd (old-here c.args.name.now c.loop-part.part-index c.args.done.now c.part-item.result c.loop-part-test.true c.part-item.is (c.if-same_name.ensures.0 refl) n))

pub loop-part-preserved : goal.loop-part-preserved
loop-part-preserved g c = new-step c.args.name.now c.loop-part.part-index c.args.done.now c.part-item.result c.loop-part-test.true c.part-item.is c.loop-part.invariant (not-true c.if-same_name.ensures.1)
