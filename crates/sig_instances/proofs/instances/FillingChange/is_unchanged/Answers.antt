use Rattle.semantic_sigs.specs.Inner.Changes.{putting}
use Rattle.sig_instances.proofs.InstanceSteps.{walk-closed}
use Rattle.sig_instances.proofs.instances.FillingChange.is_unchanged.Goals as goal

pub returns : goal.returns
returns c closed = walk-closed (putting c.args.self.now.types.now) c.args.inner.types c.args.inner.terms c.args.term.now (c.is_closed.ensures.0 closed)
