use Rattle.applicative_functors.proofs.Lifted.{witnesses-end}
use Rattle.applicative_functors.proofs.lifting.lift_witness.Goals as goal

pub returns-clause-normal : goal.returns-clause-normal
returns-clause-normal c =
    witnesses-end c.args.kinds.now c.args.types.now c.loop-ty.lifted c.loop-ty.ty-index c.loop-ty-test.false c.loop-ty.invariant
