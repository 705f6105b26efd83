use Rattle.packages.proofs.Steps.{barred-none}
use Rattle.packages.proofs.first.is_barred.Goals as goal

pub returns-then-bound-index : goal.returns-then-bound-index
returns-then-bound-index c =
    barred-none c.args.places.now c.loop-place.place-index c.loop-place.index c.bound.result c.args.param.now _ c.bound.ensures c.if-bound-index.true c.loop-place.invariant
