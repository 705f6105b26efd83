use Rattle.std.proofs.Common.{◌≡◌, drop}
use Rattle.packages.specs.Inner.First.{barred}
use Rattle.packages.proofs.first.is_barred.Given as goal

abbrev pub invariant-loop-place : goal.invariant-loop-place
invariant-loop-place l = barred (drop l.place-index l.places) l.index l.param ≡ barred l.places l.depth l.param
