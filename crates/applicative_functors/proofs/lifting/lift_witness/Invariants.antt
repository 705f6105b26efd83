use Rattle.std.proofs.Common.{◌≡◌, take}
use Rattle.sig_definitions.specs.Lifting.{lifted_types}
use Rattle.applicative_functors.proofs.lifting.lift_witness.Given as goal

abbrev pub invariant-loop-ty : goal.invariant-loop-ty
invariant-loop-ty l = l.lifted ≡ lifted_types l.kinds (take l.ty-index l.types)
