use Rattle.std.proofs.Common.{◌≡◌, drop}
use Rattle.omega_terms.specs.Shorthands.{insts}
use Rattle.omega_shorthands.proofs.shorthands.insts.Given as goal

abbrev pub invariant-loop-ty : goal.invariant-loop-ty
invariant-loop-ty l = insts l.applied (drop l.ty-index l.types) ≡ insts l.fn.term l.types
