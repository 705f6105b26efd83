use Rattle.std.proofs.Common.{◌≡◌}
use Rattle.omega_terms.specs.ValueText.{inside}
use Rattle.omega_machine.proofs.shown.unpacked.Given as goal

abbrev pub invariant-loop-body : goal.invariant-loop-body
invariant-loop-body l = inside l.inner ≡ inside l.value
