use Rattle.std.proofs.Common.{ℕ, ◌<◌}
use Rattle.unit_judgments.specs.Link.{Differs}
use Rattle.fing_units.specs.Inner.Units.{units_of}
use Rattle.fing_units.proofs.linking.first_foreign.Given as goal

abbrev pub invariant-loop-at : goal.invariant-loop-at
invariant-loop-at l = (m : ℕ) → m < l.at → Differs (units_of l.units) m → ⊥
