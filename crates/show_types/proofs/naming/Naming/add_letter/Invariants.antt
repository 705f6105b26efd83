use Rattle.std.proofs.Common.{◌≡◌}
use Rattle.show_types.proofs.naming.Naming.add_letter.Given as goal

abbrev pub invariant-loop-letter : goal.invariant-loop-letter
invariant-loop-letter l = l.self ≡ l.initial.self
