use Rattle.std.proofs.Common.{◌∷◌, drop}
use Rattle.module_rules.proofs.Rising.{RiseLeft}
use Rattle.module_rules.proofs.bindings.rise_from.Given as goal

abbrev pub invariant-loop-name : goal.invariant-loop-name
invariant-loop-name l = RiseLeft (l.first ∷ l.rest) l.last (drop l.name-index l.rest)
