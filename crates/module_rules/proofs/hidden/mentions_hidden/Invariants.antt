use Rattle.std.proofs.Common.{◌-◌}
use Rattle.omega_types.specs.Mentions.{Mentions}
use Rattle.module_rules.proofs.LookedFor.{NoneBelow}
use Rattle.module_rules.proofs.hidden.mentions_hidden.Given as goal

abbrev pub invariant-loop-index : goal.invariant-loop-index
invariant-loop-index l = NoneBelow (λ i. Mentions i l.ty) l.index

abbrev pub decreases-loop-index : goal.decreases-loop-index
decreases-loop-index l = l.count - l.index
