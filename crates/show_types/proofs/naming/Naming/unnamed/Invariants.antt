use Rattle.std.proofs.Common.{◌≡◌, None, replicate}
use Rattle.show_types.proofs.naming.Naming.unnamed.Given as goal

abbrev pub invariant-loop : goal.invariant-loop
invariant-loop l = l.naming ≡ replicate l.counter None
