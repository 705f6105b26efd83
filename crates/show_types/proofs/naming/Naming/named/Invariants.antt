use Rattle.std.proofs.Common.{◌≡◌, ◌-◌, ◌+◌, length}
use Rattle.show_types.proofs.naming.Naming.named.Given as goal

abbrev pub invariant-loop-name : goal.invariant-loop-name
invariant-loop-name l = length l.naming ≡ length l.yielded

abbrev pub invariant-loop : goal.invariant-loop
invariant-loop l = length l.naming ≡ l.counter + (l.count - l.more)
