use Rattle.std.proofs.Common.{◌≡◌, ◌++◌}
use Rattle.sig_rules.proofs.name_set.NameSet.list.Given as goal

abbrev pub invariant-loop-name : goal.invariant-loop-name
invariant-loop-name l = l.list ++ l.name-iterator ≡ l.initial.name-iterator
