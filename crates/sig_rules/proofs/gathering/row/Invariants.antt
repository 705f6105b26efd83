use Rattle.std.proofs.Common.{◌≡◌, ◌++◌}
use Rattle.sig_rules.proofs.gathering.row.Given as goal

abbrev pub invariant-loop-name : goal.invariant-loop-name
invariant-loop-name l = l.fields ++ l.name-iterator ≡ l.parts.entries
