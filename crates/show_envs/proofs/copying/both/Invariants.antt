use Rattle.std.proofs.Common.{◌≡◌, ◌++◌, length, map}
use Rattle.semantic_sigs.specs.Inner.Entries.{entry_of}
use Rattle.show_envs.proofs.copying.both.Given as goal

abbrev pub decreases-loop-entry : goal.decreases-loop-entry
decreases-loop-entry l = length l.left.items

-- what is left, and behind it what is built
abbrev pub invariant-loop-entry : goal.invariant-loop-entry
invariant-loop-entry l = (map entry_of l.left.items ++ l.first ≡ map entry_of l.fn.entries.items) × (l.second ≡ l.first)
