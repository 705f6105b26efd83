use Rattle.std.proofs.Common.{◌≡◌, ◌++◌, length, map}
use Rattle.semantic_sigs.specs.Inner.Entries.{entry_of}
use Rattle.show_envs.proofs.copying.entries_of.Given as goal

abbrev pub decreases-loop-entry : goal.decreases-loop-entry
decreases-loop-entry l = length l.left

-- what is taken, and behind it what is left
abbrev pub invariant-loop-entry : goal.invariant-loop-entry
invariant-loop-entry l = map entry_of l.entries.items ++ l.left ≡ l.fn.env
