use Rattle.std.proofs.Common.{◌+◌, ◌-◌, ◌≤◌, drop, length}
use Rattle.sig_rules.proofs.Merging.{Walked}
use Rattle.sig_rules.proofs.sequences.merge.Given as goal

abbrev pub invariant-loop-i : goal.invariant-loop-i
invariant-loop-i l = (l.i ≤ length l.left) × (l.j ≤ length l.right) × Walked l.left l.right l.fields (drop l.i l.left) (drop l.j l.right)

abbrev pub decreases-loop-i : goal.decreases-loop-i
decreases-loop-i l = (length l.left - l.i) + (length l.right - l.j)
