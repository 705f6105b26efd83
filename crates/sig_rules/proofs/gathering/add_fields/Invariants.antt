use Rattle.sig_rules.proofs.Gathered.{PutFrom}
use Rattle.sig_rules.proofs.gathering.add_fields.Given as goal

abbrev pub invariant-loop-left : goal.invariant-loop-left
invariant-loop-left l = PutFrom l.fields l.initial.parts.entries l.parts.entries l.left

abbrev pub decreases-loop-left : goal.decreases-loop-left
decreases-loop-left l = l.left
