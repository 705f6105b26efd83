use Rattle.std.proofs.Common.{drop}
use Rattle.sig_rules.proofs.Naming.{Passes}
use Rattle.sig_rules.proofs.sequences.distinct.Given as goal

abbrev pub invariant-loop-field : goal.invariant-loop-field
invariant-loop-field l = Passes l.before (drop l.field-index l.field-items) l.field-items
