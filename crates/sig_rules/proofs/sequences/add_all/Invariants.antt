use Rattle.std.proofs.Common.{◌≡◌, ◌++◌, take}
use Rattle.sig_rules.proofs.sequences.add_all.Given as goal

abbrev pub invariant-loop-field : goal.invariant-loop-field
invariant-loop-field l = l.fields ≡ l.initial.fields ++ take l.field-index l.more
