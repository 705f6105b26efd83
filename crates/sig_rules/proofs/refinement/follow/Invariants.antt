use Rattle.std.proofs.Common.{drop}
use Rattle.sig_rules.proofs.Following.{Follows}
use Rattle.sig_rules.proofs.refinement.follow.Given as goal

abbrev pub invariant-loop-name : goal.invariant-loop-name
invariant-loop-name l = Follows l.here (drop l.name-index l.path) l.sig l.path
