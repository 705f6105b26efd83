use Rattle.std.proofs.Common.{◌-◌}
use Rattle.sig_definitions.specs.Signatures.SigMentions.{MentionsSig}
use Rattle.module_rules.proofs.LookedFor.{NoneBelow}
use Rattle.module_rules.proofs.hidden.sig_mentions_hidden.Given as goal

abbrev pub invariant-loop-index : goal.invariant-loop-index
invariant-loop-index l = NoneBelow (λ i. MentionsSig i l.sig) l.index

abbrev pub decreases-loop-index : goal.decreases-loop-index
decreases-loop-index l = l.count - l.index
