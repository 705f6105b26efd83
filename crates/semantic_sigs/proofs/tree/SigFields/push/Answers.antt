use Rattle.std.proofs.Common.{arith}
use Rattle.semantic_sigs.proofs.Heights.{sig_pairs_height-push}
use Rattle.semantic_sigs.proofs.Rising.{rises-push}
use Rattle.semantic_sigs.proofs.tree.SigFields.push.Goals as goal

pub invariant_of-self-2 : goal.invariant_of-self-2
invariant_of-self-2 c =
    rw c.in_ok-push.ensures.items (rises-push _ _ c.self.invariant.0 (rw c.self.view_is c.requires), omega (arith, sig_pairs_height-push c.self.inside.pairs.items c.args.item))
