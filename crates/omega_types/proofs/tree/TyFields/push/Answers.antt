use Rattle.std.proofs.Common.{arith}
use Rattle.omega_types.proofs.Heights.{height-push}
use Rattle.omega_types.proofs.Rising.{rises-push}
use Rattle.omega_types.proofs.tree.TyFields.push.Goals as goal

pub invariant_of-self-2 : goal.invariant_of-self-2
invariant_of-self-2 c =
    rw c.in_ok-push.ensures.items (rises-push _ _ c.self.invariant.0 (rw c.self.view_is c.requires), omega (arith, height-push c.self.inside.pairs.items c.args.item))
