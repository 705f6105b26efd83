use Rattle.std.proofs.Common.{◌&&◌, sym, ap₂, ◌∙◌, arith}
use Rattle.omega_types.proofs.Rising.{rises-push}
use Rattle.omega_terms.proofs.Heights.{pairs_height-push}
use Rattle.omega_terms.proofs.ValueTests.{values_test-push}
use Rattle.omega_terms.proofs.tree.TermFields.push.Goals as goal

pub invariant_of-self-2 : goal.invariant_of-self-2
invariant_of-self-2 c =
    rw c.in_ok-push.ensures.items (rises-push _ _ c.self.invariant.0 (rw c.self.view_is c.requires), omega (arith, pairs_height-push c.self.inside.pairs.items c.args.item), ap₂ ◌&&◌ c.self.invariant.2 c.is_value.ensures.test ∙ sym (values_test-push c.self.inside.pairs.items c.args.item))
