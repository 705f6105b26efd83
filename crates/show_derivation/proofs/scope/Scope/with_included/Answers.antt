use Rattle.std.proofs.Common.{◌∙◌}
use Rattle.show_derivation.proofs.Entered.{included}
use Rattle.show_derivation.proofs.scope.Scope.with_included.Goals as goal

pub invariant_of-result : goal.invariant_of-result
invariant_of-result c = included {y = c.in_ok-head.head.sig} (c.scope.view_is ∙ c.in_ok-head.ensures.same) c.scope.invariant c.in_ok-head.ensures.given c.body.ensures c.in-Some.ensures c.in_ok-push_included.ensures
