use Rattle.std.proofs.Common.{◌∙◌}
use Rattle.show_envs.proofs.Entering.{with-part}
use Rattle.show_derivation.proofs.scope.Scope.with_part.Goals as goal

pub invariant_of-result : goal.invariant_of-result
invariant_of-result c = with-part (c.scope.view_is ∙ c.in_ok-found.ensures.same) c.scope.invariant c.in_ok-found.ensures.given c.in_ok-part.ensures.given c.in_ok-push_value.ensures
