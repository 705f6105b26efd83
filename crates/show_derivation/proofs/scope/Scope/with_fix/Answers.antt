use Rattle.show_derivation.proofs.Entered.{recursive}
use Rattle.show_derivation.proofs.scope.Scope.with_fix.Goals as goal

pub invariant_of-result : goal.invariant_of-result
invariant_of-result c = recursive c.in_ok-domain.ensures.same c.in_ok-range.ensures.same c.scope-2.view_is c.scope-2.invariant c.in_ok-domain.ensures.given c.in_ok-expect_star.ensures.given c.in_ok-range.ensures.given c.in_ok-expect_star-2.ensures.given c.in_ok-own.ensures c.in_ok-push_value.ensures c.in_ok-push_value-2.ensures
