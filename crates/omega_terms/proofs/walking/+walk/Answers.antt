use Rattle.omega_terms.proofs.OneIndex.{row-more, left-smaller, row-done}
use Rattle.omega_terms.specs.Inner.Walk.{walked_row}
use Rattle.omega_terms.proofs.WalkSteps.{row-walked}
use Rattle.omega_terms.proofs.walking.+walk.Goals as goal

pub walk_row-loop-field-preserved : goal.walk_row-loop-field-preserved
walk_row-loop-field-preserved g t c =
    (row-more _ _ _ _ _ _ _ _ c.loop-field.invariant.0 c.loop-field-test.true c.field-item.is c.in_ok-share.ensures c.in_ok-part.ensures c.in_ok-push.ensures.ok, left-smaller _ _)

pub walk_row-returns : goal.walk_row-returns
walk_row-returns g t c =
    row-done _ (walked_row _ _ _ _) _ _ _ _ (row-walked _ _ _ _) c.loop-field.invariant.0 c.loop-field-test.false c.items-field-items.ensures.value
