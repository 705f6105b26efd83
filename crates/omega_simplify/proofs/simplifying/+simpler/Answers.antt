use Rattle.omega_terms.proofs.OneIndex.{row-done}
use Rattle.omega_simplify_laws.specs.Simplified.{simplified, simplified_row}
use Rattle.omega_simplify.proofs.RowSteps.{row-simplified, same-done}
use Rattle.omega_simplify.proofs.simplifying.+simpler.Goals as goal

pub simpler_row-returns-then-stays-2 : goal.simpler_row-returns-then-stays-2
simpler_row-returns-then-stays-2 t c =
    same-done _ _ _ _ c.loop-field.invariant.0 (c.loop-field.invariant.1 c.if-stays-2.true) c.loop-field-test.false c.items-field-items.ensures.value

pub simpler_row-returns : goal.simpler_row-returns
simpler_row-returns t c =
    row-done simplified simplified_row _ _ _ _ row-simplified c.loop-field.invariant.0 c.loop-field-test.false c.items-field-items.ensures.value
