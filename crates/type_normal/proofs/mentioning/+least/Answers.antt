use Rattle.std.proofs.Common.{sym, ap, ◌∙◌}
use Rattle.omega_types.specs.Fields.{row}
use Rattle.type_normal.specs.Inner.Least.{least_row}
use Rattle.type_normal.proofs.LeastSteps.{lesser-first}
use Rattle.type_normal.proofs.mentioning.+least.Goals as goal

pub least_in_fields-returns-then-is_first : goal.least_in_fields-returns-then-is_first
least_in_fields-returns-then-is_first t c =
    sym (lesser-first c.loop-field.least _ (sym c.is_first.ensures ∙ c.if-is_first.true)) ∙ (c.loop-field.invariant.0 ∙ ap (λ xs. least_row c.args.from (row xs)) c.items-field-items.ensures.value)
