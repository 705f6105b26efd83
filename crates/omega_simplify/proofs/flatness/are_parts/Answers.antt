use Rattle.std.proofs.Common.{length, ap, sym, ◌∙◌}
use Rattle.omega_simplify.proofs.PartSteps.{parts-differ}
use Rattle.omega_simplify.proofs.flatness.are_parts.Goals as goal

pub returns-then-types-fields : goal.returns-then-types-fields
returns-then-types-fields c =
    parts-differ c.args.types.now c.args.fields.now
    (λ h. c.if-types-fields.true (ap length c.items-types.ensures.value ∙ (h ∙ sym (ap length c.items-fields.ensures.value))))
