use Rattle.std.proofs.Common.{length, ap, ◌∙◌, sym}
use Rattle.fing_units.proofs.SameSigs.{row-length}
use Rattle.fing_units.proofs.comparing.+same.Goals as goal

pub same_fields-returns-then-left-right : goal.same_fields-returns-then-left-right
same_fields-returns-then-left-right t c =
    (λ h. cc, λ h. absurd (c.if-left-right.true (ap length c.items-left.ensures.value ∙ row-length c.args.left.now c.args.right.now h ∙ sym (ap length c.items-right.ensures.value))))
