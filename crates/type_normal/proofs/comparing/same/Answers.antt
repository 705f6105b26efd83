use Rattle.std.proofs.Common.{sym, ◌∙◌}
use Rattle.type_normal.proofs.Claims.{same-converts}
use Rattle.type_normal.proofs.comparing.same.Goals as goal

pub returns-clause-convertible : goal.returns-clause-convertible
returns-clause-convertible c =
    same-converts c.same_ty.result c.args.left.now c.args.right.now (λ h. sym c.plain.ensures ∙ (c.same_ty.ensures.0 h ∙ c.plain-2.ensures), λ e. c.same_ty.ensures.1 (c.plain.ensures ∙ (e ∙ sym c.plain-2.ensures)))
