use Rattle.std.proofs.Common.{ap, ◌∙◌}
use Rattle.omega_types.specs.Index.{shift}
use Rattle.type_normal.proofs.Claims.{raised-normal}
use Rattle.type_normal.proofs.normal_ty.raise.Goals as goal

pub returns-clause-normal : goal.returns-clause-normal
returns-clause-normal c =
    raised-normal c.args.by c.args.from c.as_normal.result c.args.ty.now (c.as_normal.ensures ∙ (c.in_ok-shift.ensures ∙ ap (shift c.args.by c.args.from) c.plain.ensures))
