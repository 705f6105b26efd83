use Rattle.std.proofs.Common.{ap, ◌∙◌}
use Rattle.type_normal.specs.Inner.Lifted.{lower_from}
use Rattle.type_normal.proofs.LiftedSteps.{walk-lowers}
use Rattle.type_normal.proofs.lowering.lower_from.Goals as goal

pub returns : goal.returns
returns c =
    c.as_normal.ensures ∙ (c.in_ok-walk_type.ensures ∙ (walk-lowers c.args.by c.args.from c.plain.result.now ∙ ap (lower_from c.args.by c.args.from) c.plain.ensures))
