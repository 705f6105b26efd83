use Rattle.std.proofs.Common.{ap, ◌∙◌}
use Rattle.type_normal.specs.Inner.Lifted.{renumbered}
use Rattle.type_normal.proofs.LiftedSteps.{walk-moves}
use Rattle.type_normal.proofs.renumbering.renumber.Goals as goal

pub returns : goal.returns
returns c =
    c.as_normal.ensures ∙ (c.in_ok-walk_type.ensures ∙ (walk-moves c.args.places.now c.args.depth c.plain.result.now ∙ ap (renumbered c.args.places.now c.args.depth) c.plain.ensures))
