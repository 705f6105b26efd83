use Rattle.std.proofs.Common.{ap, ◌∙◌}
use Rattle.type_normal.specs.Inner.Least.{is_first}
use Rattle.type_normal.proofs.Claims.{mentions-free, mentions-avoidable}
use Rattle.type_normal.proofs.mentioning.mentions.Goals as goal

pub returns-clause-free : goal.returns-clause-free
returns-clause-free c =
    mentions-free c.is_first.result c.args.index c.args.ty.now (c.is_first.ensures ∙ ap is_first c.least_free.ensures)

pub returns-clause-avoidable : goal.returns-clause-avoidable
returns-clause-avoidable c =
    mentions-avoidable c.is_first.result c.args.index c.args.ty.now (c.is_first.ensures ∙ ap is_first c.least_free.ensures)
