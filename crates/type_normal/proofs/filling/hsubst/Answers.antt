use Rattle.std.proofs.Common.{ap₂, ◌∙◌}
use Rattle.omega_kinds.specs.View.{kind_tree}
use Rattle.omega_types.specs.Normaliser.{hsubst}
use Rattle.type_normal.proofs.Claims.{filled-normal}
use Rattle.type_normal.proofs.filling.hsubst.Goals as goal

pub returns-clause-normal : goal.returns-clause-normal
returns-clause-normal c =
    filled-normal (kind_tree c.args.kind.now) c.args.index c.args.arg.now c.args.body.now c.as_normal.result (c.as_normal.ensures ∙ (c.in_ok-fill_whole.ensures ∙ ap₂ (λ a b. hsubst (kind_tree c.args.kind.now) c.args.index a b) c.plain-2.ensures c.plain.ensures))
