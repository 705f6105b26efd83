use Rattle.std.proofs.Common.{ap, ◌∙◌}
use Rattle.omega_kinds.specs.View.{kind_tree}
use Rattle.omega_types.specs.Normaliser.{normal}
use Rattle.omega_types.specs.Inner.Scope.{scope_of}
use Rattle.type_normal.proofs.Claims.{normal-form}
use Rattle.type_normal.proofs.normalising.normal.Goals as goal

pub returns-clause-normal : goal.returns-clause-normal
returns-clause-normal c =
    normal-form (scope_of c.args.ctx.now) c.args.ty.now c.as_normal.result (kind_tree c.args._kind.now) (c.as_normal.ensures ∙ (c.in_ok-normalise.ensures.value ∙ ap (λ s. normal s c.args.ty.now) c.in_ok-scope.ensures))
