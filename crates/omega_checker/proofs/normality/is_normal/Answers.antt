use Rattle.std.proofs.Common.{ap, ◌∙◌}
use Rattle.std.proofs.lemmas.Result.{IfOk-weaker}
use Rattle.omega_kinds.specs.View.{kind_tree}
use Rattle.omega_types.specs.Inner.Scope.{scope_of}
use Rattle.omega_checker.specs.Inner.IsNormal.{is_normal, scope_below}
use Rattle.omega_checker.proofs.NormalAlready.{test-decides}
use Rattle.omega_checker.proofs.normality.is_normal.Goals as goal

pub returns : goal.returns
returns c =
    IfOk-weaker _ _ _ (λ b e. test-decides (scope_of c.args.ctx.now) c.args.ty.now (kind_tree c.args.kind.now) b
    (e ∙ ap (λ xs. is_normal (scope_below c.args.ctx.now xs) c.args.ty.now (kind_tree c.args.kind.now)) c.new-inner.ensures.items))
    c.normal_at_kind.ensures.value
