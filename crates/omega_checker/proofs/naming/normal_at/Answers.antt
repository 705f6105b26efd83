use Rattle.std.proofs.Common.{Some, ap, ◌∙◌}
use Rattle.omega_kinds.specs.View.{kind_tree}
use Rattle.omega_types.specs.Inner.Scope.{scope_of}
use Rattle.omega_checker.proofs.NormalAlready.{stands}
use Rattle.omega_checker.proofs.naming.normal_at.Goals as goal

pub returns-in_ok-kept : goal.returns-in_ok-kept
returns-in_ok-kept c =
    ap Some c.in_ok-kept.ensures ∙ stands (scope_of c.args.ctx.now) c.args.ty.now (kind_tree c.args.kind.now) (c.in_ok-is_normal.ensures.0 c.if-branch.true)
