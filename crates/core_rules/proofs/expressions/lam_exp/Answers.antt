use Rattle.std.proofs.Common.{◌≢◌}
use Rattle.omega_kinds.specs.Kind.{Kind}
use Rattle.omega_kinds.specs.View.{kind_tree}
use Rattle.core_judgments.specs.CoreWhy.{KindDiffer}
use Rattle.core_judgments.specs.ExpRules.{FunctionGives, FunctionRefuses}
use Rattle.core_rules.proofs.Conclusions.{exit}
use Rattle.core_rules.proofs.expressions.lam_exp.Goals as goal

pub returns-in_err-expect_star-clause-refused : goal.returns-in_err-expect_star-clause-refused
returns-in_err-expect_star-clause-refused c =
    let k = kind_tree c.args.param.now.kind in
    exit (k ≢ Kind.Star) (KindDiffer k Kind.Star) (FunctionRefuses c.args.param.now.ty k) (λ n. FunctionRefuses.param_kind n) c.from_residual.result c.in_err-expect_star.field-0.0 c.from_residual.ensures.1 c.in_err-expect_star.ensures.refused

pub returns-clause-given : goal.returns-clause-given
returns-clause-given c =
    rw (c.in_ok-expect_star.ensures.ok, c.in_ok-ty.ensures, c.in_ok-term.ensures, c.in_ok-share.ensures, c.plain.ensures) FunctionGives.function
