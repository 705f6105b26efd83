use Rattle.std.proofs.Common.{◌≢◌}
use Rattle.omega_kinds.specs.Kind.{Kind}
use Rattle.omega_kinds.specs.View.{kind_tree}
use Rattle.core_judgments.specs.CoreWhy.{Differ, KindDiffer}
use Rattle.core_judgments.specs.ExpRules.{FixGives, FixRefuses}
use Rattle.core_rules.proofs.Conclusions.{exit}
use Rattle.core_rules.proofs.expressions.fix_exp.Goals as goal

pub returns-in_err-expect_star-clause-refused : goal.returns-in_err-expect_star-clause-refused
returns-in_err-expect_star-clause-refused c =
    let param = c.args.param.now in
    let target = c.args.target.now in
    exit (kind_tree param.kind ≢ Kind.Star) (KindDiffer (kind_tree param.kind) Kind.Star) (FixRefuses param.ty (kind_tree param.kind) target.ty (kind_tree target.kind) c.args.body.ty) (λ n. FixRefuses.param_kind n) c.from_residual.result c.in_err-expect_star.field-0.0 c.from_residual.ensures.1 c.in_err-expect_star.ensures.refused

pub returns-in_err-expect_star-2-clause-refused : goal.returns-in_err-expect_star-2-clause-refused
returns-in_err-expect_star-2-clause-refused c =
    let param = c.args.param.now in
    let target = c.args.target.now in
    exit (kind_tree target.kind ≢ Kind.Star) (KindDiffer (kind_tree target.kind) Kind.Star) (FixRefuses param.ty (kind_tree param.kind) target.ty (kind_tree target.kind) c.args.body.ty) (λ n. rw c.in_ok-expect_star.ensures.ok (FixRefuses.result_kind n)) c.from_residual-in_err-expect_star-2.result c.in_err-expect_star-2.field-0.0 c.from_residual-in_err-expect_star-2.ensures.1 c.in_err-expect_star-2.ensures.refused

pub returns-in_err-expect_same-clause-refused : goal.returns-in_err-expect_same-clause-refused
returns-in_err-expect_same-clause-refused c =
    let param = c.args.param.now in
    let target = c.args.target.now in
    exit (c.args.body.ty ≢ target.ty) (Differ c.args.body.ty target.ty) (FixRefuses param.ty (kind_tree param.kind) target.ty (kind_tree target.kind) c.args.body.ty) (λ n. rw (c.in_ok-expect_star.ensures.ok, c.in_ok-expect_star-2.ensures.ok) (FixRefuses.body_type n)) c.from_residual-in_err-expect_same.result c.in_err-expect_same.field-0.0 c.from_residual-in_err-expect_same.ensures.1 c.in_err-expect_same.ensures.refused

pub returns-clause-given : goal.returns-clause-given
returns-clause-given c =
    rw (c.in_ok-expect_star.ensures.ok, c.in_ok-expect_star-2.ensures.ok, c.in_ok-expect_same.ensures.ok, c.in_ok-ty.ensures, c.in_ok-term.ensures, c.in_ok-share.ensures, c.in_ok-share-2.ensures, c.plain-from.ensures, c.plain-to.ensures) FixGives.fix
