use Rattle.std.proofs.Common.{◌≢◌}
use Rattle.omega_kinds.specs.Kind.{Kind}
use Rattle.omega_kinds.specs.View.{kind_tree}
use Rattle.core_judgments.specs.CoreWhy.{KindDiffer}
use Rattle.core_judgments.specs.TypeRules.{ArrowGives, ArrowRefuses}
use Rattle.core_rules.proofs.Conclusions.{exit}
use Rattle.core_rules.proofs.types.arrow_ty.Goals as goal

pub returns-in_err-expect_star-clause-refused : goal.returns-in_err-expect_star-clause-refused
returns-in_err-expect_star-clause-refused c =
    let from = c.args.from.now in
    let to = c.args.to.now in
    exit (kind_tree from.kind ≢ Kind.Star) (KindDiffer (kind_tree from.kind) Kind.Star) (ArrowRefuses from.ty (kind_tree from.kind) to.ty (kind_tree to.kind)) (λ n. ArrowRefuses.from_kind n) c.from_residual.result c.in_err-expect_star.field-0.0 c.from_residual.ensures.1 c.in_err-expect_star.ensures.refused

pub returns-in_err-expect_star-2-clause-refused : goal.returns-in_err-expect_star-2-clause-refused
returns-in_err-expect_star-2-clause-refused c =
    let from = c.args.from.now in
    let to = c.args.to.now in
    exit (kind_tree to.kind ≢ Kind.Star) (KindDiffer (kind_tree to.kind) Kind.Star) (ArrowRefuses from.ty (kind_tree from.kind) to.ty (kind_tree to.kind)) (λ n. rw c.in_ok-expect_star.ensures.ok (ArrowRefuses.to_kind n)) c.from_residual-in_err-expect_star-2.result c.in_err-expect_star-2.field-0.0 c.from_residual-in_err-expect_star-2.ensures.1 c.in_err-expect_star-2.ensures.refused

pub returns-clause-given : goal.returns-clause-given
returns-clause-given c =
    rw (c.in_ok-expect_star.ensures.ok, c.in_ok-expect_star-2.ensures.ok, c.in_ok-ty.ensures) ArrowGives.arrow
