use Rattle.std.proofs.Common.{◌≢◌}
use Rattle.omega_kinds.specs.Kind.{Kind}
use Rattle.omega_kinds.specs.View.{kind_tree}
use Rattle.core_judgments.specs.CoreWhy.{KindDiffer}
use Rattle.core_judgments.specs.TypeRules.{AllGives, AllRefuses}
use Rattle.core_rules.proofs.Conclusions.{exit}
use Rattle.core_rules.proofs.types.all_ty.Goals as goal

pub returns-in_err-expect_star-clause-refused : goal.returns-in_err-expect_star-clause-refused
returns-in_err-expect_star-clause-refused c =
    let body = c.args.body.now in
    exit (kind_tree body.kind ≢ Kind.Star) (KindDiffer (kind_tree body.kind) Kind.Star) (AllRefuses (kind_tree c.args.kind.now) body.ty (kind_tree body.kind)) (λ n. AllRefuses.body_kind n) c.from_residual.result c.in_err-expect_star.field-0.0 c.from_residual.ensures.1 c.in_err-expect_star.ensures.refused

pub returns-clause-given : goal.returns-clause-given
returns-clause-given c =
    rw (c.in_ok-expect_star.ensures.ok, c.in_ok-of_values.ensures.ty, c.in_ok-of_values.ensures.kind, c.in_ok-share.ensures, c.in_ok-share-2.ensures, c.plain.ensures) AllGives.all
