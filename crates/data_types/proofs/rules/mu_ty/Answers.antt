use Rattle.std.proofs.Common.{◌≡◌, ◌≢◌, refl, ap, ◌∙◌}
use Rattle.omega_kinds.specs.Kind.{Kind}
use Rattle.omega_kinds.specs.View.{kind_tree}
use Rattle.omega_types.specs.Ty.{Ty}
use Rattle.core_judgments.specs.DataRules.{MuRefuses}
use Rattle.core_judgments.specs.DataRules.DataWhy.{KindDiffer}
use Rattle.data_types.proofs.Conclusions.{passed, mu-given, mu-refused}
use Rattle.data_types.proofs.rules.mu_ty.Goals as goal

pub returns-in_err-expect_star-clause-refused : goal.returns-in_err-expect_star-clause-refused
returns-in_err-expect_star-clause-refused c =
    let body = c.args.body.now in
    let k = kind_tree body.kind in
    passed (λ why. (k ≢ Kind.Star) × (why ≡ KindDiffer k Kind.Star)) (MuRefuses body.ty k) (λ why h. mu-refused body.ty k why h) c.from_residual.result c.in_err-expect_star.field-0.0 c.from_residual.ensures.1 c.in_err-expect_star.ensures.refused

pub returns-clause-given : goal.returns-clause-given
returns-clause-given c =
    let body = c.args.body.now in
    mu-given body.ty c.as_normal-ty.result (kind_tree body.kind) Kind.Star c.in_ok-expect_star.ensures.ok (c.as_normal-ty.ensures ∙ (c.in_ok-make.ensures ∙ ap Ty.Mu (c.in_ok-share.ensures ∙ c.plain.ensures))) refl
