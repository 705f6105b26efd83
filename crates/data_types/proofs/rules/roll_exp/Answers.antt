use Rattle.std.proofs.Common.{◌≡◌, ◌≢◌, List, ap, ◌∙◌}
use Rattle.omega_kinds.specs.Kind.{Kind}
use Rattle.omega_kinds.specs.View.{kind_tree}
use Rattle.omega_types.specs.Normality.{Normal}
use Rattle.omega_terms.specs.Term.{Term}
use Rattle.core_judgments.specs.DataRules.{IsNoMu, RollRefuses}
use Rattle.core_judgments.specs.DataRules.DataWhy.{NotData, Differ, KindDiffer}
use Rattle.data_types.proofs.Conclusions.{passed, roll-kind, roll-given, roll-no_data, roll-differs}
use Rattle.data_types.proofs.rules.roll_exp.Goals as goal

pub returns-in_err-expect_star-clause-refused : goal.returns-in_err-expect_star-clause-refused
returns-in_err-expect_star-clause-refused c =
    let target = c.args.target.now in
    let k = kind_tree target.kind in
    passed (λ why. (k ≢ Kind.Star) × (why ≡ KindDiffer k Kind.Star)) (λ why. (ctx : List Kind) → Normal ctx target.ty k → RollRefuses ctx c.args.value.ty target.ty k why) (λ why h ctx n. roll-kind ctx c.args.value.ty target.ty k why h) c.from_residual.result c.in_err-expect_star.field-0.0 c.from_residual.ensures.1 c.in_err-expect_star.ensures.refused

pub returns-in_err-unfold-clause-refused : goal.returns-in_err-unfold-clause-refused
returns-in_err-unfold-clause-refused c =
    let target = c.args.target.now in
    let k = kind_tree target.kind in
    passed (λ why. IsNoMu target.ty × (why ≡ NotData target.ty)) (λ why. (ctx : List Kind) → Normal ctx target.ty k → RollRefuses ctx c.args.value.ty target.ty k why) (λ why h ctx n. roll-no_data ctx c.args.value.ty target.ty k why c.in_ok-expect_star.ensures.ok h) c.from_residual-in_err-unfold.result c.in_err-unfold.field-0.0 c.from_residual-in_err-unfold.ensures.1 c.in_err-unfold.ensures.refused

pub returns-in_err-expect_same-clause-refused : goal.returns-in_err-expect_same-clause-refused
returns-in_err-expect_same-clause-refused c =
    let target = c.args.target.now in
    let value = c.args.value.ty in
    let needed = c.in_ok-unfold.field-0 in
    let k = kind_tree target.kind in
    let u = c.in_ok-unfold.ensures.given in
    passed (λ why. (value ≢ needed) × (why ≡ Differ value needed)) (λ why. (ctx : List Kind) → Normal ctx target.ty k → RollRefuses ctx value target.ty k why) (λ why h ctx n. roll-differs ctx value target.ty needed u.0 k why c.in_ok-expect_star.ensures.ok u.1 u.2 h n) c.from_residual-in_err-expect_same.result c.in_err-expect_same.field-0.0 c.from_residual-in_err-expect_same.ensures.1 c.in_err-expect_same.ensures.refused

pub returns-clause-given : goal.returns-clause-given
returns-clause-given c =
    let target = c.args.target.now in
    let value = c.args.value in
    let k = kind_tree target.kind in
    let u = c.in_ok-unfold.ensures.given in
    let term = c.in_ok-term.ensures ∙ ap (Term.Roll value.term) (c.in_ok-share.ensures ∙ c.plain.ensures) in
    λ ctx n. roll-given ctx value.ty target.ty c.in_ok-unfold.field-0 c.in_ok-ty.ty u.0 k value.term c.in_ok-term.term c.in_ok-expect_star.ensures.ok u.1 u.2 c.in_ok-expect_same.ensures.ok c.in_ok-ty.ensures term n
