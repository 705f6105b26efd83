use Rattle.std.proofs.Common.{◌≡◌}
use Rattle.core_judgments.specs.DataRules.{IsNoMu, UnrollRefuses}
use Rattle.core_judgments.specs.DataRules.DataWhy.{NotData}
use Rattle.data_types.proofs.Conclusions.{passed, unroll-given, unroll-no_data}
use Rattle.data_types.proofs.rules.unroll_exp.Goals as goal

pub returns-in_err-ty-clause-refused : goal.returns-in_err-ty-clause-refused
returns-in_err-ty-clause-refused c =
    let whole = c.args.whole.ty in
    passed (λ why. IsNoMu whole × (why ≡ NotData whole)) (UnrollRefuses whole) (λ why h. unroll-no_data whole why h) c.from_residual.result c.in_err-ty.field-0.0 c.from_residual.ensures.1 c.in_err-ty.ensures.refused

pub returns-clause-given : goal.returns-clause-given
returns-clause-given c =
    let whole = c.args.whole in
    let u = c.in_ok-ty.ensures.given in
    λ ctx n. unroll-given ctx whole.ty c.in_ok-ty.ty u.0 whole.term c.in_ok-term.term u.1 u.2 c.in_ok-term.ensures n
