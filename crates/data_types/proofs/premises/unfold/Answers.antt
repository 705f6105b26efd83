use Rattle.std.proofs.Common.{◌≡◌, sym, ap, ◌∙◌}
use Rattle.omega_types.specs.Ty.{Ty}
use Rattle.omega_types.specs.Inner.View.{ty_of}
use Rattle.core_judgments.specs.DataRules.DataWhy.{NotData}
use Rattle.data_types.proofs.Conclusions.{no-mu, mu-unfolds}
use Rattle.data_types.proofs.premises.unfold.Goals as goal

pub returns-in_default : goal.returns-in_default
returns-in_default c =
    record { given = tt; refused = (no-mu c.node.result.now c.plain.result.now c.args.whole.now c.node.ensures c.plain.ensures c.in_default.not-Mu, ap NotData c.in_ok-share.ensures) }

pub returns-clause-given : goal.returns-clause-given
returns-clause-given c =
    let whole = c.args.whole.now in
    let body : Ty = c.in-Mu.body in
    let form : whole ≡ Ty.Mu body = sym c.plain.ensures ∙ (sym c.node.ensures ∙ ap ty_of c.in-Mu.is) in
    (body, form, mu-unfolds whole c.in_ok-hsubst.field-0 c.as_normal-body.result body form (c.as_normal-body.ensures ∙ c.in_ok-share-2.ensures) c.in_ok-hsubst.ensures.value)
