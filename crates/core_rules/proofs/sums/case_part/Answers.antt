use Rattle.std.proofs.Common.{◌≡◌, sym, ap, ◌∙◌}
use Rattle.omega_kinds.specs.declared.label.Label.{Label}
use Rattle.omega_types.specs.Fields.{row}
use Rattle.omega_types.specs.Ty.{Ty, Row}
use Rattle.omega_types.specs.Inner.View.{ty_of}
use Rattle.omega_terms.specs.Typing.{HasPart}
use Rattle.core_judgments.specs.CoreWhy.{NoField}
use Rattle.core_judgments.specs.ExpRules.{LabelGives, LabelRefuses}
use Rattle.core_rules.proofs.Conclusions.{given-more, refused-more}
use Rattle.core_rules.proofs.Forms.{no-sum}
use Rattle.core_rules.proofs.SumRules.{label-given, label-no_sum, label-missing}
use Rattle.core_rules.proofs.sums.case_part.Goals as goal

pub returns-in_default : goal.returns-in_default
returns-in_default c =
    record { given = tt; refused = label-no_sum c.args.whole.now.ty c.in_ok-share.field-0 c.args.name.now c.in_ok-share.ensures (no-sum c.node.result.now c.plain.result.now c.args.whole.now.ty c.node.ensures c.plain.ensures c.in_default.not-Sum) }

pub returns-clause-given : goal.returns-clause-given
returns-clause-given c =
    let whole = c.args.whole.now.ty in
    let parts : Row = row c.in-Sum.labels in
    let form : whole ≡ Ty.Sum parts = sym c.plain.ensures ∙ (sym c.node.ensures ∙ ap ty_of c.in-Sum.is) in
    given-more (HasPart parts (Label.Name c.args.name.now)) (LabelGives whole c.args.name.now) (λ t h. label-given whole t parts c.args.name.now form h) c.label_type.result c.label_type.ensures.given

pub returns-clause-refused : goal.returns-clause-refused
returns-clause-refused c =
    let whole = c.args.whole.now.ty in
    let parts : Row = row c.in-Sum.labels in
    let form : whole ≡ Ty.Sum parts = sym c.plain.ensures ∙ (sym c.node.ensures ∙ ap ty_of c.in-Sum.is) in
    refused-more (λ why. ((t : Ty) → HasPart parts (Label.Name c.args.name.now) t → ⊥) × (why ≡ NoField c.args.name.now)) (LabelRefuses whole c.args.name.now) (λ why h. label-missing whole parts c.args.name.now why form h) c.label_type.result c.label_type.ensures.refused
