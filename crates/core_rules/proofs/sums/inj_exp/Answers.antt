use Rattle.std.proofs.Common.{◌≡◌, ◌≢◌, sym, ap, ◌∙◌}
use Rattle.omega_kinds.specs.Kind.{Kind}
use Rattle.omega_kinds.specs.View.{kind_tree}
use Rattle.omega_kinds.specs.declared.label.Label.{Label}
use Rattle.omega_types.specs.Fields.{row}
use Rattle.omega_types.specs.Ty.{Ty, Row}
use Rattle.omega_types.specs.Inner.View.{ty_of}
use Rattle.omega_terms.specs.Term.{Term}
use Rattle.omega_terms.specs.Typing.{HasPart}
use Rattle.core_judgments.specs.CoreWhy.{NoField, Differ, KindDiffer}
use Rattle.core_judgments.specs.ExpRules.{InjectionRefuses}
use Rattle.core_rules.proofs.Conclusions.{exit, passed}
use Rattle.core_rules.proofs.Forms.{no-sum}
use Rattle.core_rules.proofs.SumRules.{injection-no_sum, injection-missing, injection-differs, injection-given}
use Rattle.core_rules.proofs.sums.inj_exp.Goals as goal

pub returns-in_err-expect_star-clause-refused : goal.returns-in_err-expect_star-clause-refused
returns-in_err-expect_star-clause-refused c =
    let k = kind_tree c.args.target.now.kind in
    exit (k ≢ Kind.Star) (KindDiffer k Kind.Star) (InjectionRefuses c.args.name.now c.args.value.ty c.args.target.now.ty k) (λ n. InjectionRefuses.target_kind n) c.from_residual.result c.in_err-expect_star.field-0.0 c.from_residual.ensures.1 c.in_err-expect_star.ensures.refused

pub returns-in_default : goal.returns-in_default
returns-in_default c =
    let target = c.args.target.now in
    record { given = tt; refused = injection-no_sum c.args.name.now c.args.value.ty target.ty c.in_ok-share.field-0 (kind_tree target.kind) c.in_ok-expect_star.ensures.ok c.in_ok-share.ensures (no-sum c.node.result.now c.plain.result.now target.ty c.node.ensures c.plain.ensures c.in_default.not-Sum) }

pub returns-in_err-label_type-clause-refused : goal.returns-in_err-label_type-clause-refused
returns-in_err-label_type-clause-refused c =
    let target = c.args.target.now in
    let parts : Row = row c.in-Sum.labels in
    let form : target.ty ≡ Ty.Sum parts = sym c.plain.ensures ∙ (sym c.node.ensures ∙ ap ty_of c.in-Sum.is) in
    passed (λ why. ((t : Ty) → HasPart parts (Label.Name c.args.name.now) t → ⊥) × (why ≡ NoField c.args.name.now)) (InjectionRefuses c.args.name.now c.args.value.ty target.ty (kind_tree target.kind)) (λ why h. injection-missing c.args.name.now c.args.value.ty target.ty parts (kind_tree target.kind) why c.in_ok-expect_star.ensures.ok form h) c.from_residual-in_err-label_type.result c.in_err-label_type.field-0.0 c.from_residual-in_err-label_type.ensures.1 c.in_err-label_type.ensures.refused

pub returns-in_err-expect_same-clause-refused : goal.returns-in_err-expect_same-clause-refused
returns-in_err-expect_same-clause-refused c =
    let target = c.args.target.now in
    let value = c.args.value.ty in
    let needed = c.in_ok-label_type.field-0 in
    let parts : Row = row c.in-Sum.labels in
    let form : target.ty ≡ Ty.Sum parts = sym c.plain.ensures ∙ (sym c.node.ensures ∙ ap ty_of c.in-Sum.is) in
    exit (value ≢ needed) (Differ value needed) (InjectionRefuses c.args.name.now value target.ty (kind_tree target.kind)) (λ n. injection-differs c.args.name.now value target.ty needed parts (kind_tree target.kind) c.in_ok-expect_star.ensures.ok form c.in_ok-label_type.ensures.given n) c.from_residual-in_err-expect_same.result c.in_err-expect_same.field-0.0 c.from_residual-in_err-expect_same.ensures.1 c.in_err-expect_same.ensures.refused

pub returns-clause-given : goal.returns-clause-given
returns-clause-given c =
    let target = c.args.target.now in
    let value = c.args.value in
    let name = c.args.name.now in
    let parts : Row = row c.in-Sum.labels in
    let form : target.ty ≡ Ty.Sum parts = sym c.plain.ensures ∙ (sym c.node.ensures ∙ ap ty_of c.in-Sum.is) in
    let term = c.in_ok-make.ensures ∙ (ap (λ l. Term.Inj (Label.Name l) value.term c.in_ok-share-3.field-0) c.in_ok-share-2.ensures ∙ ap (Term.Inj (Label.Name name) value.term) (c.in_ok-share-3.ensures ∙ c.plain-2.ensures)) in
    injection-given name value.ty target.ty c.in_ok-label_type.field-0 c.in_ok-ty.ty parts (kind_tree target.kind) value.term c.in_ok-make.field-0 c.in_ok-expect_star.ensures.ok form c.in_ok-label_type.ensures.given c.in_ok-expect_same.ensures.ok c.in_ok-ty.ensures term
