use Rattle.std.proofs.Common.{◌≡◌, ◌≢◌, List, [], sym, ap, ◌∙◌}
use Rattle.omega_kinds.specs.Kind.{Kind}
use Rattle.omega_kinds.specs.LabelOrder.{spelling}
use Rattle.omega_kinds.specs.View.{kind_tree}
use Rattle.omega_kinds.specs.declared.label.Label.{Label}
use Rattle.omega_types.specs.Fields.{row}
use Rattle.omega_types.specs.Ty.{Ty, Row}
use Rattle.omega_types.specs.Inner.View.{ty_of}
use Rattle.omega_terms.specs.Fields.{term_row}
use Rattle.omega_terms.specs.Term.{Term}
use Rattle.core_judgments.specs.CoreWhy.{KindDiffer, NoBranch}
use Rattle.core_judgments.specs.ExpRules.{FieldExp, BranchesRefuse, LeastWithout, CaseRefuses}
use Rattle.core_rules.specs.Inner.Records.{exp_fields, HasBranches}
use Rattle.core_rules.proofs.Conclusions.{exit, passed}
use Rattle.core_rules.proofs.Forms.{no-sum}
use Rattle.core_rules.proofs.SumRules.{case-no_sum, case-kind, case-branch, case-missing, case-given}
use Rattle.core_rules.proofs.sums.case_exp.Goals as goal

pub returns-in_default : goal.returns-in_default
returns-in_default c =
    record { given = tt; refused = case-no_sum c.args.whole.ty c.args.target.now.ty c.in_ok-share.field-0 (kind_tree c.args.target.now.kind) (exp_fields c.args.branches.items) c.in_ok-share.ensures (no-sum c.node.result.now c.plain.result.now c.args.whole.ty c.node.ensures c.plain.ensures c.in_default.not-Sum) }

pub returns-in_err-expect_star-clause-refused : goal.returns-in_err-expect_star-clause-refused
returns-in_err-expect_star-clause-refused c =
    let whole = c.args.whole.ty in
    let target = c.args.target.now in
    let parts : Row = row c.in-Sum.labels in
    let form : whole ≡ Ty.Sum parts = sym c.plain.ensures ∙ (sym c.node.ensures ∙ ap ty_of c.in-Sum.is) in
    let k = kind_tree target.kind in
    let bs = exp_fields c.args.branches.items in
    exit (k ≢ Kind.Star) (KindDiffer k Kind.Star) (CaseRefuses whole target.ty k bs) (λ n. case-kind whole target.ty parts k bs form n) c.from_residual-in_err-expect_star.result c.in_err-expect_star.field-0.0 c.from_residual-in_err-expect_star.ensures.1 c.in_err-expect_star.ensures.refused

pub returns-in_err-parts-clause-refused : goal.returns-in_err-parts-clause-refused
returns-in_err-parts-clause-refused c =
    let whole = c.args.whole.ty in
    let target = c.args.target.now in
    let parts : Row = row c.in-Sum.labels in
    let form : whole ≡ Ty.Sum parts = sym c.plain.ensures ∙ (sym c.node.ensures ∙ ap ty_of c.in-Sum.is) in
    let k = kind_tree target.kind in
    let bs = exp_fields c.args.branches.items in
    passed (BranchesRefuse parts target.ty [] bs) (CaseRefuses whole target.ty k bs) (λ why h. case-branch whole target.ty parts k bs why form c.in_ok-expect_star.ensures.ok h) c.from_residual-in_err-parts.result c.in_err-parts.field-0.0 c.from_residual-in_err-parts.ensures.1 c.in_err-parts.ensures.refused

pub returns-in_err-terms-clause-refused : goal.returns-in_err-terms-clause-refused
returns-in_err-terms-clause-refused c =
    let whole = c.args.whole.ty in
    let target = c.args.target.now in
    let parts : Row = row c.in-Sum.labels in
    let form : whole ≡ Ty.Sum parts = sym c.plain.ensures ∙ (sym c.node.ensures ∙ ap ty_of c.in-Sum.is) in
    let k = kind_tree target.kind in
    let bs = exp_fields c.args.branches.items in
    let es = c.in_ok-parts.parts.entries in
    passed (λ why. (bs : List FieldExp) → HasBranches bs es → (l : Label) × LeastWithout bs parts l × (why ≡ NoBranch (spelling l))) (CaseRefuses whole target.ty k bs) (λ why h. case-missing whole target.ty parts k bs why form c.in_ok-expect_star.ensures.ok c.in_ok-parts.ensures.given (h bs c.in_ok-parts.ensures.branches)) c.from_residual-in_err-terms.result c.in_err-terms.field-0.0 c.from_residual-in_err-terms.ensures.1 c.in_err-terms.ensures.refused

pub returns-clause-given : goal.returns-clause-given
returns-clause-given c =
    let whole = c.args.whole in
    let target = c.args.target.now in
    let parts : Row = row c.in-Sum.labels in
    let form : whole.ty ≡ Ty.Sum parts = sym c.plain.ensures ∙ (sym c.node.ensures ∙ ap ty_of c.in-Sum.is) in
    let bs = exp_fields c.args.branches.items in
    let es = term_row c.in_ok-terms.terms in
    let term = c.in_ok-make.ensures ∙ ap (λ t. Term.Case whole.term t es) (c.in_ok-share-2.ensures ∙ c.plain-2.ensures) in
    case-given whole.ty target.ty c.in_ok-ty.ty parts (kind_tree target.kind) bs es whole.term c.in_ok-make.field-0 form c.in_ok-expect_star.ensures.ok c.in_ok-parts.ensures.given (c.in_ok-terms.ensures.given bs c.in_ok-parts.ensures.branches) c.in_ok-ty.ensures term
