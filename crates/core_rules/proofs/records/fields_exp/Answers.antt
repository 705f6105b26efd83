use Rattle.std.proofs.Common.{◌≡◌, ◌+◌, true, List, [], drop, sym, ap, ◌∙◌, subst}
use Rattle.omega_kinds.specs.Name.{Name}
use Rattle.omega_types.specs.Fields.{row}
use Rattle.omega_types.specs.Ty.{Ty}
use Rattle.omega_terms.specs.Fields.{term_row}
use Rattle.omega_terms.specs.Term.{Term}
use Rattle.semantic_sigs.specs.declared.made.Typed.{Typed}
use Rattle.semantic_sigs.proofs.PartSteps.{left-more}
use Rattle.core_judgments.specs.CoreWhy.{DuplicateField}
use Rattle.core_judgments.specs.ExpRules.{RecordGives, RecordRefuses}
use Rattle.core_rules.specs.Inner.Records.{labelled, exp_fields}
use Rattle.core_rules.proofs.Conclusions.{exit}
use Rattle.core_rules.proofs.RecordSteps.{ExpsLeft, left-none, exps-begin, exps-next, exps-again, exps-end}
use Rattle.core_rules.proofs.records.fields_exp.Goals as goal

pub loop-field-init : goal.loop-field-init
loop-field-init c =
    let items = c.deref-field-items.result.now in
    subst (λ es. ExpsLeft items items es) (sym c.new-parts.ensures.empty) (exps-begin items)

pub returns-in_err-expect_new-clause-refused : goal.returns-in_err-expect_new-clause-refused
returns-in_err-expect_new-clause-refused c =
    let items = c.deref-field-items.result.now in
    let i = c.loop-field.field-index in
    let x = c.field-item.result in
    let es = c.loop-field.parts.entries in
    let here = subst (λ (r : List (Name × Typed)). ExpsLeft items r es) (left-more items i x c.loop-field-test.true c.field-item.is) c.loop-field.invariant in
    exit (c.contains_key.result ≡ true) (DuplicateField x.0) (RecordRefuses [] (exp_fields c.args.fields.items)) (λ e. subst (λ (xs : List (Name × Typed)). RecordRefuses [] (exp_fields xs) (DuplicateField x.0)) c.deref-field-items.ensures.value (exps-again items (drop (i + 1) items) x es (sym c.contains_key.ensures ∙ e) here)) c.from_residual.result c.in_err-expect_new.field-0.0 c.from_residual.ensures.1 c.in_err-expect_new.ensures.refused

pub loop-field-preserved : goal.loop-field-preserved
loop-field-preserved c =
    let items = c.deref-field-items.result.now in
    let i = c.loop-field.field-index in
    let x = c.field-item.result in
    let es = c.loop-field.parts.entries in
    let here = subst (λ (r : List (Name × Typed)). ExpsLeft items r es) (left-more items i x c.loop-field-test.true c.field-item.is) c.loop-field.invariant in
    subst (λ (fs : List (Name × Typed)). ExpsLeft items (drop (i + 1) items) fs) (sym c.in_ok-add_exp.ensures) (exps-next items (drop (i + 1) items) x es (sym c.contains_key.ensures ∙ c.in_ok-expect_new.ensures.ok) here)

pub returns-clause-given : goal.returns-clause-given
returns-clause-given c =
    let items = c.deref-field-items.result.now in
    let es = c.loop-field.parts.entries in
    let last = subst (λ (r : List (Name × Typed)). ExpsLeft items r es) (left-none items c.loop-field.field-index c.loop-field-test.false) c.loop-field.invariant in
    (row (labelled (λ e. e.ty) es), term_row (labelled (λ e. e.term) es), c.in_ok-ty.ensures ∙ ap (λ fs. Ty.Fields (row fs)) c.in_ok-typed_row.ensures, c.in_ok-term.ensures ∙ ap (λ fs. Term.Fields (term_row fs)) c.in_ok-term_row.ensures, subst (λ (xs : List (Name × Typed)). RecordGives [] (exp_fields xs) (row (labelled (λ e. e.ty) es)) (term_row (labelled (λ e. e.term) es))) c.deref-field-items.ensures.value (exps-end items es last))
