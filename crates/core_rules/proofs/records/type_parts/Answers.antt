use Rattle.std.proofs.Common.{◌≡◌, ◌≢◌, ◌+◌, true, List, [], drop, sym, ap, ◌∙◌, subst}
use Rattle.omega_kinds.specs.Kind.{Kind}
use Rattle.omega_kinds.specs.Name.{Name}
use Rattle.omega_kinds.specs.View.{kind_tree}
use Rattle.omega_types.specs.Fields.{row}
use Rattle.omega_types.specs.Ty.{Ty}
use Rattle.semantic_sigs.specs.declared.made.Kinded.{Kinded}
use Rattle.semantic_sigs.proofs.PartSteps.{left-more}
use Rattle.core_judgments.specs.CoreWhy.{DuplicateField, KindDiffer}
use Rattle.core_judgments.specs.TypeRules.{RecordTypeGives, RecordTypeRefuses}
use Rattle.core_rules.specs.Inner.Records.{labelled, type_fields}
use Rattle.core_rules.proofs.Conclusions.{exit}
use Rattle.core_rules.proofs.RecordSteps.{TypesLeft, left-none, types-begin, types-next, types-again, types-kind, types-end}
use Rattle.core_rules.proofs.records.type_parts.Goals as goal

pub loop-field-init : goal.loop-field-init
loop-field-init c =
    let items = c.deref-field-items.result.now in
    subst (λ es. TypesLeft items items es) (sym c.new-parts.ensures.empty) (types-begin items)

pub returns-in_err-expect_new-clause-refused : goal.returns-in_err-expect_new-clause-refused
returns-in_err-expect_new-clause-refused c =
    let items = c.deref-field-items.result.now in
    let i = c.loop-field.field-index in
    let x = c.field-item.result in
    let es = c.loop-field.parts.entries in
    let here = subst (λ (r : List (Name × Kinded)). TypesLeft items r es) (left-more items i x c.loop-field-test.true c.field-item.is) c.loop-field.invariant in
    exit (c.contains_key.result ≡ true) (DuplicateField x.0) (RecordTypeRefuses [] (type_fields c.args.fields.items)) (λ e. subst (λ (xs : List (Name × Kinded)). RecordTypeRefuses [] (type_fields xs) (DuplicateField x.0)) c.deref-field-items.ensures.value (types-again items (drop (i + 1) items) x es (sym c.contains_key.ensures ∙ e) here)) c.from_residual.result c.in_err-expect_new.field-0.0 c.from_residual.ensures.1 c.in_err-expect_new.ensures.refused

pub returns-in_err-expect_star-clause-refused : goal.returns-in_err-expect_star-clause-refused
returns-in_err-expect_star-clause-refused c =
    let items = c.deref-field-items.result.now in
    let i = c.loop-field.field-index in
    let x = c.field-item.result in
    let es = c.loop-field.parts.entries in
    let here = subst (λ (r : List (Name × Kinded)). TypesLeft items r es) (left-more items i x c.loop-field-test.true c.field-item.is) c.loop-field.invariant in
    let k = kind_tree x.1.kind in
    exit (k ≢ Kind.Star) (KindDiffer k Kind.Star) (RecordTypeRefuses [] (type_fields c.args.fields.items)) (λ n. subst (λ (xs : List (Name × Kinded)). RecordTypeRefuses [] (type_fields xs) (KindDiffer k Kind.Star)) c.deref-field-items.ensures.value (types-kind items (drop (i + 1) items) x es (sym c.contains_key.ensures ∙ c.in_ok-expect_new.ensures.ok) n here)) c.from_residual-in_err-expect_star.result c.in_err-expect_star.field-0.0 c.from_residual-in_err-expect_star.ensures.1 c.in_err-expect_star.ensures.refused

pub loop-field-preserved : goal.loop-field-preserved
loop-field-preserved c =
    let items = c.deref-field-items.result.now in
    let i = c.loop-field.field-index in
    let x = c.field-item.result in
    let es = c.loop-field.parts.entries in
    let here = subst (λ (r : List (Name × Kinded)). TypesLeft items r es) (left-more items i x c.loop-field-test.true c.field-item.is) c.loop-field.invariant in
    subst (λ (fs : List (Name × Ty)). TypesLeft items (drop (i + 1) items) fs) (sym c.in_ok-add_type.ensures) (types-next items (drop (i + 1) items) x es (sym c.contains_key.ensures ∙ c.in_ok-expect_new.ensures.ok) c.in_ok-expect_star.ensures.ok here)

pub returns-clause-given : goal.returns-clause-given
returns-clause-given c =
    let items = c.deref-field-items.result.now in
    let es = c.loop-field.parts.entries in
    let last = subst (λ (r : List (Name × Kinded)). TypesLeft items r es) (left-none items c.loop-field.field-index c.loop-field-test.false) c.loop-field.invariant in
    subst (λ fs. RecordTypeGives [] (type_fields c.args.fields.items) (row fs)) (sym c.in_ok-type_row.ensures) (subst (λ (xs : List (Name × Kinded)). RecordTypeGives [] (type_fields xs) (row (labelled (λ t. t) es))) c.deref-field-items.ensures.value (types-end items es last))
