use Rattle.std.proofs.Common.{◌≡◌, ◌≢◌, ◌+◌, true, List, [], drop, sym, ◌∙◌, subst}
use Rattle.omega_kinds.specs.Name.{Name}
use Rattle.omega_kinds.specs.declared.label.Label.{Label}
use Rattle.omega_types.specs.Fields.{row}
use Rattle.omega_types.specs.Ty.{Ty}
use Rattle.omega_terms.specs.Typing.{HasPart}
use Rattle.semantic_sigs.specs.declared.made.Typed.{Typed}
use Rattle.semantic_sigs.proofs.PartSteps.{left-more}
use Rattle.core_judgments.specs.CoreWhy.{NoField, Differ, DuplicateField}
use Rattle.core_judgments.specs.ExpRules.{BranchesGive, BranchesRefuse}
use Rattle.core_rules.specs.Inner.Records.{exp_fields, HasBranches}
use Rattle.core_rules.proofs.Cases.{BranchesLeft, branches-begin, branches-next, branches-again, branches-label, branches-type, branches-end}
use Rattle.core_rules.proofs.Conclusions.{exit}
use Rattle.core_rules.proofs.RecordSteps.{left-none}
use Rattle.core_rules.proofs.sums.by_name.Goals as goal

pub loop-branch-init : goal.loop-branch-init
loop-branch-init c =
    let items = c.deref-branch-items.result.now in
    subst (λ es. BranchesLeft (row c.args.labels.now) c.args.target.now items items es) (sym c.new-parts.ensures.empty) (branches-begin (row c.args.labels.now) c.args.target.now items)

pub returns-in_err-expect_new-clause-refused : goal.returns-in_err-expect_new-clause-refused
returns-in_err-expect_new-clause-refused c =
    let items = c.deref-branch-items.result.now in
    let r = row c.args.labels.now in
    let t = c.args.target.now in
    let i = c.loop-branch.branch-index in
    let x = c.branch-item.result in
    let es = c.loop-branch.parts.entries in
    let here = subst (λ (left : List (Name × Typed)). BranchesLeft r t items left es) (left-more items i x c.loop-branch-test.true c.branch-item.is) c.loop-branch.invariant in
    exit (c.contains_key.result ≡ true) (DuplicateField x.0) (BranchesRefuse r t [] (exp_fields c.args.branches.items)) (λ e. subst (λ (xs : List (Name × Typed)). BranchesRefuse r t [] (exp_fields xs) (DuplicateField x.0)) c.deref-branch-items.ensures.value (branches-again r t items (drop (i + 1) items) x es (sym c.contains_key.ensures ∙ e) here)) c.from_residual.result c.in_err-expect_new.field-0.0 c.from_residual.ensures.1 c.in_err-expect_new.ensures.refused

pub returns-in_err-label_type-clause-refused : goal.returns-in_err-label_type-clause-refused
returns-in_err-label_type-clause-refused c =
    let items = c.deref-branch-items.result.now in
    let r = row c.args.labels.now in
    let t = c.args.target.now in
    let i = c.loop-branch.branch-index in
    let x = c.branch-item.result in
    let es = c.loop-branch.parts.entries in
    let here = subst (λ (left : List (Name × Typed)). BranchesLeft r t items left es) (left-more items i x c.loop-branch-test.true c.branch-item.is) c.loop-branch.invariant in
    exit ((u : Ty) → HasPart r (Label.Name x.0) u → ⊥) (NoField x.0) (BranchesRefuse r t [] (exp_fields c.args.branches.items)) (λ n. subst (λ (xs : List (Name × Typed)). BranchesRefuse r t [] (exp_fields xs) (NoField x.0)) c.deref-branch-items.ensures.value (branches-label r t items (drop (i + 1) items) x es (sym c.contains_key.ensures ∙ c.in_ok-expect_new.ensures.ok) n here)) c.from_residual-in_err-label_type.result c.in_err-label_type.field-0.0 c.from_residual-in_err-label_type.ensures.1 c.in_err-label_type.ensures.refused

pub returns-in_err-expect_same-clause-refused : goal.returns-in_err-expect_same-clause-refused
returns-in_err-expect_same-clause-refused c =
    let items = c.deref-branch-items.result.now in
    let r = row c.args.labels.now in
    let t = c.args.target.now in
    let i = c.loop-branch.branch-index in
    let x = c.branch-item.result in
    let es = c.loop-branch.parts.entries in
    let here = subst (λ (left : List (Name × Typed)). BranchesLeft r t items left es) (left-more items i x c.loop-branch-test.true c.branch-item.is) c.loop-branch.invariant in
    exit (x.1.ty ≢ t) (Differ x.1.ty t) (BranchesRefuse r t [] (exp_fields c.args.branches.items)) (λ n. subst (λ (xs : List (Name × Typed)). BranchesRefuse r t [] (exp_fields xs) (Differ x.1.ty t)) c.deref-branch-items.ensures.value (branches-type r t items (drop (i + 1) items) x c.in_ok-label_type.field-0 es (sym c.contains_key.ensures ∙ c.in_ok-expect_new.ensures.ok) c.in_ok-label_type.ensures.given n here)) c.from_residual-in_err-expect_same.result c.in_err-expect_same.field-0.0 c.from_residual-in_err-expect_same.ensures.1 c.in_err-expect_same.ensures.refused

pub loop-branch-preserved : goal.loop-branch-preserved
loop-branch-preserved c =
    let items = c.deref-branch-items.result.now in
    let r = row c.args.labels.now in
    let t = c.args.target.now in
    let i = c.loop-branch.branch-index in
    let x = c.branch-item.result in
    let es = c.loop-branch.parts.entries in
    let here = subst (λ (left : List (Name × Typed)). BranchesLeft r t items left es) (left-more items i x c.loop-branch-test.true c.branch-item.is) c.loop-branch.invariant in
    subst (λ (fs : List (Name × Typed)). BranchesLeft r t items (drop (i + 1) items) fs) (sym c.in_ok-add_exp.ensures) (branches-next r t items (drop (i + 1) items) x c.in_ok-label_type.field-0 es (sym c.contains_key.ensures ∙ c.in_ok-expect_new.ensures.ok) c.in_ok-label_type.ensures.given c.in_ok-expect_same.ensures.ok here)

pub returns-clause-given : goal.returns-clause-given
returns-clause-given c =
    let items = c.deref-branch-items.result.now in
    let r = row c.args.labels.now in
    let t = c.args.target.now in
    let es = c.loop-branch.parts.entries in
    let last = subst (λ (left : List (Name × Typed)). BranchesLeft r t items left es) (left-none items c.loop-branch.branch-index c.loop-branch-test.false) c.loop-branch.invariant in
    subst (λ (xs : List (Name × Typed)). BranchesGive r t [] (exp_fields xs)) c.deref-branch-items.ensures.value (branches-end r t items es last).0

pub returns-clause-branches : goal.returns-clause-branches
returns-clause-branches c =
    let items = c.deref-branch-items.result.now in
    let r = row c.args.labels.now in
    let t = c.args.target.now in
    let es = c.loop-branch.parts.entries in
    let last = subst (λ (left : List (Name × Typed)). BranchesLeft r t items left es) (left-none items c.loop-branch.branch-index c.loop-branch-test.false) c.loop-branch.invariant in
    subst (λ (xs : List (Name × Typed)). HasBranches (exp_fields xs) es) c.deref-branch-items.ensures.value (branches-end r t items es last).1
