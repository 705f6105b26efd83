use Rattle.std.proofs.Common.{◌≡◌, ◌+◌, [], ◌∷◌, ◌++◌, drop, sym, ap, ap₂, ◌∙◌, subst}
use Rattle.omega_kinds.specs.declared.label.Label.{Label}
use Rattle.omega_types.specs.Fields.{Pairs, row, MayFollow}
use Rattle.omega_terms.specs.Fields.{TermPairs, term_row}
use Rattle.semantic_sigs.proofs.PartSteps.{left-more}
use Rattle.core_judgments.specs.CoreWhy.{NoBranch}
use Rattle.core_judgments.specs.ExpRules.{InOrder, LeastWithout}
use Rattle.core_rules.proofs.Cases.{LabelsLeft, labels-begin, labels-follow, labels-next, labels-missing, labels-end}
use Rattle.core_rules.proofs.RecordSteps.{left-none}
use Rattle.core_rules.proofs.sums.in_order.Goals as goal

pub loop-label-init : goal.loop-label-init
loop-label-init c =
    let es = c.args.parts.now.entries in
    let items = c.items-label-items.result.now in
    subst (λ (ts : TermPairs). LabelsLeft es items items ts) (sym c.new-terms.ensures) (labels-begin es items)

pub push-requires : goal.push-requires
push-requires c =
    let es = c.args.parts.now.entries in
    let items = c.items-label-items.result.now in
    let i = c.loop-label.label-index in
    let x = c.label-item.result in
    let ts = c.loop-label.terms in
    let here = subst (λ (left : Pairs). LabelsLeft es items left ts) (left-more items i x c.loop-label-test.true c.label-item.is) c.loop-label.invariant in
    subst (MayFollow ts) (sym c.in_ok-share.ensures) (labels-follow es items (drop (i + 1) items) x ts c.items-label-items.ensures.rising here)

pub loop-label-preserved : goal.loop-label-preserved
loop-label-preserved c =
    let es = c.args.parts.now.entries in
    let items = c.items-label-items.result.now in
    let i = c.loop-label.label-index in
    let x = c.label-item.result in
    let ts = c.loop-label.terms in
    let here = subst (λ (left : Pairs). LabelsLeft es items left ts) (left-more items i x c.loop-label-test.true c.label-item.is) c.loop-label.invariant in
    subst (λ (fs : TermPairs). LabelsLeft es items (drop (i + 1) items) fs) (sym (c.in_ok-push.ensures.ok ∙ ap₂ (λ l e. ts ++ (l, e) ∷ []) c.in_ok-share.ensures c.in_ok-share-2.ensures)) (labels-next es items (drop (i + 1) items) x c.in-Some.branch.now ts (sym c.in-Some.ensures) here)

pub returns-in_default-clause-refused : goal.returns-in_default-clause-refused
returns-in_default-clause-refused c =
    let es = c.args.parts.now.entries in
    let items = c.items-label-items.result.now in
    let i = c.loop-label.label-index in
    let x = c.label-item.result in
    let ts = c.loop-label.terms in
    let here = subst (λ (left : Pairs). LabelsLeft es items left ts) (left-more items i x c.loop-label-test.true c.label-item.is) c.loop-label.invariant in
    λ bs has. (x.0, subst (λ (ls : Pairs). LeastWithout bs (row ls) x.0) c.items-label-items.ensures.value (labels-missing es items (drop (i + 1) items) x ts c.items-label-items.ensures.rising (sym c.in_default.ensures) here bs has), ap NoBranch c.in_ok-spelled.ensures)

pub returns-clause-given : goal.returns-clause-given
returns-clause-given c =
    let es = c.args.parts.now.entries in
    let items = c.items-label-items.result.now in
    let ts = c.loop-label.terms in
    let last = subst (λ (left : Pairs). LabelsLeft es items left ts) (left-none items c.loop-label.label-index c.loop-label-test.false) c.loop-label.invariant in
    λ bs has. subst (λ (ls : Pairs). InOrder bs (row ls) (term_row ts)) c.items-label-items.ensures.value (labels-end es items ts last bs has)
