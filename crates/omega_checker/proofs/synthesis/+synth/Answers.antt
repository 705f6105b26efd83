use Rattle.std.proofs.Common.{◌≡◌, ◌<◌, Some, length, sym, ap, subst, ◌∙◌, arith}
use Rattle.std.proofs.lemmas.Grind.{common_steps}
use Rattle.std.proofs.lemmas.Result.{IfOk-weaker}
use Rattle.std.specs.Option.{option_map}
use Rattle.omega_terms.specs.Fields.{term_row}
use Rattle.omega_terms.specs.Inner.Size.{term_size, pairs_size}
use Rattle.omega_terms.specs.Inner.View.{term_of}
use Rattle.omega_terms.proofs.OneIndex.{left-smaller}
use Rattle.type_store.specs.Trees.{ArePartsBelow}
use Rattle.type_store.proofs.TreeLaws.{part-below}
use Rattle.omega_node_laws.specs.Scope.{IsPackage, IsSum}
use Rattle.omega_node_laws.proofs.BinderSteps.{applied-done, arith-done, bound-done, call-applied, call-let, call-none, function-done, if-done, lam-done}
use Rattle.omega_node_laws.proofs.BinderSteps.{let-done, opened-done, pack-done, recursive-done, ty_lam-done, under-type-done, unpack-done, unpack-none}
use Rattle.omega_node_laws.proofs.BranchSteps.{branch-label, branch-other, branch-step, branches-differ, branches-done, case-done, case-fails, case-no-sum}
use Rattle.omega_node_laws.proofs.BranchSteps.{fields-below, fields-done, fields-none, fields-step, fix-done, fix-fails}
use Rattle.omega_node_laws.proofs.CodeSteps.{below-grows, cast, find-in, is-some, synth-in, var-done}
use Rattle.omega_node_laws.proofs.FieldLoop.{none-is}
use Rattle.omega_node_laws.proofs.ScopeSteps.{grows-itself}
use Rattle.omega_node_laws.proofs.SynthSteps.{get-done, inj-done, inst-done, roll-done, unroll-done}
use Rattle.omega_checker.proofs.Calls.{no-function, term-in}
use Rattle.omega_checker.proofs.synthesis.+synth.Goals as goal

pub synth-returns-in-Var : goal.synth-returns-in-Var
synth-returns-in-Var t c = IfOk-weaker c.find.result _ _ (λ o h. cast (sym (sym c.node.ensures ∙ ap term_of c.in-Var.is)) (var-done h)) c.find.ensures

-- calls

pub synth_call-returns-in_default : goal.synth_call-returns-in_default
synth_call-returns-in_default t c = call-none c.in_ok-found.ensures c.in_default.not-Some

pub synth_call-synth_let-requires : goal.synth_call-synth_let-requires
synth_call-synth_let-requires t c =
    let f = ap term_size (sym c.node.ensures ∙ ap term_of c.in-Lam.is) in (
      omega (arith, f, c.decreases),
      is-some c.synth.new.scope.types c.in_ok-found.field-0 c.in-Some.found c.in-Some.is
          (synth-in c.in_ok-found.field-0 c.in_ok-found.ensures),
    )

pub synth_call-synth_applied-requires : goal.synth_call-synth_applied-requires
synth_call-synth_applied-requires t c = (
  omega (arith, c.decreases),
  is-some c.synth.new.scope.types c.in_ok-found.field-0 c.in-Some.found c.in-Some.is
      (synth-in c.in_ok-found.field-0 c.in_ok-found.ensures),
)

pub synth_call-returns-in-Lam : goal.synth_call-returns-in-Lam
synth_call-returns-in-Lam t c =
    IfOk-weaker c.synth_let.result _ _ (λ o h. call-let (sym c.node.ensures ∙ ap term_of c.in-Lam.is) c.in_ok-found.ensures c.in-Some.is h) c.synth_let.ensures

pub synth_call-returns-in_default-node : goal.synth_call-returns-in_default-node
synth_call-returns-in_default-node t c =
    IfOk-weaker c.synth_applied.result _ _ (λ o h. call-applied
    (no-function c.node.result.now c.args.function.now c.node.ensures c.in_default-node.not-Lam) c.in_ok-found.ensures c.in-Some.is h) c.synth_applied.ensures

pub synth_let-synth_body-requires : goal.synth_let-synth_body-requires
synth_let-synth_body-requires t c = (
  omega (arith, c.decreases),
  is-some c.parameter.new.self.types c.in_ok-from.field-0 c.in-Some.from c.in-Some.is
      (find-in c.in_ok-from.field-0 c.in_ok-from.ensures),
)

pub synth_let-returns : goal.synth_let-returns
synth_let-returns t c = let-done c.requires c.in_ok-from.ensures c.in-Some.is c.in_ok-function.ensures c.called.ensures

pub synth_applied-returns : goal.synth_applied-returns
synth_applied-returns t c = applied-done c.requires c.in_ok-function.ensures c.called.ensures

-- functions

pub synth_body-returns : goal.synth_body-returns
synth_body-returns t c = IfOk-weaker c.function.result _ _ (λ o h. function-done c.requires c.in_ok-to.ensures h) c.function.ensures

pub synth_bound-returns : goal.synth_bound-returns
synth_bound-returns t c = bound-done c.in_ok-push.ensures c.in_ok-found.ensures c.pop.ensures

pub synth_function-returns : goal.synth_function-returns
synth_function-returns t c = IfOk-weaker c.synth_body.result _ _ (λ o h. lam-done c.in_ok-from.ensures c.in-Some.is h) c.synth_body.ensures

pub synth_type_function-returns : goal.synth_type_function-returns
synth_type_function-returns t c = IfOk-weaker c.type_function.result _ _ (λ o h. ty_lam-done c.in_ok-found.ensures h) c.type_function.ensures

pub synth_under-returns : goal.synth_under-returns
synth_under-returns t c = under-type-done c.in_ok-push_type.ensures c.in_ok-found.ensures c.pop_type.ensures

pub synth_fix-returns-then-is_found : goal.synth_fix-returns-then-is_found
synth_fix-returns-then-is_found t c =
    fix-done c.args.scope.now c.named.new.self c.named-2.new.self c.arrow.new.self c.synth_recursive.new.scope c.args.from.now c.args.to.now c.args.body.now
    c.in_ok-from.field-0 c.in_ok-to.field-0 c.in_ok-found.found c.in-Some.from c.in-Some-2.to c.in_ok-whole.whole
    c.in_ok-from.ensures c.in-Some.is c.in_ok-to.ensures c.in-Some-2.is
    (is-some c.named.new.self.types c.in_ok-from.field-0 c.in-Some.from c.in-Some.is (find-in c.in_ok-from.field-0 c.in_ok-from.ensures))
    (is-some c.named-2.new.self.types c.in_ok-to.field-0 c.in-Some-2.to c.in-Some-2.is (find-in c.in_ok-to.field-0 c.in_ok-to.ensures)) c.in_ok-whole.ensures
    c.in_ok-found.ensures (sym c.if-is_found.true ∙ c.is_found.ensures)

pub synth_fix-returns-else-is_found : goal.synth_fix-returns-else-is_found
synth_fix-returns-else-is_found t c =
    fix-fails c.args.scope.now c.named.new.self c.named-2.new.self c.arrow.new.self c.synth_recursive.new.scope c.args.from.now c.args.to.now c.args.body.now
    c.in_ok-from.field-0 c.in_ok-to.field-0 c.in_ok-found.found c.in-Some.from c.in-Some-2.to c.in_ok-whole.whole
    c.in_ok-from.ensures c.in-Some.is c.in_ok-to.ensures c.in-Some-2.is
    (is-some c.named.new.self.types c.in_ok-from.field-0 c.in-Some.from c.in-Some.is (find-in c.in_ok-from.field-0 c.in_ok-from.ensures))
    (is-some c.named-2.new.self.types c.in_ok-to.field-0 c.in-Some-2.to c.in-Some-2.is (find-in c.in_ok-to.field-0 c.in_ok-to.ensures)) c.in_ok-whole.ensures
    c.in_ok-found.ensures (sym c.if-is_found.false ∙ c.is_found.ensures)

pub synth_recursive-returns : goal.synth_recursive-returns
synth_recursive-returns t c = recursive-done c.args.inner c.in_ok-push.ensures c.in_ok-found.ensures c.pop.ensures

-- one part

pub synth_instance-instantiated-requires : goal.synth_instance-instantiated-requires
synth_instance-instantiated-requires t c = synth-in c.in_ok-body.body c.in_ok-body.ensures

pub synth_instance-returns : goal.synth_instance-returns
synth_instance-returns t c =
    IfOk-weaker c.instantiated.result _ _ (λ o h. inst-done c.args.scope.now c.synth.new.scope c.instantiated.new.self c.args.body.now c.in_ok-body.body o
    c.in_ok-body.ensures c.args.ty.now h) c.instantiated.ensures

pub synth_field-field_type-requires : goal.synth_field-field_type-requires
synth_field-field_type-requires t c = synth-in c.in_ok-whole.whole c.in_ok-whole.ensures

pub synth_field-returns : goal.synth_field-returns
synth_field-returns t c =
    get-done c.args.scope.now c.synth.new.scope c.synth.new.scope c.args.whole.now c.in_ok-whole.whole c.field_type.result c.in_ok-whole.ensures
    c.args.label.now (grows-itself c.synth.new.scope) c.field_type.ensures

pub synth_unrolled-unrolled-requires : goal.synth_unrolled-unrolled-requires
synth_unrolled-unrolled-requires t c = synth-in c.in_ok-whole.whole c.in_ok-whole.ensures

pub synth_unrolled-returns : goal.synth_unrolled-returns
synth_unrolled-returns t c =
    IfOk-weaker c.unrolled.result _ _ (λ o h. unroll-done c.args.scope.now c.synth.new.scope c.unrolled.new.self c.args.whole.now c.in_ok-whole.whole o
    c.in_ok-whole.ensures h) c.unrolled.ensures

-- a named type and one part

pub synth_injected-returns : goal.synth_injected-returns
synth_injected-returns t c =
    inj-done c.args.scope.now c.named.new.self c.synth.new.scope c.synth.new.scope c.args.body.now c.args.target.now c.in_ok-target.target c.in_ok-body.body
    c.injected.result c.in_ok-target.ensures c.in_ok-body.ensures c.args.label.now (grows-itself c.synth.new.scope) c.injected.ensures

pub synth_rolled-returns : goal.synth_rolled-returns
synth_rolled-returns t c =
    IfOk-weaker c.rolled.result _ _ (λ o h. roll-done c.args.scope.now c.named.new.self c.synth.new.scope c.rolled.new.self c.args.body.now c.args.target.now
    c.in_ok-target.target c.in_ok-body.body o c.in_ok-target.ensures c.in_ok-body.ensures h) c.rolled.ensures

-- packages

pub synth_package-packed-requires : goal.synth_package-packed-requires
synth_package-packed-requires t c =
    is-some c.synth.new.scope.types c.in_ok-body.field-0 c.in-Some.body c.in-Some.is (synth-in c.in_ok-body.field-0 c.in_ok-body.ensures)

pub synth_package-returns : goal.synth_package-returns
synth_package-returns t c = IfOk-weaker c.packed.result _ _ (λ o h. pack-done c.in_ok-body.ensures c.in-Some.is h) c.packed.ensures

pub synth_opened-package-requires : goal.synth_opened-package-requires
synth_opened-package-requires t c = synth-in c.in_ok-whole.whole c.in_ok-whole.ensures

pub synth_opened-returns-in_default : goal.synth_opened-returns-in_default
synth_opened-returns-in_default t c =
    unpack-none c.in_ok-whole.ensures (subst (IsPackage c.synth.new.scope.types c.in_ok-whole.whole)
    (sym (none-is c.in_ok-kind.field-0 c.in_default.not-Some)) c.in_ok-kind.ensures)

pub synth_opened-returns : goal.synth_opened-returns
synth_opened-returns t c =
    IfOk-weaker c.lowered.result _ _ (λ o h. unpack-done c.in-Some.kind c.in-Some.inner c.in_ok-whole.ensures
    (subst (IsPackage c.synth.new.scope.types c.in_ok-whole.whole) c.in-Some.is c.in_ok-kind.ensures) c.in_ok-found.ensures h) c.lowered.ensures

pub synth_inside-returns : goal.synth_inside-returns
synth_inside-returns t c = opened-done c.args.ty c.in_ok-push_type.ensures c.in_ok-found.ensures c.pop_type.ensures

-- choices and computations

pub synth_choice-returns : goal.synth_choice-returns
synth_choice-returns t c = IfOk-weaker c.chosen.result _ _ (λ o h. if-done c.in_ok-test.ensures c.in_ok-yes.ensures c.in_ok-no.ensures h) c.chosen.ensures

pub synth_arith-returns : goal.synth_arith-returns
synth_arith-returns t c = IfOk-weaker c.computed.result _ _ (λ o h. arith-done c.in_ok-left.ensures c.in_ok-right.ensures h) c.computed.ensures

-- records

pub synth_fields-loop-field-preserved : goal.synth_fields-loop-field-preserved
synth_fields-loop-field-preserved t c =
    record {
      so_far =
          fields-step c.args.scope.now c.loop-field.scope c.items-field-items.result.now c.loop-field.parts.items c.loop-field.field-index
          c.loop-field.invariant.so_far c.synth.new.scope c.field-item.result c.in_ok-number.field-0 c.in_ok-number.ensures c.field-item.is
          c.loop-field-test.true c.in-Some.number c.in_ok-share.field-0 c.push.new.self.items c.in-Some.is c.in_ok-share.ensures c.in_ok-push.ensures.items;
      size = left-smaller _ _;
    }

pub synth_fields-returns-in_default : goal.synth_fields-returns-in_default
synth_fields-returns-in_default t c =
    fields-none c.args.scope.now c.loop-field.scope c.items-field-items.result.now c.loop-field.parts.items c.loop-field.field-index
    c.loop-field.invariant.so_far c.synth.new.scope c.field-item.result c.in_ok-number.field-0 c.in_ok-number.ensures c.field-item.is c.loop-field-test.true
    c.in_default.not-Some c.args.fields.now c.items-field-items.ensures.rising c.items-field-items.ensures.value

pub synth_fields-make-requires : goal.synth_fields-make-requires
synth_fields-make-requires t c =
    fields-below c.args.scope.now c.loop-field.scope c.items-field-items.result.now c.loop-field.parts.items c.loop-field.field-index
    c.loop-field.invariant.so_far c.items-field-items.ensures.rising c.loop-field-test.false

pub synth_fields-returns : goal.synth_fields-returns
synth_fields-returns t c =
    fields-done c.args.scope.now c.loop-field.scope c.items-field-items.result.now c.loop-field.parts.items c.loop-field.field-index
    c.loop-field.invariant.so_far c.make.new.self c.in_ok-make.field-0 c.args.fields.now c.items-field-items.ensures.rising c.items-field-items.ensures.value
    c.loop-field-test.false c.in_ok-make.ensures

-- cases

pub synth_case-returns-in_default-3 : goal.synth_case-returns-in_default-3
synth_case-returns-in_default-3 t c =
    case-no-sum c.args.scope.now c.named.new.self c.synth.new.scope c.args.target.now c.args.whole.now
    (term_row c.args.branches.now) c.in_ok-target.field-0 c.in_ok-whole.field-0 c.in_ok-target.ensures c.in_ok-whole.ensures c.in-Some.target c.in-Some-2.whole
    c.in-Some.is c.in-Some-2.is
    (is-some c.named.new.self.types c.in_ok-target.field-0 c.in-Some.target c.in-Some.is (find-in c.in_ok-target.field-0 c.in_ok-target.ensures))
    (subst (λ q. IsSum c.synth.new.scope.types c.in-Some-2.whole (option_map (λ v. v.items) q))
    (sym (none-is c.in_ok-parts.field-0 c.in_default-3.not-Some)) c.in_ok-parts.ensures)

pub synth_case-synth_branches-requires : goal.synth_case-synth_branches-requires
synth_case-synth_branches-requires t c =
    let sum = subst (λ q. IsSum c.synth.new.scope.types c.in-Some-2.whole (option_map (λ v. v.items) q)) c.in-Some-3.is c.in_ok-parts.ensures in (
      omega (arith, c.decreases),
      (
        subst (ArePartsBelow (length c.synth.new.scope.types)) (sym c.as_slice.ensures.value) sum.0,
        below-grows c.in-Some.target c.in_ok-whole.ensures.grows
            (is-some c.named.new.self.types c.in_ok-target.field-0 c.in-Some.target c.in-Some.is (find-in c.in_ok-target.field-0 c.in_ok-target.ensures)),
      ),
    )

pub synth_case-returns-then-branch : goal.synth_case-returns-then-branch
synth_case-returns-then-branch t c =
    let sum = subst (λ q. IsSum c.synth.new.scope.types c.in-Some-2.whole (option_map (λ v. v.items) q)) c.in-Some-3.is c.in_ok-parts.ensures in
    case-done c.args.scope.now c.named.new.self c.synth.new.scope c.args.target.now c.args.whole.now
    (term_row c.args.branches.now) c.in_ok-target.field-0 c.in_ok-whole.field-0 c.in_ok-target.ensures c.in_ok-whole.ensures c.in-Some.target c.in-Some-2.whole
    c.in-Some.is c.in-Some-2.is
    (is-some c.named.new.self.types c.in_ok-target.field-0 c.in-Some.target c.in-Some.is (find-in c.in_ok-target.field-0 c.in_ok-target.ensures))
    c.synth_branches.new.scope c.as_slice.result.now c.in_ok-synth_branches.field-0
    (subst (λ ps. IsSum c.synth.new.scope.types c.in-Some-2.whole (Some ps)) (sym c.as_slice.ensures.value) sum) c.in_ok-synth_branches.ensures c.if-branch.true

pub synth_case-returns : goal.synth_case-returns
synth_case-returns t c =
    let sum = subst (λ q. IsSum c.synth.new.scope.types c.in-Some-2.whole (option_map (λ v. v.items) q)) c.in-Some-3.is c.in_ok-parts.ensures in
    case-fails c.args.scope.now c.named.new.self c.synth.new.scope c.args.target.now c.args.whole.now
    (term_row c.args.branches.now) c.in_ok-target.field-0 c.in_ok-whole.field-0 c.in_ok-target.ensures c.in_ok-whole.ensures c.in-Some.target c.in-Some-2.whole
    c.in-Some.is c.in-Some-2.is
    (is-some c.named.new.self.types c.in_ok-target.field-0 c.in-Some.target c.in-Some.is (find-in c.in_ok-target.field-0 c.in_ok-target.ensures))
    c.synth_branches.new.scope c.as_slice.result.now c.in_ok-synth_branches.field-0
    (subst (λ ps. IsSum c.synth.new.scope.types c.in-Some-2.whole (Some ps)) (sym c.as_slice.ensures.value) sum) c.in_ok-synth_branches.ensures
    c.if-branch.false

-- branches

pub synth_branches-returns-then-terms-parts : goal.synth_branches-returns-then-terms-parts
synth_branches-returns-then-terms-parts t c =
    branches-differ c.args.scope.now c.items-terms.result.now c.args.parts.now c.args.branches.now c.args.target c.items-terms.ensures.value
    c.if-terms-parts.true

pub synth_branches-returns-then-not-same_label : goal.synth_branches-returns-then-not-same_label
synth_branches-returns-then-not-same_label t c =
    branch-label c.args.scope.now c.loop-i.scope c.items-terms.result.now c.args.parts.now c.args.target c.loop-i.i c.loop-i.invariant.so_far
    c.index-terms-i.result c.index-parts-i.result
    (subst (λ m. c.loop-i.i < m) (sym c.if-terms-parts.false) c.loop-i-test.true) c.loop-i-test.true c.index-terms-i.is c.index-parts-i.is c.args.branches.now
    c.items-terms.ensures.value (λ l. let h = c.same_label.ensures.1 l in grind (arith, common_steps))

pub synth_branches-synth_bound-requires : goal.synth_branches-synth_bound-requires
synth_branches-synth_bound-requires t c =
    let w = subst (λ m. c.loop-i.i < m) (sym c.if-terms-parts.false) c.loop-i-test.true in
    let s = term-in c.items-terms.result.now c.loop-i.i c.index-terms-i.result c.index-terms-i.is w in
    let v = ap pairs_size c.items-terms.ensures.value in (
      omega (arith, s, v, c.decreases),
      below-grows c.index-parts-i.result.1 c.loop-i.invariant.so_far.grows
          (part-below (length c.args.scope.now.types) c.args.parts.now c.loop-i.i c.index-parts-i.result c.requires.parts c.index-parts-i.is
          c.loop-i-test.true),
    )

pub synth_branches-returns-then-not-is_found : goal.synth_branches-returns-then-not-is_found
synth_branches-returns-then-not-is_found t c =
    branch-other c.args.scope.now c.loop-i.scope c.items-terms.result.now c.args.parts.now c.args.target c.loop-i.i c.loop-i.invariant.so_far
    c.index-terms-i.result c.index-parts-i.result
    (subst (λ m. c.loop-i.i < m) (sym c.if-terms-parts.false) c.loop-i-test.true) c.loop-i-test.true c.index-terms-i.is c.index-parts-i.is
    c.synth_bound.new.scope c.in_ok-found.found
    (part-below (length c.args.scope.now.types) c.args.parts.now c.loop-i.i c.index-parts-i.result c.requires.parts c.index-parts-i.is c.loop-i-test.true)
    c.requires.target c.in_ok-found.ensures c.args.branches.now c.items-terms.ensures.value
    (let h = c.is_found.ensures in let g = c.if-not-is_found.true in grind (arith, common_steps))

pub synth_branches-loop-i-preserved : goal.synth_branches-loop-i-preserved
synth_branches-loop-i-preserved t c =
    let label : c.index-terms-i.result.0 ≡ c.index-parts-i.result.0 = c.same_label.ensures.0 (grind (arith, common_steps)) in
    record {
      so_far =
          branch-step c.args.scope.now c.loop-i.scope c.items-terms.result.now c.args.parts.now c.args.target c.loop-i.i c.loop-i.invariant.so_far
          c.index-terms-i.result c.index-parts-i.result
          (subst (λ m. c.loop-i.i < m) (sym c.if-terms-parts.false) c.loop-i-test.true) c.loop-i-test.true c.index-terms-i.is c.index-parts-i.is
          c.synth_bound.new.scope c.in_ok-found.found
          (part-below (length c.args.scope.now.types) c.args.parts.now c.loop-i.i c.index-parts-i.result c.requires.parts c.index-parts-i.is c.loop-i-test.true)
          c.requires.target c.in_ok-found.ensures label (let h = c.is_found.ensures in let g = c.if-not-is_found.false in grind (arith, common_steps));
      size = left-smaller _ _;
    }

pub synth_branches-returns : goal.synth_branches-returns
synth_branches-returns t c =
    branches-done c.args.scope.now c.loop-i.scope c.items-terms.result.now c.args.parts.now c.args.target c.loop-i.i c.loop-i.invariant.so_far
    c.args.branches.now c.items-terms.ensures.value c.if-terms-parts.false c.loop-i-test.false
