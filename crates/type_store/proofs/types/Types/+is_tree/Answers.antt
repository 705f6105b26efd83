use Rattle.std.proofs.Common.{◌≡◌, ◌<◌, length, arith, sym, ap, subst, ◌∙◌}
use Rattle.omega_types.specs.Fields.{row}
use Rattle.omega_types.specs.Inner.Size.{nodes}
use Rattle.omega_types.specs.Ty.{Ty}
use Rattle.omega_types.specs.Inner.View.{ty_of}
use Rattle.type_store.specs.Shape.{Shape}
use Rattle.type_store.specs.Trees.{ArePartsBelow, IsBelow}
use Rattle.type_store.specs.Inner.View.{shape_of}
use Rattle.type_store.proofs.PartSteps.{all-same, field-smaller, must-be, row_at-length, same-step}
use Rattle.type_store.proofs.StoreSteps.{smaller}
use Rattle.type_store.proofs.TreeLaws.{part-below, parts_below-more}
use Rattle.type_store.proofs.types.Types.+is_tree.Goals as goal

pub are_parts-returns-then-parts-fields : goal.are_parts-returns-then-parts-fields
are_parts-returns-then-parts-fields t c = (
  λ h. cc,
  λ h. absurd (c.if-parts-fields.true
      (row_at-length c.args.self.now c.args.parts.now c.args.fields.now h ∙ sym (ap length c.items-fields.ensures.value))),
)

pub are_parts-loop-i-init : goal.are_parts-loop-i-init
are_parts-loop-i-init t c = ((λ h. h, λ h. h), omega arith)

pub are_parts-is_tree-requires : goal.are_parts-is_tree-requires
are_parts-is_tree-requires t c =
    let w : c.loop-i.i < length c.items-fields.result.now = omega (arith, c.loop-i-test.true, c.if-parts-fields.false) in
    let f =
    field-smaller c.items-fields.result.now c.args.fields.now c.loop-i.i c.index-fields-i.result c.items-fields.ensures.value c.index-fields-i.is w
    c.loop-i.invariant.1 in (
      omega (arith, f, c.decreases),
      part-below
          (length c.args.self.now) c.args.parts.now c.loop-i.i c.index-parts-i.result c.requires c.index-parts-i.is c.loop-i-test.true,
    )

pub are_parts-returns-then-not-same_label : goal.are_parts-returns-then-not-same_label
are_parts-returns-then-not-same_label t c =
    let must =
    must-be c.args.self.now c.args.parts.now c.items-fields.result.now c.loop-i.i c.index-parts-i.result c.index-fields-i.result c.index-parts-i.is
    c.index-fields-i.is c.loop-i-test.true c.if-parts-fields.false c.args.fields.now c.items-fields.ensures.value c.loop-i.invariant.0 in
    (λ h. cc, λ h. sym c.if-not-same_label.true ∙ c.same_label.ensures.1 (must h).0)

pub are_parts-returns-then-not-is_tree : goal.are_parts-returns-then-not-is_tree
are_parts-returns-then-not-is_tree t c =
    let must =
    must-be c.args.self.now c.args.parts.now c.items-fields.result.now c.loop-i.i c.index-parts-i.result c.index-fields-i.result c.index-parts-i.is
    c.index-fields-i.is c.loop-i-test.true c.if-parts-fields.false c.args.fields.now c.items-fields.ensures.value c.loop-i.invariant.0 in
    (λ h. cc, λ h. sym c.if-not-is_tree.true ∙ c.is_tree.ensures.1 (must h).1)

pub are_parts-loop-i-preserved : goal.are_parts-loop-i-preserved
are_parts-loop-i-preserved t c =
    let w : c.loop-i.i < length c.items-fields.result.now = omega (arith, c.loop-i-test.true, c.if-parts-fields.false) in (
      same-step c.args.self.now c.args.parts.now c.items-fields.result.now c.loop-i.i c.index-parts-i.result c.index-fields-i.result c.index-parts-i.is
          c.index-fields-i.is c.loop-i-test.true c.if-parts-fields.false c.loop-i.invariant.0 (c.same_label.ensures.0 c.if-not-same_label.false)
          (c.is_tree.ensures.0 c.if-not-is_tree.false),
      smaller c.items-fields.result.now c.loop-i.i c.index-fields-i.result w c.loop-i.invariant.1,
    )

pub are_parts-returns : goal.are_parts-returns
are_parts-returns t c =
    all-same c.args.self.now c.args.parts.now c.items-fields.result.now c.args.fields.now c.loop-i.i c.items-fields.ensures.value c.loop-i-test.false
    c.if-parts-fields.false c.loop-i.invariant.0

pub is_tree-are_parts-requires : goal.is_tree-are_parts-requires
is_tree-are_parts-requires t c =
    let e : nodes (Ty.Fields (row c.in-Fields-Fields.b)) ≡ nodes c.args.ty.now = ap nodes (sym (ap ty_of c.in-Fields-Fields.is-1) ∙ c.node.ensures) in
    let low : IsBelow c.args.number (Shape.Fields c.in-Fields-Fields.a.items) =
    subst (IsBelow c.args.number) (ap shape_of c.in-Fields-Fields.is-0) c.form.ensures.below in
    let all : ArePartsBelow (length c.args.self.now) c.in-Fields-Fields.a.items =
    parts_below-more c.args.number (length c.args.self.now) c.in-Fields-Fields.a.items (omega (arith, c.requires)) low.0 in
    (omega (arith, e, c.decreases), subst (ArePartsBelow (length c.args.self.now)) (sym c.as_slice.ensures.value) all)

pub is_tree-are_parts-requires-in-Sum-Sum : goal.is_tree-are_parts-requires-in-Sum-Sum
is_tree-are_parts-requires-in-Sum-Sum t c =
    let e : nodes (Ty.Sum (row c.in-Sum-Sum.b)) ≡ nodes c.args.ty.now = ap nodes (sym (ap ty_of c.in-Sum-Sum.is-1) ∙ c.node.ensures) in
    let low : IsBelow c.args.number (Shape.Sum c.in-Sum-Sum.a.items) = subst (IsBelow c.args.number) (ap shape_of c.in-Sum-Sum.is-0) c.form.ensures.below in
    let all : ArePartsBelow (length c.args.self.now) c.in-Sum-Sum.a.items =
    parts_below-more c.args.number (length c.args.self.now) c.in-Sum-Sum.a.items (omega (arith, c.requires)) low.0 in
    (omega (arith, e, c.decreases), subst (ArePartsBelow (length c.args.self.now)) (sym c.as_slice-in-Sum-Sum.ensures.value) all)
