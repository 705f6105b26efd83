use Rattle.std.proofs.Common.{◌≡◌, length, arith, ap, refl, subst, sym, ◌∙◌}
use Rattle.std.proofs.lemmas.Result.{IfOk-weaker}
use Rattle.omega_kinds.specs.View.{kind_tree}
use Rattle.omega_types.specs.Fields.{row}
use Rattle.omega_types.specs.Index.{shift}
use Rattle.omega_types.specs.Inner.Size.{nodes}
use Rattle.omega_types.specs.Inner.View.{ty_of}
use Rattle.omega_types.specs.Ty.{Ty}
use Rattle.type_store.specs.Inner.View.{shape_of}
use Rattle.type_store.specs.Shape.{Shape}
use Rattle.type_store.specs.Trees.{ArePartsBelow, IsBelow, at, tree_at}
use Rattle.type_store.proofs.PartSteps.{field-smaller}
use Rattle.type_store.proofs.TreeLaws.{part-below, parts_below-more}
use Rattle.omega_checker.proofs.PutSteps.{same-if, put-under, parts-length, operators-same, operators-differ}
use Rattle.omega_checker.proofs.putting.+puts.Goals as goal

pub puts-puts_fields-requires : goal.puts-puts_fields-requires
puts-puts_fields-requires t c =
    let e : nodes (Ty.Fields (row c.in-Fields-Fields-default.a)) ≡ nodes c.args.body.now =
    ap nodes (sym (ap ty_of c.in-Fields-Fields-default.is-0) ∙ c.node.ensures) in
    let low : IsBelow c.args.found (Shape.Fields c.in-Fields-Fields-default.b.items) =
    subst (IsBelow c.args.found) (ap shape_of c.in-Fields-Fields-default.is-1) c.form.ensures.below in
    let all : ArePartsBelow (length c.args.types.now) c.in-Fields-Fields-default.b.items =
    parts_below-more c.args.found (length c.args.types.now) c.in-Fields-Fields-default.b.items (omega (arith, c.requires)) low.0 in
    (omega (arith, e, c.decreases), subst (ArePartsBelow (length c.args.types.now)) (sym c.as_slice.ensures.value) all)

pub puts-puts_fields-requires-in-Sum-Sum-default : goal.puts-puts_fields-requires-in-Sum-Sum-default
puts-puts_fields-requires-in-Sum-Sum-default t c =
    let e : nodes (Ty.Sum (row c.in-Sum-Sum-default.a)) ≡ nodes c.args.body.now = ap nodes (sym (ap ty_of c.in-Sum-Sum-default.is-0) ∙ c.node.ensures) in
    let low : IsBelow c.args.found (Shape.Sum c.in-Sum-Sum-default.b.items) =
    subst (IsBelow c.args.found) (ap shape_of c.in-Sum-Sum-default.is-1) c.form.ensures.below in
    let all : ArePartsBelow (length c.args.types.now) c.in-Sum-Sum-default.b.items =
    parts_below-more c.args.found (length c.args.types.now) c.in-Sum-Sum-default.b.items (omega (arith, c.requires)) low.0 in
    (omega (arith, e, c.decreases), subst (ArePartsBelow (length c.args.types.now)) (sym c.as_slice-in-Sum-Sum-default.ensures.value) all)

pub puts-returns-in_ok-puts-in-Apply-Apply-Star-2 : goal.puts-returns-in_ok-puts-in-Apply-Apply-Star-2
puts-returns-in_ok-puts-in-Apply-Apply-Star-2 t c =
    let is = sym c.form.ensures.value ∙ ap (λ f. tree_at c.args.types.now (shape_of f)) c.in-Apply-Apply-Star.is-1 in
    operators-same (kind_tree c.args.kind.now) c.args.at (shift c.args.depth 0 c.args.arg.now) c.args.body.now (at c.args.types.now c.args.found) _ _ _ _ _ _
    (ap kind_tree c.in-Apply-Apply-Star.is-2)
    (sym c.node.ensures ∙ ap ty_of c.in-Apply-Apply-Star.is-0) is c.if-branch-2.true c.in_ok-puts-in-Apply-Apply-Star.ensures
    c.in_ok-puts-in-Apply-Apply-Star-2.ensures

pub puts-returns-else-branch-2 : goal.puts-returns-else-branch-2
puts-returns-else-branch-2 t c =
    let is = sym c.form.ensures.value ∙ ap (λ f. tree_at c.args.types.now (shape_of f)) c.in-Apply-Apply-Star.is-1 in
    operators-differ (kind_tree c.args.kind.now) c.args.at (shift c.args.depth 0 c.args.arg.now) c.args.body.now (at c.args.types.now c.args.found) _ _ _ _ _
    (ap kind_tree c.in-Apply-Apply-Star.is-2)
    (sym c.node.ensures ∙ ap ty_of c.in-Apply-Apply-Star.is-0) is c.if-branch-2.false c.in_ok-puts-in-Apply-Apply-Star.ensures

pub puts_fields-returns-then-parts-found : goal.puts_fields-returns-then-parts-found
puts_fields-returns-then-parts-found t c = (
  λ h. cc,
  λ h. absurd (c.if-parts-found.true
      (ap length c.items-parts.ensures.value ∙ parts-length (kind_tree c.args.kind.now) c.args.at
      (shift c.args.depth 0 c.args.arg.now) c.args.fields.now c.args.types.now c.args.found.now h)),
)

pub puts_fields-puts-requires : goal.puts_fields-puts-requires
puts_fields-puts-requires t c =
    let f =
    field-smaller c.items-parts.result.now c.args.fields.now c.loop-i.i c.index-parts-i.result c.items-parts.ensures.value c.index-parts-i.is c.loop-i-test.true
    c.loop-i.invariant.1 in (
      omega (arith, f, c.decreases),
      part-below (length c.args.types.now) c.args.found.now c.loop-i.i c.index-found-i.result c.requires c.index-found-i.is
          (omega (arith, c.loop-i-test.true, c.if-parts-found.false)),
    )

pub puts_under-returns : goal.puts_under-returns
puts_under-returns t c =
    IfOk-weaker c.puts.result _ _ (λ b h. same-if h
    (put-under (kind_tree c.args.kind.now) c.args.at c.args.depth _ _ c.args.arg.now c.args.body.now c.in_ok-at.ensures c.in_ok-depth.ensures) refl)
    c.puts.ensures
