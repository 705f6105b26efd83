use Rattle.std.proofs.Common.{refl, sym, ap, ◌∙◌, arith}
use Rattle.std.proofs.lemmas.Grind.{common_steps}
use Rattle.omega_kinds.specs.View.{kind_tree}
use Rattle.omega_types.specs.Inner.View.{ty_of}
use Rattle.type_normal.specs.Inner.Placed.{head_of}
use Rattle.type_normal.proofs.Calls.{came-falls, came_at-falls}
use Rattle.type_normal.proofs.HeadSteps.{row-changed}
use Rattle.type_normal.proofs.placing.+place.Goals as goal

pub apply-place-requires : goal.apply-place-requires
apply-place-requires t c =
    let from = kind_tree c.in-Lam.from in
    let e = sym c.node.ensures ∙ ap ty_of c.in-Lam.is in
    let f = came-falls (head_of c.args.operator) c.in-Came.ty c.args.arg c.in-Lam.body from from (ap head_of c.in-Came.is) e refl in
    (omega (arith, f, c.decreases), tt)

pub apply-place-requires-in-Lam-Arrow : goal.apply-place-requires-in-Lam-Arrow
apply-place-requires-in-Lam-Arrow t c =
    let kind = kind_tree c.in-CameAt.kind in
    let from = kind_tree c.in-Lam-Arrow.from.value in
    let to = kind_tree c.in-Lam-Arrow.to.value in
    let entered = kind_tree c.deref.result.now in
    let j = kind_tree c.in-Lam-Arrow.field-0-0 in
    let e = sym c.node-in-CameAt.ensures ∙ ap ty_of c.in-Lam-Arrow.is-0 in
    let g = ap kind_tree c.in-Lam-Arrow.is-1 in
    let h = ap kind_tree c.deref.ensures in
    let f = came_at-falls (head_of c.args.operator) c.in-CameAt.ty c.args.arg c.in-Lam-Arrow.body kind from to entered j (ap head_of c.in-CameAt.is) e g h in
    (omega (arith, f, c.decreases), tt)

pub place_fields-returns : goal.place_fields-returns
place_fields-returns t c = grind (arith, common_steps, row-changed)
