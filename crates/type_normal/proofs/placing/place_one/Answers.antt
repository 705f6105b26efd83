use Rattle.std.proofs.Common.{◌≡◌, IfOk, subst, arith}
use Rattle.omega_kinds.specs.View.{kind_tree}
use Rattle.type_normal.specs.Inner.Heads.{Head}
use Rattle.type_normal.specs.Inner.Placed.{head_of}
use Rattle.type_normal.proofs.PlaceSteps.{place-same, place-above}
use Rattle.type_normal.proofs.placing.place_one.Goals as goal

pub returns-in_ok-share : goal.returns-in_ok-share
returns-in_ok-share c =
    let k = kind_tree c.args.kind.now in
    let j = kind_tree c.in_ok-share.field-0 in
    let e = c.if-index-depth.true in
    place-same k j c.in_ok-ty.ty c.args.arg.now c.args.at c.args.depth c.args.index c.requires e c.in_ok-share.ensures c.in_ok-ty.ensures

pub returns-else-index-depth : goal.returns-else-index-depth
returns-else-index-depth c =
    let e = place-above (kind_tree c.args.kind.now) c.args.arg.now c.args.at c.args.depth c.args.index (omega arith) in
    subst (λ (u : Head). IfOk c.stand.result (λ p. head_of p ≡ u)) e c.stand.ensures
