use Rattle.std.proofs.Common.{◌≡◌, IfOk, ◌-◌, length, refl, ap, ◌∙◌, subst}
use Rattle.omega_types.specs.Index.{shift}
use Rattle.type_normal.specs.Inner.Placed.{head_of}
use Rattle.type_normal.specs.Inner.Heads.{Head, came}
use Rattle.type_normal.proofs.HeadSteps.{put-outside, put-inside}
use Rattle.type_normal.proofs.placing.place_listed.Goals as goal

pub returns-then-place-count : goal.returns-then-place-count
returns-then-place-count c =
    subst (λ (u : Head). IfOk c.stand.result (λ p. head_of p ≡ u)) (put-outside c.args.types.now c.args.depth c.args.index c.requires c.if-place-count.true) c.stand.ensures

pub returns : goal.returns
returns c =
    let at = length c.args.types.now - 1 - (c.args.index - c.args.depth) in
    ap came (c.in_ok-shift.ensures ∙ ap (shift c.args.depth 0) (c.plain.ensures ∙ c.index-types-types.is)) ∙ put-inside c.args.types.now c.args.depth c.args.index at c.index-types-types.result c.requires c.if-place-count.false refl
