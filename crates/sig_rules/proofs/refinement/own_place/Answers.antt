use Rattle.std.proofs.Common.{sym, ◌∙◌}
use Rattle.std.proofs.lemmas.Bool.{false≢true}
use Rattle.sig_rules.proofs.Fixing.{none-found, own-found, own-passed, shown-is}
use Rattle.sig_rules.proofs.refinement.own_place.Goals as goal

pub returns-then-found : goal.returns-then-found
returns-then-found c =
    let shown = shown-is c.node.result.now c.args.shown.now c.in-Typ.ty c.in-Typ.kind c.in-Typ.is c.node.ensures in
    own-found c.args.kinds.now c.loop-place.place c.index-kinds-place.result c.args.shown.now c.loop-place-test.true c.index-kinds-place.is (shown ∙ c.in_ok-found.ensures.0 c.if-found.true)

pub loop-place-preserved : goal.loop-place-preserved
loop-place-preserved c =
    let shown = shown-is c.node.result.now c.args.shown.now c.in-Typ.ty c.in-Typ.kind c.in-Typ.is c.node.ensures in
    own-passed c.args.kinds.now c.loop-place.place c.index-kinds-place.result c.args.shown.now c.loop-place-test.true c.index-kinds-place.is (λ e. false≢true (sym c.if-found.false ∙ c.in_ok-found.ensures.1 (sym shown ∙ e))) c.loop-place.invariant

pub returns : goal.returns
returns c = none-found c.args.kinds.now c.args.shown.now c.loop-place.place c.loop-place-test.false c.loop-place.invariant
