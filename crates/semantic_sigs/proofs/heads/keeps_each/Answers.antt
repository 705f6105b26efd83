use Rattle.std.proofs.Common.{IsTrue, refl, sym, ◌∙◌, subst}
use Rattle.semantic_sigs.proofs.StillSteps.{moved-at, still-all, still-next}
use Rattle.semantic_sigs.proofs.heads.keeps_each.Goals as goal

pub returns-then-not-keeps : goal.returns-then-not-keeps
returns-then-not-keeps c =
    (λ h i. cc, λ all. subst IsTrue c.if-not-keeps.true (c.keeps.ensures.1 (sym (moved-at c.args.places.now c.loop-i.i _ c.loop-i-test.true) ∙ all c.loop-i.i)))

pub loop-i-preserved : goal.loop-i-preserved
loop-i-preserved c =
    still-next c.args.places.now c.loop-i.i c.loop-i.invariant (moved-at c.args.places.now c.loop-i.i _ c.loop-i-test.true ∙ c.keeps.ensures.0 c.if-not-keeps.false)

pub returns : goal.returns
returns c = (λ _. still-all c.args.places.now c.loop-i.i c.loop-i-test.false c.loop-i.invariant, λ _. refl)
