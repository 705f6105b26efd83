use Rattle.std.proofs.Common.{◌≡◌, ap, below_more, refl, sym, ◌∙◌}
use Rattle.std.proofs.lemmas.Bool.{false≢true}
use Rattle.fing_units.specs.declared.unit_module.UnitModule.{UnitModule as CodeUnit}
use Rattle.fing_units.proofs.Linked.{foreign-here, none-differs, own-here}
use Rattle.fing_units.proofs.linking.first_foreign.Goals as goal

under-same : {u v : CodeUnit} → u ≡ v → u.under ≡ v.under
under-same e = ap (λ (u : CodeUnit). u.under) e

pub returns-then-not-stands_under : goal.returns-then-not-stands_under
returns-then-not-stands_under c =
    foreign-here c.args.units.now c.loop-at.at c.index-units-at.result c.loop-at-test.true c.index-units-at.is (λ q. false≢true (c.if-not-stands_under.ensures.1 (sym (under-same c.index-units-at.is) ∙ q))) c.loop-at.invariant

pub loop-at-preserved : goal.loop-at-preserved
loop-at-preserved c =
    below_more _ _ c.loop-at.invariant (own-here c.args.units.now c.loop-at.at c.index-units-at.result c.loop-at-test.true c.index-units-at.is (under-same c.index-units-at.is ∙ c.if-not-stands_under.ensures.0 refl))

pub returns : goal.returns
returns c = none-differs c.args.units.now c.loop-at.at c.loop-at-test.false c.loop-at.invariant
