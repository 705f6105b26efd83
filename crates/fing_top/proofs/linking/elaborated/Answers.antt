use Rattle.std.proofs.Common.{◌+◌, ◌∙◌, List, [], map, rules, take, sym, ap, subst}
use Rattle.elab_rules.proofs.Given.{exit}
use Rattle.fing_refusals.specs.Inner.Plain.{Says}
use Rattle.unit_judgments.specs.Link.{UnitModule, interface_of}
use Rattle.unit_laws.specs.Derived.{UnitsMean, FirstRefused}
use Rattle.fing_units.specs.Inner.Units.{unit_of, units_of}
use Rattle.fing_top.proofs.Separate.{all_units, more_made, more_scope, more_under, none_yet, one_more, scope_so_far, stops}
use Rattle.fing_top.proofs.linking.elaborated.Goals as goal

pub next_module-requires-clause-derived : goal.next_module-requires-clause-derived
next_module-requires-clause-derived c = scope_so_far _ _ _ c.loop-unit.invariant.0 c.loop-unit.invariant.1

pub next_module-requires-clause-scope : goal.next_module-requires-clause-scope
next_module-requires-clause-scope c = c.loop-unit.invariant.2

pub returns-in_err-next-clause-refused : goal.returns-in_err-next-clause-refused
returns-in_err-next-clause-refused c =
    exit (λ e. Says e (FirstRefused [] c.args.units.now)) c.from_residual.result _ c.from_residual.ensures.1
    (stops c.args.units.now c.loop-unit.unit-index c.unit-item.result _ _ c.in_err-next.field-0.0 c.loop-unit-test.true c.unit-item.is c.loop-unit.invariant.0 c.loop-unit.invariant.1 c.in_err-next.ensures.refused)

pub loop-unit-init : goal.loop-unit-init
loop-unit-init c = none_yet c.args.units.now _ _ _ (search rules) (search rules) (search rules)

pub loop-unit-preserved : goal.loop-unit-preserved
loop-unit-preserved c =
    let ms = units_of c.loop-unit.made.items in
    let next = c.in_ok-next.next in
    let back = more_made c.loop-unit.made.items c.add.new.made.items next c.in_ok-add.ensures.made in
    let more = one_more c.args.units.now c.loop-unit.unit-index c.unit-item.result ms c.loop-unit.under next c.loop-unit-test.true c.unit-item.is c.loop-unit.invariant.0 c.loop-unit.invariant.1 c.in_ok-next.ensures.means in (
      subst (λ (vs : List UnitModule). UnitsMean [] (take (c.loop-unit.unit-index + 1) c.args.units.now) vs) (sym back) more,
      more_under ms c.loop-unit.under c.add.new.under (unit_of next) c.loop-unit.invariant.1 c.in_ok-add.ensures.under ∙ ap (map interface_of) (sym back),
      more_scope c.loop-unit.under c.add.new.under c.loop-unit.env c.next_module.new.env c.add.new.env next c.loop-unit.invariant.2 c.in_ok-next.ensures.same c.in_ok-add.ensures.env c.in_ok-add.ensures.under,
    )

pub returns-clause-means : goal.returns-clause-means
returns-clause-means c = all_units c.args.units.now c.loop-unit.unit-index _ c.loop-unit-test.false c.loop-unit.invariant.0
