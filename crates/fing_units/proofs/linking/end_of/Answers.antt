use Rattle.std.proofs.Common.{[], ap, map, take_all, ◌∙◌, subst}
use Rattle.std.specs.Prelude.{IfOk}
use Rattle.sig_definitions.specs.Signatures.FieldOrder.{in_order}
use Rattle.sig_premise_laws.proofs.NameOrder.{in_order-same}
use Rattle.unit_judgments.specs.Interfaces.{env_of}
use Rattle.unit_judgments.specs.Link.{interface_of, names_after}
use Rattle.module_rules.proofs.Ended.{Ends}
use Rattle.fing_units.specs.Inner.Units.{units_of}
use Rattle.fing_units.proofs.Linked.{scope-step}
use Rattle.fing_units.proofs.linking.end_of.Goals as goal

pub loop-unit-preserved : goal.loop-unit-preserved
loop-unit-preserved c =
    scope-step c.args.units.now c.loop-unit.unit-index c.unit-item.result c.loop-unit.env c.push_interface.new.env c.loop-unit.names c.in_ok-names.names c.loop-unit-test.true c.unit-item.is c.in_ok-push_interface.ensures c.in_ok-names.ensures c.loop-unit.invariant

pub returns : goal.returns
returns c =
    let us = c.args.units.now in
    let all = take_all c.loop-unit.unit-index us c.loop-unit-test.false in
    let env = c.loop-unit.invariant.0 ∙ ap (λ xs. env_of (map interface_of (units_of xs))) all in
    let names = c.in_ok-list.ensures ∙ (c.loop-unit.invariant.1 ∙ ap (λ xs. names_after [] (units_of xs)) all) in
    subst (λ g. IfOk c.end_struct.result (Ends g (names_after [] (units_of us)))) env
    (subst (λ ns. IfOk c.end_struct.result (Ends c.loop-unit.env ns)) (ap in_order names ∙ in_order-same (names_after [] (units_of us)) c.requires.1) c.end_struct.ensures)
