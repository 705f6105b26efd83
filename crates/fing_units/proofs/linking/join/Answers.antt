use Rattle.std.proofs.Common.{[], map, subst, sym}
use Rattle.sig_laws.specs.Good.{Names}
use Rattle.semantic_sigs.specs.Inner.Made.{module_of}
use Rattle.module_judgments.specs.Sequence.{Collected}
use Rattle.unit_judgments.specs.Interfaces.{env_of}
use Rattle.unit_judgments.specs.Link.{interface_of, names_after}
use Rattle.unit_judgments.proofs.Places.{front-all}
use Rattle.fing_units.specs.Inner.Units.{units_of}
use Rattle.fing_units.proofs.Linked.{linked-start, linked-step}
use Rattle.fing_units.proofs.linking.join.Goals as goal

pub end_of-requires : goal.end_of-requires
end_of-requires c =
    subst (λ us. Names (env_of (map interface_of (units_of us))) (names_after [] (units_of us))) (sym c.deref.ensures.value) (front-all (units_of c.args.units.items) c.requires.own c.requires.good).1

pub loop-unit-init : goal.loop-unit-init
loop-unit-init c =
    let e = c.in_ok-end.ensures in
    linked-start c.args.units.items e.0 e.1 (module_of c.in_ok-end.end) c.of-rest.result c.requires.own c.requires.good
    (subst (λ us. Collected (env_of (map interface_of (units_of us))) (names_after [] (units_of us)) e.0 e.1) c.deref.ensures.value e.2) e.3 c.of-rest.ensures

pub loop-unit-preserved : goal.loop-unit-preserved
loop-unit-preserved c =
    linked-step (units_of c.args.units.items) c.loop-unit.left.items c.pop.new.self.items c.in-Some.unit c.loop-unit.rest c.in_ok-rest.rest c.in-Some.ensures.items c.requires.own c.requires.good c.in_ok-rest.ensures c.loop-unit.invariant
