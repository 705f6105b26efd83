use Rattle.omega_kinds.specs.View.{kind_tree}
use Rattle.semantic_sigs.proofs.FoundSteps.{found-type, found-module, found-value, found-param}
use Rattle.semantic_sigs.proofs.env.found.Goals as goal

pub returns-in-TypeVar : goal.returns-in-TypeVar
returns-in-TypeVar c = found-type c.args.slots.now c.args.at c.args.types c.args.terms c.index-slots-at.result c.in-TypeVar.field-0 c.requires c.in-TypeVar.is

pub returns-in_ok-term-in-Named : goal.returns-in_ok-term-in-Named
returns-in_ok-term-in-Named c =
    found-module c.args.slots.now c.args.at c.args.types c.args.terms c.index-slots-at.result c.in-Named.field-0 c.in-Named.sig c.in_ok-sig-in-Named.sig c.in_ok-term-in-Named.term c.requires c.in-Named.is c.in_ok-sig-in-Named.ensures.value c.in_ok-term-in-Named.ensures

pub returns-in_ok-term-in-Value : goal.returns-in_ok-term-in-Value
returns-in_ok-term-in-Value c =
    found-value c.args.slots.now c.args.at c.args.types c.args.terms c.index-slots-at.result c.in-Value.field-0 c.in-Value.ty c.in_ok-ty-in-Value.ty c.in_ok-sig-in-Value.sig c.in_ok-make-in-Value.field-0 c.in_ok-term-in-Value.term c.requires c.in-Value.is c.in_ok-ty-in-Value.ensures.value c.in_ok-sig-in-Value.ensures c.in_ok-make-in-Value.ensures c.in_ok-term-in-Value.ensures

pub returns-in_ok-sig-in-TypeParam : goal.returns-in_ok-sig-in-TypeParam
returns-in_ok-sig-in-TypeParam c =
    found-param c.args.slots.now c.args.at c.args.types c.args.terms c.index-slots-at.result c.in-TypeParam.field-0 (kind_tree c.in_ok-kind-in-TypeParam.kind) c.in_ok-sig-in-TypeParam.sig c.in_ok-sig-in-TypeParam.term c.requires c.in-TypeParam.is c.in_ok-kind-in-TypeParam.ensures c.in_ok-sig-in-TypeParam.ensures.sig c.in_ok-sig-in-TypeParam.ensures.term
