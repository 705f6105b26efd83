use Rattle.std.proofs.Common.{sym, ap₂, ◌∙◌}
use Rattle.type_store.specs.Shape.{parts_eq, shape_eq}
use Rattle.type_store.specs.Inner.ShapeLaws.{parts_test-is}
use Rattle.type_store.specs.Inner.View.{shape_of}
use Rattle.type_store.proofs.node.same_form.Goals as goal

pub returns-in-Fields-Fields : goal.returns-in-Fields-Fields
returns-in-Fields-Fields c =
    parts_test-is c.same_parts.result c.as_slice.result.now c.as_slice-in-Fields-Fields.result.now c.same_parts.ensures ∙
    (ap₂ parts_eq c.as_slice.ensures.value c.as_slice-in-Fields-Fields.ensures.value ∙
    sym (ap₂ (λ x y. shape_eq (shape_of x) (shape_of y)) c.in-Fields-Fields.is-0 c.in-Fields-Fields.is-1))

pub returns-in-Sum-Sum : goal.returns-in-Sum-Sum
returns-in-Sum-Sum c =
    parts_test-is c.same_parts-in-Sum-Sum.result c.as_slice-in-Sum-Sum.result.now c.as_slice-in-Sum-Sum-2.result.now c.same_parts-in-Sum-Sum.ensures ∙
    (ap₂ parts_eq c.as_slice-in-Sum-Sum.ensures.value c.as_slice-in-Sum-Sum-2.ensures.value ∙
    sym (ap₂ (λ x y. shape_eq (shape_of x) (shape_of y)) c.in-Sum-Sum.is-0 c.in-Sum-Sum.is-1))
