use Rattle.std.proofs.Common.{sym, ap, subst, ◌∙◌}
use Rattle.omega_types.specs.Fields.{at_label}
use Rattle.type_store.specs.Trees.{IsBelow, tree_at}
use Rattle.type_store.specs.Inner.View.{shape_of}
use Rattle.type_store.proofs.PartSteps.{field-number}
use Rattle.type_store.proofs.types.Types.field.Goals as goal

pub returns-in-Fields : goal.returns-in-Fields
returns-in-Fields c =
    field-number c.args.self.now c.args.whole c.in-Fields.parts.items c.args.label.now c.copied.result c.requires
    (subst (IsBelow c.args.whole) (ap shape_of c.in-Fields.is) c.form.ensures.below)
    (sym (ap (λ f. tree_at c.args.self.now (shape_of f)) c.in-Fields.is) ∙ c.form.ensures.value)
    (c.copied.ensures ∙ (c.part_at.ensures ∙ ap (λ xs. at_label xs c.args.label.now) c.as_slice.ensures.value))
