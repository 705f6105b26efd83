use Rattle.std.proofs.Common.{ap, ◌∙◌}
use Rattle.type_store.specs.Inner.View.{shape_of}
use Rattle.omega_node_laws.proofs.CodeSteps.{sum-of}
use Rattle.omega_checker.proofs.scope.Scope.sum.Goals as goal

pub returns-in_ok-copied-in-Sum : goal.returns-in_ok-copied-in-Sum
returns-in_ok-copied-in-Sum c =
    let is = ap shape_of c.in-Sum.is in
    sum-of c.args.self.now.types c.args.ty (shape_of c.form.result.now) c.in-Sum.parts.items c.in_ok-copied-in-Sum.field-0.items c.requires is
    (c.in_ok-copied-in-Sum.ensures ∙ c.as_slice.ensures.value) c.form.ensures.below c.form.ensures.value
