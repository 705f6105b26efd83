use Rattle.std.proofs.Common.{sym, ap, ◌∙◌}
use Rattle.omega_types.specs.Inner.View.{ty_of}
use Rattle.elab_rules.proofs.exp_rules.expect_arrow.Goals as goal

pub returns-in-Arrow-clause-given : goal.returns-in-Arrow-clause-given
returns-in-Arrow-clause-given c = ((c.in-Arrow.field-0, c.in-Arrow.field-1), sym c.plain.ensures ∙ (sym c.node.ensures ∙ ap ty_of c.in-Arrow.is))
