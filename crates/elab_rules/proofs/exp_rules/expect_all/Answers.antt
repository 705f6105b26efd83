use Rattle.std.proofs.Common.{sym, ap, ◌∙◌}
use Rattle.omega_kinds.specs.View.{kind_tree}
use Rattle.omega_types.specs.Inner.View.{ty_of}
use Rattle.elab_rules.proofs.exp_rules.expect_all.Goals as goal

pub returns-in-All-clause-given : goal.returns-in-All-clause-given
returns-in-All-clause-given c = ((kind_tree c.in-All.field-0, c.in-All.field-1), sym c.plain.ensures ∙ (sym c.node.ensures ∙ ap ty_of c.in-All.is))
