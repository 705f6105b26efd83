use Rattle.std.proofs.Common.{ap}
use Rattle.omega_kinds.specs.View.{kind_tree}
use Rattle.elab_rules.proofs.Stars.{no-star, operator-kind}
use Rattle.elab_rules.proofs.type_rules.expect_operator.Goals as goal

pub returns-in-Arrow-clause-given : goal.returns-in-Arrow-clause-given
returns-in-Arrow-clause-given c = operator-kind _ (no-star (ap kind_tree c.in-Arrow.is))
