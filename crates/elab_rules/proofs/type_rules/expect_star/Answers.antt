use Rattle.std.proofs.Common.{ap}
use Rattle.omega_kinds.specs.View.{kind_tree}
use Rattle.elab_rules.proofs.Stars.{no-star, by-star}
use Rattle.elab_rules.proofs.type_rules.expect_star.Goals as goal

pub returns-in_ok-share-in-Arrow-clause-refused : goal.returns-in_ok-share-in-Arrow-clause-refused
returns-in_ok-share-in-Arrow-clause-refused c = by-star (no-star (ap kind_tree c.in-Arrow.is)) c.in_ok-share-in-Arrow.ensures c.refuse.ensures
