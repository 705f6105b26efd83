use Rattle.std.proofs.Common.{subst}
use Rattle.semantic_sigs.specs.Inner.Made.{module_of}
use Rattle.elab_judgments.specs.Refusals.Task.{a_mod}
use Rattle.elab_rules.specs.Inner.Answered.{RefusedAs}
use Rattle.elab_rules.proofs.Given.{err-map, ok-map}
use Rattle.unit_laws.specs.Derived.{UnitMeans}
use Rattle.unit_laws.specs.Units.{unit_mod}
use Rattle.fing_elab.proofs.Separate.{refused-unit, unit-meaning}
use Rattle.fing_elab.proofs.units.unit_in.Goals as goal

pub returns-clause-means : goal.returns-clause-means
returns-clause-means c =
    ok-map c.sealed_body.result c.sealed_body.ensures.given
    (λ m p. unit-meaning c.args.env.now c.args.unit.now (module_of m) c.requires (subst (λ u. UnitMeans c.args.env.now u (module_of m)) c.unit.view_is p))

pub returns-clause-refused : goal.returns-clause-refused
returns-clause-refused c =
    err-map c.sealed_body.result c.sealed_body.ensures.refused
    (λ e h. refused-unit c.args.env.now c.args.unit.now e c.requires (subst (λ u. RefusedAs c.args.env.now (a_mod (unit_mod u)) e) c.unit.view_is h))
