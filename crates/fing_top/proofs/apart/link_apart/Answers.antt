use Rattle.std.proofs.Common.{[], arith, rules}
use Rattle.elab_rules.proofs.Given.{exit}
use Rattle.semantic_sigs.specs.Inner.Made.{module_of}
use Rattle.fing_refusals.specs.Inner.Plain.{Says}
use Rattle.unit_laws.specs.Derived.{FirstRefused, RefusesUnits}
use Rattle.fing_units.specs.Inner.Units.{units_of}
use Rattle.fing_top.proofs.Separate.{few_made, link_means, refuses_units}
use Rattle.fing_top.proofs.apart.link_apart.Goals as goal

pub returns-in_err-made-clause-first : goal.returns-in_err-made-clause-first
returns-in_err-made-clause-first c =
    exit (λ e. Says e (FirstRefused [] c.args.units.now)) c.from_residual.result _ c.from_residual.ensures.1 c.in_err-made.ensures.refused

pub returns-in_err-made-clause-refused : goal.returns-in_err-made-clause-refused
returns-in_err-made-clause-refused c =
    exit (λ e. Says e (RefusesUnits c.args.units.now)) c.from_residual.result _ c.from_residual.ensures.1
    (refuses_units c.args.units.now c.in_err-made.field-0.0 c.in_err-made.ensures.refused)

pub link_of-requires-clause-few : goal.link_of-requires-clause-few
link_of-requires-clause-few c =
    let made = c.in_ok-made.made in
    omega (arith, made.ok.0, few_made c.args.units.now made.items c.requires (search rules))

pub link_of-requires-clause-apart : goal.link_of-requires-clause-apart
link_of-requires-clause-apart c = (_, c.in_ok-made.ensures.means)

pub returns-clause-linked : goal.returns-clause-linked
returns-clause-linked c = (units_of c.in_ok-made.made.items, c.in_ok-made.ensures.means, c.in_ok-link_of.ensures)

pub returns-clause-derived : goal.returns-clause-derived
returns-clause-derived c = link_means (module_of c.in_ok-link_of.field-0) c.in_ok-made.ensures.means c.in_ok-link_of.ensures
