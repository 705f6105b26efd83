use Rattle.semantic_sigs.specs.Inner.Standing.{standing_module}
use Rattle.elab_judgments.specs.Judgments.Meaning.{ModMeans}
use Rattle.elab_judgments.specs.Judgments.Meaning.ModMeans.{mod_project}
use Rattle.elab_rules.proofs.Given.{exit, found-is}
use Rattle.elab_rules.proofs.Refuse.Modules.{mod_project-whole, mod_project-rule}
use Rattle.elab_rules.proofs.paths.+standing.Goals as goal

pub standing_project-returns-in_err-found-clause-refused : goal.standing_project-returns-in_err-found-clause-refused
standing_project-returns-in_err-found-clause-refused t c = exit _ c.from_residual.result c.in_err-found.field-0.0 c.from_residual.ensures.1 (λ at. mod_project-whole c.in_err-found.ensures.refused)

pub standing_project-returns-in_err-part_rule-in-Some-clause-refused : goal.standing_project-returns-in_err-part_rule-in-Some-clause-refused
standing_project-returns-in_err-part_rule-in-Some-clause-refused t c =
    let means = found-is (λ m. ModMeans c.args.env.now c.args.whole.now (standing_module m)) c.in_ok-found.field-0 c.in-Some.found c.in-Some.is c.in_ok-found.ensures.given in
    exit _ c.from_residual-in_err-part_rule-in-Some.result c.in_err-part_rule-in-Some.field-0.0 c.from_residual-in_err-part_rule-in-Some.ensures.1 (λ at. mod_project-rule means c.in_err-part_rule-in-Some.ensures.refused)

pub standing_project-returns-in_ok-part_rule-in-Some-clause-given : goal.standing_project-returns-in_ok-part_rule-in-Some-clause-given
standing_project-returns-in_ok-part_rule-in-Some-clause-given t c =
    let means = found-is (λ m. ModMeans c.args.env.now c.args.whole.now (standing_module m)) c.in_ok-found.field-0 c.in-Some.found c.in-Some.is c.in_ok-found.ensures.given in
    λ at. mod_project means (c.in_ok-part_rule-in-Some.ensures.given _)
