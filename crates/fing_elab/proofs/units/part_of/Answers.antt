use Rattle.semantic_sigs.specs.Inner.Made.{module_of}
use Rattle.sig_laws.proofs.Formed.WellFormedShape.{kinded}
use Rattle.module_judgments.specs.ModRules.{ProjectRefuses}
use Rattle.module_judgments.specs.Projection.{Projected}
use Rattle.module_rules.specs.Inner.Plain.{plain_why}
use Rattle.elab_rules.proofs.Given.{err-map, ok-at}
use Rattle.elab_rules.proofs.Placing.{if_some-map}
use Rattle.fing_elab.proofs.Separate.{both-joined}
use Rattle.fing_elab.proofs.units.part_of.Goals as goal

pub returns-clause-given : goal.returns-clause-given
returns-clause-given c =
    let whole = c.in_ok-whole.whole in
    ok-at c.project.result c.project.ensures.given
    (λ m p ctx. both-joined c.args.first c.args.second c.args.end c.in_ok-rest.rest whole (λ w. Projected ctx w c.args.name.now (module_of m)) ctx c.in_ok-rest.ensures c.in_ok-whole.ensures (λ ok. p ctx (kinded ctx (module_of whole) ok)))

pub returns-clause-refused : goal.returns-clause-refused
returns-clause-refused c =
    err-map c.project.result c.project.ensures.refused
    (λ e h. if_some-map (plain_why e) (λ why k ctx. both-joined c.args.first c.args.second c.args.end c.in_ok-rest.rest c.in_ok-whole.whole (λ w. ProjectRefuses w c.args.name.now why) ctx c.in_ok-rest.ensures c.in_ok-whole.ensures (λ ok. k)) h)
