use Rattle.unit_judgments.proofs.linking.Goals as goal
use Rattle.unit_judgments.proofs.Scopes.{interfaces-give-scopes}
use Rattle.unit_judgments.proofs.Walks.{link-is-exact, link-is-good, interfaces-suffice}

pub returns-clause-exact : goal.returns-clause-exact
returns-clause-exact c = link-is-exact

pub returns-clause-replaced : goal.returns-clause-replaced
returns-clause-replaced c = interfaces-suffice

pub returns-clause-good : goal.returns-clause-good
returns-clause-good c = link-is-good

pub returns-clause-scopes : goal.returns-clause-scopes
returns-clause-scopes c = interfaces-give-scopes
