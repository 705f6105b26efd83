use Rattle.elab_judgments.specs.Judgments.Meaning.{DeclMeans}
use Rattle.elab_rules.proofs.Given.{ok-at}
use Rattle.show_derivation.proofs.declaring.decl_is.Goals as goal

pub returns-clause-given : goal.returns-clause-given
returns-clause-given c = ok-at _ c.type_rule.ensures.given (λ x p at. DeclMeans.decl_is c.in_ok-found.ensures.given p)
