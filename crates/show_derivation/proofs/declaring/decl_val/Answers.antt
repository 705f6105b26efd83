use Rattle.elab_judgments.specs.Judgments.Meaning.{DeclMeans}
use Rattle.elab_rules.proofs.Given.{ok-at}
use Rattle.show_derivation.proofs.declaring.decl_val.Goals as goal

pub returns-clause-given : goal.returns-clause-given
returns-clause-given c = ok-at _ c.value_rule.ensures.given (λ x p at. DeclMeans.decl_val c.in_ok-found.ensures.given p)
