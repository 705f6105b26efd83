use Rattle.elab_judgments.specs.Judgments.Meaning.ModMeans.{mod_name}
use Rattle.elab_rules.proofs.Given.{err-at, ok-at}
use Rattle.elab_rules.proofs.Refuse.Modules.{mod_name-rule}
use Rattle.elab_rules.proofs.named.mod_name.Goals as goal

pub returns-clause-refused : goal.returns-clause-refused
returns-clause-refused c = err-at _ c.named_rule.ensures.refused (λ e r at. mod_name-rule r)

pub returns-clause-given : goal.returns-clause-given
returns-clause-given c = ok-at _ c.named_rule.ensures.given (λ m p at. mod_name p)
