use Rattle.std.proofs.Common.{rules}
use Rattle.module_rules.specs.Inner.Plain.{plain_why}
use Rattle.elab_judgments.specs.Refusals.Refusal.{of_mod}
use Rattle.elab_rules.proofs.Placing.{kept, mapped}
use Rattle.elab_rules.proofs.Ruled.{named-found}
use Rattle.elab_rules.proofs.mod_rules.named_rule.Goals as goal

pub returns-clause-found : goal.returns-clause-found
returns-clause-found c = kept _ c.named.result c.map_err.result c.map_err.ensures.cases c.named.ensures.given (λ m h. named-found h)

pub returns-clause-refused : goal.returns-clause-refused
returns-clause-refused c = mapped of_mod plain_why _ c.named.result c.map_err.result c.map_err.ensures.cases c.named.ensures.refused (λ w e p. search rules)
