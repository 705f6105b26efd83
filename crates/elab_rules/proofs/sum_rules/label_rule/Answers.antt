use Rattle.std.proofs.Common.{rules}
use Rattle.core_rules.specs.Inner.Plain.{plain_why}
use Rattle.elab_judgments.specs.Refusals.Refusal.{of_core}
use Rattle.elab_rules.proofs.Placing.{mapped}
use Rattle.elab_rules.proofs.sum_rules.label_rule.Goals as goal

pub returns-clause-refused : goal.returns-clause-refused
returns-clause-refused c = mapped of_core plain_why _ c.case_part.result c.map_err.result c.map_err.ensures.cases c.case_part.ensures.refused (λ w e p. search rules)
