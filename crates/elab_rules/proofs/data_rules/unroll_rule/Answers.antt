use Rattle.std.proofs.Common.{rules}
use Rattle.data_types.specs.Inner.Plain.{plain_why}
use Rattle.elab_judgments.specs.Refusals.Refusal.{of_data}
use Rattle.elab_rules.proofs.Placing.{mapped}
use Rattle.elab_rules.proofs.data_rules.unroll_rule.Goals as goal

pub returns-clause-refused : goal.returns-clause-refused
returns-clause-refused c = mapped of_data plain_why _ c.unroll_exp.result c.map_err.result c.map_err.ensures.cases c.unroll_exp.ensures.refused (λ w e p. search rules)
