use Rattle.std.proofs.Common.{rules}
use Rattle.module_rules.specs.Inner.Plain.{plain_why}
use Rattle.elab_judgments.specs.Refusals.Refusal.{of_mod}
use Rattle.elab_rules.proofs.Placing.{mapped}
use Rattle.elab_rules.proofs.mod_rules.parts_rule.Goals as goal

pub returns-clause-refused : goal.returns-clause-refused
returns-clause-refused c = mapped of_mod plain_why _ c.functor_parts.result c.map_err.result c.map_err.ensures.cases c.functor_parts.ensures.refused (λ w e p. search rules)
