use Rattle.std.proofs.Common.{rules}
use Rattle.packages.specs.Inner.Plain.{plain_why}
use Rattle.elab_judgments.specs.Refusals.Refusal.{of_unpack}
use Rattle.elab_rules.proofs.Placing.{mapped}
use Rattle.elab_rules.proofs.package_rules.unpack_rule.Goals as goal

pub returns-clause-refused : goal.returns-clause-refused
returns-clause-refused c = mapped of_unpack plain_why _ c.unpack_module.result c.map_err.result c.map_err.ensures.cases c.unpack_module.ensures.refused (λ w e p. search rules)
