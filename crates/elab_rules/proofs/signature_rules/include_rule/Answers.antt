use Rattle.std.proofs.Common.{rules}
use Rattle.sig_rules.specs.Inner.Plain.{plain_why}
use Rattle.elab_judgments.specs.Refusals.Refusal.{of_sig}
use Rattle.elab_rules.proofs.Placing.{mapped}
use Rattle.elab_rules.proofs.signature_rules.include_rule.Goals as goal

pub returns-clause-refused : goal.returns-clause-refused
returns-clause-refused c = mapped of_sig plain_why _ c.include.result c.map_err.result c.map_err.ensures.cases c.include.ensures.refused (λ w e p. search rules)
