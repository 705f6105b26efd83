use Rattle.std.proofs.Common.{rules}
use Rattle.sig_definitions.specs.Env.{kinds}
use Rattle.module_rules.specs.Inner.Plain.{plain_why}
use Rattle.elab_judgments.specs.Refusals.Refusal.{of_mod}
use Rattle.elab_rules.proofs.Placing.{mapped-by}
use Rattle.elab_rules.proofs.path_rules.sig_path_rule.Goals as goal

pub returns-clause-refused : goal.returns-clause-refused
returns-clause-refused c = mapped-by of_mod plain_why _ c.path_sig.result c.map_err.result c.map_err.ensures.cases c.path_sig.ensures.refused (λ w r. r (kinds c.args.env.now) c.requires) (λ w e p. search rules)
