use Rattle.module_judgments.specs.ModRules.{NamedGives}
use Rattle.elab_judgments.specs.Judgments.Meaning.ModMeans.{mod_name}
use Rattle.elab_rules.proofs.Given.{found-map}
use Rattle.elab_rules.proofs.paths.standing_name.Goals as goal

pub returns-clause-given : goal.returns-clause-given
returns-clause-given c = found-map _ c.in_ok-standing.field-0 c.in_ok-standing.ensures (λ m e at. mod_name (NamedGives.named e))
