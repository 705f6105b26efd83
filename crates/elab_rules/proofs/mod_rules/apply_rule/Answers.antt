use Rattle.elab_rules.proofs.Ruled.{apply-forms}
use Rattle.elab_rules.proofs.mod_rules.apply_rule.Goals as goal

pub returns-in-Ok : goal.returns-in-Ok
returns-in-Ok c = λ ctx f param target left w p q. c.in-Ok.ensures.given ctx w.1 (apply-forms p q)
