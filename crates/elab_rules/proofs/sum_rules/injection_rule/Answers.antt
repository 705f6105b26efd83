use Rattle.fing_syntax.specs.Inner.Leaves.{place, spelled}
use Rattle.core_rules.specs.Inner.Plain.{plain_why}
use Rattle.elab_rules.proofs.Injected.{by-injection}
use Rattle.elab_rules.proofs.sum_rules.injection_rule.Goals as goal

pub returns-in-Err-clause-refused : goal.returns-in-Err-clause-refused
returns-in-Err-clause-refused c =
    let a = c.args in
    by-injection (plain_why c.in-Err.why) a.env.now (spelled a.label.now) (place a.from) (place a.to) (place c.injection_place-at.result) a.value.ty a.target.now.ty c.core_refusal.result c.requires c.in-Err.ensures.refused c.injection_place-at.ensures c.core_refusal.ensures
