use Rattle.std.proofs.Common.{IfSome}
use Rattle.sig_definitions.specs.Env.{kinds}
use Rattle.fing_syntax.specs.Inner.Leaves.{place}
use Rattle.data_types.specs.Inner.Plain.{plain_why}
use Rattle.elab_rules.proofs.Injected.{by-roll}
use Rattle.elab_rules.proofs.Placing.{if_some-map}
use Rattle.elab_rules.proofs.data_rules.roll_rule.Goals as goal

pub returns-in-Err-clause-refused : goal.returns-in-Err-clause-refused
returns-in-Err-clause-refused c =
    let a = c.args in
    let refused = if_some-map (plain_why c.in-Err.why) (λ w r. r (kinds a.env.now) c.requires.normal) c.in-Err.ensures.refused in
    by-roll (plain_why c.in-Err.why) a.env.now (place a.from) (place a.to) (place c.roll_place-at.result) a.value.ty a.target.now.ty c.data_refusal.result c.requires.star refused c.roll_place-at.ensures c.data_refusal.ensures
