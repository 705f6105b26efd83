use Rattle.omega_types.specs.Mentions.{Mentions}
use Rattle.module_rules.proofs.LookedFor.{none-below}
use Rattle.module_rules.proofs.hidden.outside.Goals as goal

pub returns-then-mentions_hidden : goal.returns-then-mentions_hidden
returns-then-mentions_hidden c = c.mentions_hidden.ensures.0 c.if-mentions_hidden.true

pub returns : goal.returns
returns c =
    let none = none-below (λ i. Mentions i c.args.ty.now) c.args.count c.mentions_hidden.result c.mentions_hidden.ensures c.if-mentions_hidden.false in
    (c.in_ok-lowered.ensures.raised none, λ inner ctx k len n. c.in_ok-lowered.ensures.normal inner ctx k len n none)
