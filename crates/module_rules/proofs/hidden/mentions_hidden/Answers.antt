use Rattle.omega_types.specs.Mentions.{Mentions}
use Rattle.module_rules.proofs.LookedFor.{none-first, none-next, some-found, none-found}
use Rattle.module_rules.proofs.hidden.mentions_hidden.Goals as goal

pub loop-index-init : goal.loop-index-init
loop-index-init c = none-first (λ i. Mentions i c.args.ty.now)

pub loop-index-preserved : goal.loop-index-preserved
loop-index-preserved c =
    none-next (λ i. Mentions i c.args.ty.now) c.loop-index.index c.mentions.result c.loop-index.invariant c.if-mentions.false c.mentions.ensures.free

pub returns-then-mentions : goal.returns-then-mentions
returns-then-mentions c =
    some-found (λ i. Mentions i c.args.ty.now) c.args.count c.loop-index.index c.mentions.result c.loop-index-test.true c.if-mentions.true c.mentions.ensures.free

pub returns : goal.returns
returns c = none-found (λ i. Mentions i c.args.ty.now) c.args.count c.loop-index.index c.loop-index-test.false c.loop-index.invariant
