use Rattle.sig_definitions.specs.Signatures.SigMentions.{MentionsSig}
use Rattle.module_rules.proofs.LookedFor.{none-first, none-next, some-found, none-found}
use Rattle.module_rules.proofs.hidden.sig_mentions_hidden.Goals as goal

pub loop-index-init : goal.loop-index-init
loop-index-init c = none-first (λ i. MentionsSig i c.args.sig.now)

pub loop-index-preserved : goal.loop-index-preserved
loop-index-preserved c =
    none-next (λ i. MentionsSig i c.args.sig.now) c.loop-index.index c.sig_mentions.result c.loop-index.invariant c.if-sig_mentions.false c.sig_mentions.ensures

pub returns-then-sig_mentions : goal.returns-then-sig_mentions
returns-then-sig_mentions c =
    some-found (λ i. MentionsSig i c.args.sig.now) c.args.count c.loop-index.index c.sig_mentions.result c.loop-index-test.true c.if-sig_mentions.true c.sig_mentions.ensures

pub returns : goal.returns
returns c = none-found (λ i. MentionsSig i c.args.sig.now) c.args.count c.loop-index.index c.loop-index-test.false c.loop-index.invariant
