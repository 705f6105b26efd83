use Rattle.sig_definitions.specs.Signatures.SigMentions.{MentionsSig}
use Rattle.module_rules.proofs.LookedFor.{none-below}
use Rattle.module_rules.proofs.hidden.outside_sig.Goals as goal

pub returns-then-sig_mentions_hidden : goal.returns-then-sig_mentions_hidden
returns-then-sig_mentions_hidden c = c.sig_mentions_hidden.ensures.0 c.if-sig_mentions_hidden.true

pub returns : goal.returns
returns c =
    let none = none-below (λ i. MentionsSig i c.args.sig.now) c.args.count c.sig_mentions_hidden.result c.sig_mentions_hidden.ensures c.if-sig_mentions_hidden.false in
    (c.in_ok-lowered.ensures.raised none, λ inner ctx len n. c.in_ok-lowered.ensures.normal inner ctx len n none)
