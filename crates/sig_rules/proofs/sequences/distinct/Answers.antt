use Rattle.std.proofs.Common.{sym, ◌∙◌}
use Rattle.std.proofs.lemmas.Bool.{true≢false}
use Rattle.sig_rules.proofs.Including.{old-refuses}
use Rattle.sig_rules.proofs.Naming.{is-old, one-passed}
use Rattle.sig_rules.proofs.sequences.distinct.Goals as goal

pub returns-then-contains-clause-refused : goal.returns-then-contains-clause-refused
returns-then-contains-clause-refused c =
    let items = c.items-field-items.result.now in
    let old = is-old c.args.before.now items c.loop-field.field-index c.field-item.result c.loop-field-test.true c.field-item.is (λ n. true≢false (sym c.if-contains.true ∙ c.contains.ensures.1 n)) c.loop-field.invariant in
    old-refuses c.args.next.now c.body.result.now c.node.result.now _ items c.args.before.now c.field-item.result.0 c.in_ok-share.field-0 c.in-Str.is c.node.ensures c.body.ensures c.items-field-items.ensures.value old c.in_ok-share.ensures

pub loop-field-preserved : goal.loop-field-preserved
loop-field-preserved c = one-passed c.args.before.now c.items-field-items.result.now c.loop-field.field-index c.field-item.result c.loop-field-test.true c.field-item.is (c.contains.ensures.0 c.if-contains.false) c.loop-field.invariant
