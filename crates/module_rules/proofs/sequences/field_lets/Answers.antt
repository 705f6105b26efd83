use Rattle.std.proofs.Common.{◌≡◌, drop, ap, ◌∙◌, arith}
use Rattle.semantic_sigs.specs.Inner.Fields.{sig_row}
use Rattle.module_judgments.specs.Sequence.{field_lets}
use Rattle.module_rules.proofs.Lets.{lets-first, lets-next}
use Rattle.module_rules.proofs.sequences.field_lets.Goals as goal

pub loop-left-init : goal.loop-left-init
loop-left-init c = record {
  within = omega arith;
  built = lets-first c.items-fields.result.now _ c.args.body (omega arith);
}

pub loop-left-preserved : goal.loop-left-preserved
loop-left-preserved c = record {
  within = omega (arith, c.loop-left.invariant.within);
  built = lets-next c.items-fields.result.now c.loop-left.left c.index-fields-left.result c.in_ok-name.name c.in_ok-from.from c.in_ok-whole.whole c.in_ok-part.part c.loop-left.term c.in_ok-term.term c.args.body c.loop-left-test.true c.loop-left.invariant.within c.loop-left.invariant.built c.index-fields-left.is c.in_ok-name.ensures c.in_ok-whole.ensures c.in_ok-part.ensures c.in_ok-from.ensures c.in_ok-term.ensures;
}

pub returns : goal.returns
returns c =
    let none : c.loop-left.left ≡ 0 = omega arith in
    c.loop-left.invariant.built ∙ (ap (λ n. field_lets n (sig_row (drop n c.items-fields.result.now)) c.args.body) none ∙ ap (λ fs. field_lets 0 (sig_row fs) c.args.body) c.items-fields.ensures.value)
