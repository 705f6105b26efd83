use Rattle.std.proofs.Common.{IfOk, ap, sym, ◌∙◌, subst}
use Rattle.sig_definitions.specs.Signatures.FieldOrder.{in_order}
use Rattle.sig_definitions.specs.Signatures.RecordOrder.{NamesRise}
use Rattle.sig_laws.specs.Good.{Bound}
use Rattle.sig_premise_laws.proofs.NameOrder.{in_order-same, in_order-rise, bound-in_order}
use Rattle.module_rules.proofs.Ended.{Ends}
use Rattle.module_rules.proofs.bindings.end_struct.Goals as goal

pub returns-then-rise : goal.returns-then-rise
returns-then-rise c =
    let rising : NamesRise c.args.names.now = subst NamesRise c.items.ensures (c.rise.ensures.0 c.if-rise.true) in
    subst (λ ns. IfOk c.collected.result (Ends c.args.env.now ns)) (c.items-then-rise.ensures ∙ sym (in_order-same c.args.names.now rising)) c.collected.ensures

pub collected-requires : goal.collected-requires
collected-requires c = record {
  found = subst (Bound c.args.env.now) (sym c.items-then-rise.ensures) c.requires;
  rising = subst NamesRise (c.items.ensures ∙ sym c.items-then-rise.ensures) (c.rise.ensures.0 c.if-rise.true);
}

pub collected-requires-2-clause-found : goal.collected-requires-2-clause-found
collected-requires-2-clause-found c =
    subst (Bound c.args.env.now) (sym (c.items-3.ensures ∙ (c.in_ok-sorted.ensures ∙ ap in_order c.items-2.ensures))) (bound-in_order c.args.env.now c.args.names.now c.requires)

pub collected-requires-2-clause-rising : goal.collected-requires-2-clause-rising
collected-requires-2-clause-rising c =
    subst NamesRise (sym (c.items-3.ensures ∙ (c.in_ok-sorted.ensures ∙ ap in_order c.items-2.ensures))) (in_order-rise c.args.names.now)

pub returns : goal.returns
returns c =
    subst (λ ns. IfOk c.collected-2.result (Ends c.args.env.now ns)) (c.items-3.ensures ∙ (c.in_ok-sorted.ensures ∙ ap in_order c.items-2.ensures)) c.collected-2.ensures
