use Rattle.std.proofs.Common.{◌≡◌, subst, arith}
use Rattle.omega_machine.proofs.Stepped.{Walking, sets-out, walks, walked-value, walked-fault, walked-on}
use Rattle.show_steps.proofs.Walked.{walk-tells}
use Rattle.show_steps.proofs.walk.show_steps.Goals as goal

pub loop-steps-init : goal.loop-steps-init
loop-steps-init c = sets-out c.args.term.now _ c.in_ok-run.ensures

pub next-requires : goal.next-requires
next-requires c = c.loop-steps.invariant.under_way

pub returns-in-Value : goal.returns-in-Value
returns-in-Value c =
    let h = walked-value c.args.term.now c.loop-steps.steps c.args.budget c.loop-steps.run _ c.in-Value.value c.loop-steps.invariant (omega arith) c.in-Value.is c.in_ok-value.ensures in
    walk-tells c.args.term.now c.args.budget c.value_walk.result _ c.value_walk.ensures h

pub returns-in-Fault : goal.returns-in-Fault
returns-in-Fault c =
    let h = walked-fault c.args.term.now c.loop-steps.steps c.args.budget c.loop-steps.run _ c.in-Fault.fault c.in-Fault.redex c.in-Fault.frames c.loop-steps.invariant c.loop-steps-test.true c.in-Fault.is c.in_ok-value.ensures in
    walk-tells c.args.term.now c.args.budget c.fault_walk.result _ c.fault_walk.ensures h

pub loop-steps-preserved : goal.loop-steps-preserved
loop-steps-preserved c = walks c.args.term.now c.loop-steps.steps c.loop-steps.run c.in-Step.next c.in-Step.redex _ c.loop-steps.invariant c.in-Step.is c.in_ok-value.ensures

pub next-requires-2 : goal.next-requires-2
next-requires-2 c = c.loop-steps.invariant.under_way

pub returns-in-Value-2 : goal.returns-in-Value-2
returns-in-Value-2 c =
    let n : c.loop-steps.steps ≡ c.args.budget = omega arith in
    let g = subst (λ k. Walking c.args.term.now k c.loop-steps.run) n c.loop-steps.invariant in
    let h = walked-value c.args.term.now c.args.budget c.args.budget c.loop-steps.run _ c.in-Value-2.value g (omega arith) c.in-Value-2.is c.in_ok-value-2.ensures in
    walk-tells c.args.term.now c.args.budget c.value_walk-in-Value-2.result _ c.value_walk-in-Value-2.ensures h

pub returns : goal.returns
returns c =
    let n : c.loop-steps.steps ≡ c.args.budget = omega arith in
    let g = subst (λ k. Walking c.args.term.now k c.loop-steps.run) n c.loop-steps.invariant in
    let h = walked-on c.args.term.now c.args.budget c.loop-steps.run _ c.requires g c.in_default.not-Value c.in_ok-value-2.ensures in
    walk-tells c.args.term.now c.args.budget c.spent_walk.result _ c.spent_walk.ensures h
