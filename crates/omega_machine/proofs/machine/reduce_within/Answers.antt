use Rattle.std.proofs.Common.{◌≡◌, sym, subst, arith}
use Rattle.omega_machine.specs.Inner.Outcomes.{Tells}
use Rattle.omega_machine.proofs.Runs.{Going, begins, going-typed, found-value, value-tells, found-redex, stepped, faulted, still-going}
use Rattle.omega_machine.proofs.machine.reduce_within.Goals as goal

pub loop-steps-init : goal.loop-steps-init
loop-steps-init c = begins c.args.term.now _ c.new-frames.result.items c.new-frames.ensures.items c.in_ok-share.ensures

pub refocus-requires-clause-frames : goal.refocus-requires-clause-frames
refocus-requires-clause-frames c = c.loop-steps.invariant.frames

pub refocus-requires-clause-focus : goal.refocus-requires-clause-focus
refocus-requires-clause-focus c = c.loop-steps.invariant.in_hole

pub refocus-requires-clause-typed : goal.refocus-requires-clause-typed
refocus-requires-clause-typed c = going-typed c.args.term.now c.loop-steps.steps c.loop-steps.frames.items c.loop-steps.focus c.requires c.loop-steps.invariant

pub returns-in-Value : goal.returns-in-Value
returns-in-Value c =
    let h = found-value c.args.term.now c.loop-steps.steps c.args.budget c.loop-steps.frames.items c.refocus.new.frames.items c.loop-steps.focus _ c.in-Value.value c.loop-steps.invariant (omega arith) c.in-Value.is c.in_ok-value.ensures in
    value-tells c.args.term.now c.args.budget c.value_end.result _ c.value_end.ensures h

pub reduce-requires-clause-typed : goal.reduce-requires-clause-typed
reduce-requires-clause-typed c =
    (found-redex c.args.term.now c.loop-steps.steps c.loop-steps.frames.items c.refocus.new.frames.items c.loop-steps.focus _ c.in-Redex.frame c.in-Redex.value c.requires c.loop-steps.invariant c.in-Redex.is c.in_ok-value.ensures).typed

pub returns-in-Fault : goal.returns-in-Fault
returns-in-Fault c =
    let r = found-redex c.args.term.now c.loop-steps.steps c.loop-steps.frames.items c.refocus.new.frames.items c.loop-steps.focus _ c.in-Redex.frame c.in-Redex.value c.requires c.loop-steps.invariant c.in-Redex.is c.in_ok-value.ensures in
    subst (Tells c.args.term.now c.args.budget) (sym c.fault_end.ensures) (faulted c.args.term.now c.loop-steps.steps c.args.budget _ _ _ _ c.in-Fault.fault r c.loop-steps-test.true c.in-Fault.is c.in_ok-next-in-Redex.ensures)

pub loop-steps-preserved : goal.loop-steps-preserved
loop-steps-preserved c =
    let r = found-redex c.args.term.now c.loop-steps.steps c.loop-steps.frames.items c.refocus.new.frames.items c.loop-steps.focus _ c.in-Redex.frame c.in-Redex.value c.requires c.loop-steps.invariant c.in-Redex.is c.in_ok-value.ensures in
    stepped c.args.term.now c.loop-steps.steps c.refocus.new.frames.items _ _ _ c.in-To.next r c.in-To.is c.in_ok-next-in-Redex.ensures

pub refocus-requires-2-clause-frames : goal.refocus-requires-2-clause-frames
refocus-requires-2-clause-frames c = c.loop-steps.invariant.frames

pub refocus-requires-2-clause-focus : goal.refocus-requires-2-clause-focus
refocus-requires-2-clause-focus c = c.loop-steps.invariant.in_hole

pub refocus-requires-2-clause-typed : goal.refocus-requires-2-clause-typed
refocus-requires-2-clause-typed c = going-typed c.args.term.now c.loop-steps.steps c.loop-steps.frames.items c.loop-steps.focus c.requires c.loop-steps.invariant

pub returns-in-Value-2 : goal.returns-in-Value-2
returns-in-Value-2 c =
    let n : c.loop-steps.steps ≡ c.args.budget = omega arith in
    let g = subst (λ k. Going c.args.term.now k c.loop-steps.frames.items c.loop-steps.focus) n c.loop-steps.invariant in
    let h = found-value c.args.term.now c.args.budget c.args.budget c.loop-steps.frames.items c.refocus-2.new.frames.items c.loop-steps.focus _ c.in-Value-2.value g (omega arith) c.in-Value-2.is c.in_ok-value-2.ensures in
    value-tells c.args.term.now c.args.budget c.value_end-in-Value-2.result _ c.value_end-in-Value-2.ensures h

pub returns : goal.returns
returns c =
    let n : c.loop-steps.steps ≡ c.args.budget = omega arith in
    let g = subst (λ k. Going c.args.term.now k c.loop-steps.frames.items c.loop-steps.focus) n c.loop-steps.invariant in
    let r = found-redex c.args.term.now c.args.budget c.loop-steps.frames.items c.refocus-2.new.frames.items c.loop-steps.focus _ c.in-Redex-2.field-0 c.in-Redex-2.field-1 c.requires g c.in-Redex-2.is c.in_ok-value-2.ensures in
    still-going c.args.term.now c.args.budget _ _ _ c.requires r
