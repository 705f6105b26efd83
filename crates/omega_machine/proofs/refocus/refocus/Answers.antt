use Rattle.std.proofs.Common.{◌*◌, sym, ap, subst, refl, arith}
use Rattle.omega_terms.specs.Inner.Size.{term_size}
use Rattle.omega_machine.specs.Inner.Contexts.{fill_waiting, plug, term_in}
use Rattle.omega_machine.specs.Inner.Moves.{Moves, waiting_work}
use Rattle.omega_machine.proofs.Refocused.{Onward, left_work, typed-term, from-term, value-in, popped, waiting-sound, from-frame, ready-found, value-found, no-frames, down-stands, down-less, up-stands, up-less}
use Rattle.omega_machine.proofs.refocus.refocus.Goals as goal
use Rattle.omega_machine.proofs.refocus.refocus.Goals.{in-Term+in_ok-next-in-Term, in-Value+in-Some-Waiting+in_ok-next-in-Some-Waiting}

pub loop-focus-init : goal.loop-focus-init
loop-focus-init c = record { same = refl; frames = c.requires.frames; in_hole = c.requires.focus }

pub enter-requires : goal.enter-requires
enter-requires c = typed-term _ c.loop-focus.frames.items c.loop-focus.focus c.in-Term.term c.requires.typed c.loop-focus.invariant c.in-Term.is

pub resume-requires-clause-sound : goal.resume-requires-clause-sound
resume-requires-clause-sound c =
    let p = popped _ c.loop-focus.frames.items c.pop.new.self.items c.loop-focus.focus c.in-Value.value c.in-Some-Waiting.field-0 c.loop-focus.invariant c.in-Value.is c.in-Some-Waiting.ensures.items in
    waiting-sound _ _ _ c.in-Some-Waiting.frame _ _ p c.in-Some-Waiting.field-0-is

pub resume-requires-clause-value : goal.resume-requires-clause-value
resume-requires-clause-value c = value-in _ c.loop-focus.frames.items c.loop-focus.focus c.in-Value.value c.loop-focus.invariant c.in-Value.is

pub returns-in-Some-Ready : goal.returns-in-Some-Ready
returns-in-Some-Ready c =
    let p = popped _ c.loop-focus.frames.items c.pop.new.self.items c.loop-focus.focus c.in-Value.value c.in-Some-Ready.field-0 c.loop-focus.invariant c.in-Value.is c.in-Some-Ready.ensures.items in
    ready-found _ _ _ c.in-Some-Ready.frame _ _ p c.in-Some-Ready.field-0-is (value-in _ c.loop-focus.frames.items c.loop-focus.focus c.in-Value.value c.loop-focus.invariant c.in-Value.is)

pub returns-in-None : goal.returns-in-None
returns-in-None c =
    value-found _ c.loop-focus.frames.items c.pop.new.self.items c.loop-focus.focus c.in-Value.value c.loop-focus.invariant c.in-Value.is c.in-None.ensures.items (no-frames _ (let h = c.in-None.ensures.cases.1 in omega (arith, h, c.pop.new.self.ok.0)))

pub loop-focus-preserved-in_ok-push-in-Down : goal.loop-focus-preserved-in_ok-push-in-Down
loop-focus-preserved-in_ok-push-in-Down c =
    let o : Onward (plug c.args.frames.now.items (term_in c.args.focus)) (left_work c.loop-focus.frames.items c.loop-focus.focus) c.match-focus.frames.items c.match-focus.next = (elim c.match-focus.branch [ in-Term+in_ok-next-in-Term w ↦ from-term (plug c.args.frames.now.items (term_in c.args.focus)) c.loop-focus.frames.items c.match-focus.frames.items c.loop-focus.focus w.in-Term.term c.match-focus.next c.loop-focus.invariant w.in-Term.is (ap (λ v. v.items) w.frames-is) (subst (Moves w.in-Term.term (3 * term_size w.in-Term.term)) (sym w.next-is) w.in_ok-next-in-Term.ensures) | in-Value+in-Some-Waiting+in_ok-next-in-Some-Waiting w ↦ from-frame (plug c.args.frames.now.items (term_in c.args.focus)) w.pop.new.self.items c.match-focus.frames.items w.in-Some-Waiting.field-0 w.in-Some-Waiting.frame w.in-Value.value (left_work c.loop-focus.frames.items c.loop-focus.focus) c.match-focus.next (popped (plug c.args.frames.now.items (term_in c.args.focus)) c.loop-focus.frames.items w.pop.new.self.items c.loop-focus.focus w.in-Value.value w.in-Some-Waiting.field-0 c.loop-focus.invariant w.in-Value.is w.in-Some-Waiting.ensures.items) w.in-Some-Waiting.field-0-is (ap (λ v. v.items) w.frames-is) (subst (Moves (fill_waiting w.in-Some-Waiting.frame w.in-Value.value) (waiting_work w.in-Some-Waiting.frame)) (sym w.next-is) w.in_ok-next-in-Some-Waiting.ensures) ]) in
    down-stands (plug c.args.frames.now.items (term_in c.args.focus)) (left_work c.loop-focus.frames.items c.loop-focus.focus) c.match-focus.frames.items c.push.new.self.items c.match-focus.next c.in-Down.frame c.in-Down.part o c.in-Down.is c.in_ok-push-in-Down.ensures.items

pub loop-focus-smaller-in_ok-push-in-Down : goal.loop-focus-smaller-in_ok-push-in-Down
loop-focus-smaller-in_ok-push-in-Down c =
    let o : Onward (plug c.args.frames.now.items (term_in c.args.focus)) (left_work c.loop-focus.frames.items c.loop-focus.focus) c.match-focus.frames.items c.match-focus.next = (elim c.match-focus.branch [ in-Term+in_ok-next-in-Term w ↦ from-term (plug c.args.frames.now.items (term_in c.args.focus)) c.loop-focus.frames.items c.match-focus.frames.items c.loop-focus.focus w.in-Term.term c.match-focus.next c.loop-focus.invariant w.in-Term.is (ap (λ v. v.items) w.frames-is) (subst (Moves w.in-Term.term (3 * term_size w.in-Term.term)) (sym w.next-is) w.in_ok-next-in-Term.ensures) | in-Value+in-Some-Waiting+in_ok-next-in-Some-Waiting w ↦ from-frame (plug c.args.frames.now.items (term_in c.args.focus)) w.pop.new.self.items c.match-focus.frames.items w.in-Some-Waiting.field-0 w.in-Some-Waiting.frame w.in-Value.value (left_work c.loop-focus.frames.items c.loop-focus.focus) c.match-focus.next (popped (plug c.args.frames.now.items (term_in c.args.focus)) c.loop-focus.frames.items w.pop.new.self.items c.loop-focus.focus w.in-Value.value w.in-Some-Waiting.field-0 c.loop-focus.invariant w.in-Value.is w.in-Some-Waiting.ensures.items) w.in-Some-Waiting.field-0-is (ap (λ v. v.items) w.frames-is) (subst (Moves (fill_waiting w.in-Some-Waiting.frame w.in-Value.value) (waiting_work w.in-Some-Waiting.frame)) (sym w.next-is) w.in_ok-next-in-Some-Waiting.ensures) ]) in
    down-less (plug c.args.frames.now.items (term_in c.args.focus)) (left_work c.loop-focus.frames.items c.loop-focus.focus) c.match-focus.frames.items c.push.new.self.items c.match-focus.next c.in-Down.frame c.in-Down.part o c.in-Down.is c.in_ok-push-in-Down.ensures.items

pub loop-focus-preserved : goal.loop-focus-preserved
loop-focus-preserved c =
    let o : Onward (plug c.args.frames.now.items (term_in c.args.focus)) (left_work c.loop-focus.frames.items c.loop-focus.focus) c.match-focus.frames.items c.match-focus.next = (elim c.match-focus.branch [ in-Term+in_ok-next-in-Term w ↦ from-term (plug c.args.frames.now.items (term_in c.args.focus)) c.loop-focus.frames.items c.match-focus.frames.items c.loop-focus.focus w.in-Term.term c.match-focus.next c.loop-focus.invariant w.in-Term.is (ap (λ v. v.items) w.frames-is) (subst (Moves w.in-Term.term (3 * term_size w.in-Term.term)) (sym w.next-is) w.in_ok-next-in-Term.ensures) | in-Value+in-Some-Waiting+in_ok-next-in-Some-Waiting w ↦ from-frame (plug c.args.frames.now.items (term_in c.args.focus)) w.pop.new.self.items c.match-focus.frames.items w.in-Some-Waiting.field-0 w.in-Some-Waiting.frame w.in-Value.value (left_work c.loop-focus.frames.items c.loop-focus.focus) c.match-focus.next (popped (plug c.args.frames.now.items (term_in c.args.focus)) c.loop-focus.frames.items w.pop.new.self.items c.loop-focus.focus w.in-Value.value w.in-Some-Waiting.field-0 c.loop-focus.invariant w.in-Value.is w.in-Some-Waiting.ensures.items) w.in-Some-Waiting.field-0-is (ap (λ v. v.items) w.frames-is) (subst (Moves (fill_waiting w.in-Some-Waiting.frame w.in-Value.value) (waiting_work w.in-Some-Waiting.frame)) (sym w.next-is) w.in_ok-next-in-Some-Waiting.ensures) ]) in
    up-stands (plug c.args.frames.now.items (term_in c.args.focus)) (left_work c.loop-focus.frames.items c.loop-focus.focus) c.match-focus.frames.items c.match-focus.next c.in-Up.value o c.in-Up.is

pub loop-focus-smaller : goal.loop-focus-smaller
loop-focus-smaller c =
    let o : Onward (plug c.args.frames.now.items (term_in c.args.focus)) (left_work c.loop-focus.frames.items c.loop-focus.focus) c.match-focus.frames.items c.match-focus.next = (elim c.match-focus.branch [ in-Term+in_ok-next-in-Term w ↦ from-term (plug c.args.frames.now.items (term_in c.args.focus)) c.loop-focus.frames.items c.match-focus.frames.items c.loop-focus.focus w.in-Term.term c.match-focus.next c.loop-focus.invariant w.in-Term.is (ap (λ v. v.items) w.frames-is) (subst (Moves w.in-Term.term (3 * term_size w.in-Term.term)) (sym w.next-is) w.in_ok-next-in-Term.ensures) | in-Value+in-Some-Waiting+in_ok-next-in-Some-Waiting w ↦ from-frame (plug c.args.frames.now.items (term_in c.args.focus)) w.pop.new.self.items c.match-focus.frames.items w.in-Some-Waiting.field-0 w.in-Some-Waiting.frame w.in-Value.value (left_work c.loop-focus.frames.items c.loop-focus.focus) c.match-focus.next (popped (plug c.args.frames.now.items (term_in c.args.focus)) c.loop-focus.frames.items w.pop.new.self.items c.loop-focus.focus w.in-Value.value w.in-Some-Waiting.field-0 c.loop-focus.invariant w.in-Value.is w.in-Some-Waiting.ensures.items) w.in-Some-Waiting.field-0-is (ap (λ v. v.items) w.frames-is) (subst (Moves (fill_waiting w.in-Some-Waiting.frame w.in-Value.value) (waiting_work w.in-Some-Waiting.frame)) (sym w.next-is) w.in_ok-next-in-Some-Waiting.ensures) ]) in
    up-less (plug c.args.frames.now.items (term_in c.args.focus)) (left_work c.loop-focus.frames.items c.loop-focus.focus) c.match-focus.frames.items c.match-focus.next c.in-Up.value o c.in-Up.is
