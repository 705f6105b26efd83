-- Frames: what is plugged in steps, faults and is typed with the whole.
-- Main results: plug-typed, plug-step, plug-fault, plug-more.
use Rattle.std.proofs.Common.{◌≡◌, ◌+◌, ◌<◌, List, [], ◌∷◌, ◌++◌, length, refl, ap, arith, length-drop}
use Rattle.omega_kinds.specs.declared.label.Label.{Label}
use Rattle.omega_types.specs.Ty.{Ty, Row}
use Rattle.omega_terms.specs.declared.op.Op.{Op}
use Rattle.omega_terms.specs.Term.{Term, TermRow}
use Rattle.omega_terms.specs.Fields.{TermPairs, term_row}
use Rattle.omega_terms.specs.Typing.{FieldsHave}
use Rattle.omega_terms.specs.Steps.{AreValues, Step, FieldStep, Faults, FieldFaults, Fault}
use Rattle.omega_terms.proofs.TypingLaws.{good-none}
use Rattle.omega_laws.proofs.Unique.{Own, invert}
use Rattle.omega_machine.specs.declared.frames.Waiting.{Waiting}
use Rattle.omega_machine.specs.declared.frames.Waiting.TheVariants as waiting
use Rattle.omega_machine.specs.declared.frames.Ready.{Ready}
use Rattle.omega_machine.specs.declared.frames.Ready.TheVariants as ready
use Rattle.omega_machine.specs.declared.frames.Frame.{Frame}
use Rattle.omega_machine.specs.declared.frames.Frame.TheVariants as frame
use Rattle.omega_machine.specs.Inner.Contexts.{fields_of, left, with_first, result_of, branches_of, fill_waiting, fill_ready, fill, plug}
use Rattle.omega_machine.specs.Inner.Moves.{IsTyped, IsSoundWaiting, IsSoundReady, IsSound, AreSound, frame_work, work}

-- ---- one more frame inside

-- a term plugged into frames with one more, the innermost, is plugged in after that one is filled
pub plug-more : (fs : List Frame) (f : Frame) (e : Term) → plug (fs ++ f ∷ []) e ≡ plug fs (fill f e)
plug-more [] f e = refl
plug-more (g ∷ fs) f e = ap (fill g) (plug-more fs f e)

-- sound frames with one more sound frame are sound
pub sound-more : (fs : List Frame) (f : Frame) → AreSound fs → IsSound f → AreSound (fs ++ f ∷ [])
sound-more [] f s h = (h, tt)
sound-more (g ∷ fs) f s h = (s.0, sound-more fs f s.1 h)

-- of sound frames, those without the innermost are sound, and it is
pub sound-less : (fs : List Frame) (f : Frame) → AreSound (fs ++ f ∷ []) → AreSound fs × IsSound f
sound-less [] f s = (tt, s.0)
sound-less (g ∷ fs) f s = let r = sound-less fs f s.1 in ((s.0, r.0), r.1)

-- the work in frames with one more is the sum
pub work-more : (fs : List Frame) (f : Frame) → work (fs ++ f ∷ []) ≡ work fs + frame_work f
work-more [] f = omega arith
work-more (g ∷ fs) f = omega (arith, work-more fs f)

-- ---- the fields that are left

pub some-left : (whole : Term) (done : TermPairs) → length done < length (fields_of whole) → 0 < length (left whole done)
some-left whole done h = omega (arith, length-drop (length done) (fields_of whole))

field-step : (done xs : TermPairs) (e d : Term) → AreValues (term_row done) → 0 < length xs → Step e d → FieldStep (term_row (done ++ with_first e xs)) (term_row (done ++ with_first d xs))
field-step [] [] e d v h s = absurd (omega arith)
field-step [] (x ∷ xs) e d v h s = FieldStep.here s
field-step (c ∷ cs) xs e d (AreValues.more v w) h s = FieldStep.there v (field-step cs xs e d w h s)

field-fault : (done xs : TermPairs) (e : Term) (z : Fault) → AreValues (term_row done) → 0 < length xs → Faults e z → FieldFaults (term_row (done ++ with_first e xs)) z
field-fault [] [] e z v h s = absurd (omega arith)
field-fault [] (x ∷ xs) e z v h s = FieldFaults.here s
field-fault (c ∷ cs) xs e z (AreValues.more v w) h s = FieldFaults.there v (field-fault cs xs e z w h s)

field-typed : (done xs : TermPairs) (e : Term) (r : Row) → 0 < length xs → FieldsHave [] [] (term_row (done ++ with_first e xs)) r → IsTyped e
field-typed [] [] e r h t = absurd (omega arith)
field-typed [] (x ∷ xs) e r h (FieldsHave.more {t = u} t f g) = (u, t)
field-typed (c ∷ cs) xs e r h (FieldsHave.more {r = q} t f g) = field-typed cs xs e q h g

-- ---- steps

waiting-step : (f : Waiting) (e d : Term) → IsSoundWaiting f → Step e d → Step (fill_waiting f e) (fill_waiting f d)
waiting-step (waiting.Function a) e d h s = Step.call_function s
waiting-step (waiting.Left op b) e d h s = Step.arith_left s
waiting-step (waiting.Packed t u) e d h s = Step.pack_body s
waiting-step (waiting.Field whole done) e d h s = Step.fields (field-step done (left whole done) e d h.0.values (some-left whole done h.1) s)
waiting-step (waiting.Injected l t) e d h s = Step.inj_part s
waiting-step (waiting.Rolled t) e d h s = Step.roll_part s

ready-step : (f : Ready) (e d : Term) → IsSoundReady f → Step e d → Step (fill_ready f e) (fill_ready f d)
ready-step (ready.Argument f) e d h s = Step.call_arg h s
ready-step (ready.Instance t) e d h s = Step.inst_function s
ready-step (ready.Part l) e d h s = Step.get_whole s
ready-step (ready.Opened b) e d h s = Step.unpack_packed s
ready-step (ready.Test b c) e d h s = Step.if_test s
ready-step (ready.Right op a) e d h s = Step.arith_right h s
ready-step (ready.Cased whole) e d h s = Step.case_whole s
ready-step ready.Unrolled e d h s = Step.unroll_whole s

fill-step : (f : Frame) (e d : Term) → IsSound f → Step e d → Step (fill f e) (fill f d)
fill-step (frame.Waiting f) e d h s = waiting-step f e d h s
fill-step (frame.Ready f) e d h s = ready-step f e d h s

-- a step of the part is a step of the whole
pub plug-step : (fs : List Frame) (e d : Term) → AreSound fs → Step e d → Step (plug fs e) (plug fs d)
plug-step [] e d h s = s
plug-step (f ∷ fs) e d h s = fill-step f (plug fs e) (plug fs d) h.0 (plug-step fs e d h.1 s)

-- ---- faults

waiting-fault : (f : Waiting) (e : Term) (x : Fault) → IsSoundWaiting f → Faults e x → Faults (fill_waiting f e) x
waiting-fault (waiting.Function a) e x h s = Faults.call_function s
waiting-fault (waiting.Left op b) e x h s = Faults.arith_left s
waiting-fault (waiting.Packed t u) e x h s = Faults.pack_body s
waiting-fault (waiting.Field whole done) e x h s = Faults.fields (field-fault done (left whole done) e x h.0.values (some-left whole done h.1) s)
waiting-fault (waiting.Injected l t) e x h s = Faults.inj_part s
waiting-fault (waiting.Rolled t) e x h s = Faults.roll_part s

ready-fault : (f : Ready) (e : Term) (x : Fault) → IsSoundReady f → Faults e x → Faults (fill_ready f e) x
ready-fault (ready.Argument f) e x h s = Faults.call_arg h s
ready-fault (ready.Instance t) e x h s = Faults.inst_function s
ready-fault (ready.Part l) e x h s = Faults.get_whole s
ready-fault (ready.Opened b) e x h s = Faults.unpack_packed s
ready-fault (ready.Test b c) e x h s = Faults.if_test s
ready-fault (ready.Right op a) e x h s = Faults.arith_right h s
ready-fault (ready.Cased whole) e x h s = Faults.case_whole s
ready-fault ready.Unrolled e x h s = Faults.unroll_whole s

fill-fault : (f : Frame) (e : Term) (x : Fault) → IsSound f → Faults e x → Faults (fill f e) x
fill-fault (frame.Waiting f) e x h s = waiting-fault f e x h s
fill-fault (frame.Ready f) e x h s = ready-fault f e x h s

-- a fault of the part is a fault of the whole
pub plug-fault : (fs : List Frame) (e : Term) (x : Fault) → AreSound fs → Faults e x → Faults (plug fs e) x
plug-fault [] e x h s = s
plug-fault (f ∷ fs) e x h s = fill-fault f (plug fs e) x h.0 (plug-fault fs e x h.1 s)

-- ---- types

own-call : (f a : Term) (t : Ty) → Own [] [] (Term.Call f a) t → IsTyped f × IsTyped a
own-call f a t (Own.call {t = u} h i) = ((Ty.Arrow u t, h), (u, i))

own-arith : (o : Op) (a b : Term) (t : Ty) → Own [] [] (Term.Arith o a b) t → IsTyped a × IsTyped b
own-arith o a b t (Own.arith h i) = ((Ty.Int, h), (Ty.Int, i))

own-pack : (a : Ty) (e : Term) (u t : Ty) → Own [] [] (Term.Pack a e u) t → IsTyped e
own-pack a e u t (Own.pack c k h) = (_, h)

own-fields : (done xs : TermPairs) (e : Term) (t : Ty) → 0 < length xs → Own [] [] (Term.Fields (term_row (done ++ with_first e xs))) t → IsTyped e
own-fields done xs e t h (Own.fields {r = r} g) = field-typed done xs e r h g

own-inst : (f : Term) (a t : Ty) → Own [] [] (Term.Inst f a) t → IsTyped f
own-inst f a t (Own.inst {k = k} {body = b} h i) = (Ty.All k b, h)

own-get : (e : Term) (l : Label) (t : Ty) → Own [] [] (Term.Get e l) t → IsTyped e
own-get e l t (Own.get {r = r} h i) = (Ty.Fields r, h)

own-open : (p e : Term) (t : Ty) → Own [] [] (Term.Unpack p e) t → IsTyped p
own-open p e t (Own.unpack {k = k} {body = b} h i) = (Ty.Ex k b, h)

own-if : (a b c : Term) (t : Ty) → Own [] [] (Term.If a b c) t → IsTyped a
own-if a b c t (Own.if_ h i j) = (Ty.Bool, h)

own-inj : (l : Label) (e : Term) (u t : Ty) → Own [] [] (Term.Inj l e u) t → IsTyped e
own-inj l e u t (Own.inj c p h) = (_, h)

own-roll : (e : Term) (u t : Ty) → Own [] [] (Term.Roll e u) t → IsTyped e
own-roll e u t (Own.roll c h) = (_, h)

own-case : (e : Term) (u : Ty) (f : TermRow) (t : Ty) → Own [] [] (Term.Case e u f) t → IsTyped e
own-case e u f t (Own.case {r = r} h k b) = (Ty.Sum r, h)

own-unroll : (e : Term) (t : Ty) → Own [] [] (Term.Unroll e) t → IsTyped e
own-unroll e t (Own.unroll {body = b} h) = (Ty.Mu b, h)

own-waiting : (f : Waiting) (e : Term) (t : Ty) → IsSoundWaiting f → Own [] [] (fill_waiting f e) t → IsTyped e
own-waiting (waiting.Function a) e t h o = (own-call e a t o).0
own-waiting (waiting.Left op b) e t h o = (own-arith op e b t o).0
own-waiting (waiting.Packed a u) e t h o = own-pack a e u t o
own-waiting (waiting.Field whole done) e t h o = own-fields done (left whole done) e t (some-left whole done h.1) o
own-waiting (waiting.Injected l u) e t h o = own-inj l e u t o
own-waiting (waiting.Rolled u) e t h o = own-roll e u t o

own-ready : (f : Ready) (e : Term) (t : Ty) → Own [] [] (fill_ready f e) t → IsTyped e
own-ready (ready.Argument f) e t o = (own-call f e t o).1
own-ready (ready.Instance a) e t o = own-inst e a t o
own-ready (ready.Part l) e t o = own-get e l t o
own-ready (ready.Opened b) e t o = own-open e b t o
own-ready (ready.Test b c) e t o = own-if e b c t o
own-ready (ready.Right op a) e t o = (own-arith op a e t o).1
own-ready (ready.Cased whole) e t o = own-case e (result_of whole) (branches_of whole) t o
own-ready ready.Unrolled e t o = own-unroll e t o

fill-typed : (f : Frame) (e : Term) → IsSound f → IsTyped (fill f e) → IsTyped e
fill-typed (frame.Waiting f) e h t = let r = invert (good-none []) t.1 in own-waiting f e r.ty h r.own
fill-typed (frame.Ready f) e h t = let r = invert (good-none []) t.1 in own-ready f e r.ty r.own

-- the part of a typed whole is typed
pub plug-typed : (fs : List Frame) (e : Term) → AreSound fs → IsTyped (plug fs e) → IsTyped e
plug-typed [] e h t = t
plug-typed (f ∷ fs) e h t = plug-typed fs e h.1 (fill-typed f (plug fs e) h.0 t)
