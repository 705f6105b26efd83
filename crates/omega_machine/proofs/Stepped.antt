-- Runs that are made one step at a time.
-- Main results: steps, faults, walks, walked-value, walked-fault, walked-on.
use Rattle.std.proofs.Common.{◌≡◌, ℕ, ◌+◌, ◌≤◌, ◌<◌, List, refl, sym, ap, ◌∙◌, subst, arith, add-one}
use Rattle.omega_kinds.specs.declared.label.Label.{Label}
use Rattle.omega_types.specs.Ty.{Ty}
use Rattle.omega_terms.specs.declared.op.Op.{Op}
use Rattle.omega_terms.specs.Term.{Term, TermRow}
use Rattle.omega_terms.specs.Steps.{IsValue, Step, Faults, Fault, Reaches, End, Ends, Result, Outcome}
use Rattle.omega_terms.specs.ValueText.{value_text}
use Rattle.omega_laws.proofs.Determined.{value_step, value_fault}
use Rattle.omega_laws.proofs.Runs.{reaches_type, spent_iff}
use Rattle.omega_machine.specs.declared.frames.Frame.{Frame}
use Rattle.omega_machine.specs.declared.frames.Focus.{Focus}
use Rattle.omega_machine.specs.declared.frames.Ready.{Ready}
use Rattle.omega_machine.specs.declared.frames.Ready.TheVariants as ready
use Rattle.omega_machine.specs.declared.redexes.Step.{Step as Reduct}
use Rattle.omega_machine.specs.declared.redexes.Step.TheVariants as reduct
use Rattle.omega_machine.specs.declared.outcome.Arith.{Arith}
use Rattle.omega_machine.specs.declared.stepping.Next.{Next}
use Rattle.omega_machine.specs.declared.stepping.Next.TheVariants as comes
use Rattle.omega_machine.specs.declared.outcome.End.TheVariants as answer
use Rattle.omega_machine.specs.declared.stepping.Redex.{Redex}
use Rattle.omega_machine.specs.declared.stepping.Rule.TheVariants as rule
use Rattle.omega_machine.specs.declared.stepping.Run.{Run}
use Rattle.omega_machine.specs.Inner.Contexts.{fill_ready, plug, term_in}
use Rattle.omega_machine.specs.Inner.Moves.{IsTyped, AreSound, IsSoundFocus, IsSoundReady}
use Rattle.omega_machine.specs.Inner.Reducts.{Reduces}
use Rattle.omega_machine.specs.Inner.Outcomes.{fault_of, Tells}
use Rattle.omega_machine.specs.Inner.Stepping.{whole, IsUnderWay, IsRedex, redex_term, MakesStep, HasFault, Follows, rule_of}
use Rattle.omega_machine.proofs.Plugs.{plug-step, plug-fault}
use Rattle.omega_machine.proofs.Runs.{one-more}

-- ---- a form that steps with a value in its hole is a redex

call-redex : {f v d : Term} → IsValue f → IsValue v → Step (Term.Call f v) d → IsRedex (rule_of (Term.Call f v)) (Term.Call f v)
call-redex h k (Step.call_function s) = absurd (value_step h s)
call-redex h k (Step.call_arg w s) = absurd (value_step k s)
call-redex h k (Step.call_lam w) = IsRedex.call_lam w
call-redex h k (Step.call_fix w) = IsRedex.call_fix w

inst-redex : {v d : Term} {t : Ty} → IsValue v → Step (Term.Inst v t) d → IsRedex rule.InstTyLam (Term.Inst v t)
inst-redex h (Step.inst_function s) = absurd (value_step h s)
inst-redex h Step.inst_ty_lam = IsRedex.inst_ty_lam

get-redex : {v d : Term} {l : Label} → IsValue v → Step (Term.Get v l) d → IsRedex rule.GetFields (Term.Get v l)
get-redex h (Step.get_whole s) = absurd (value_step h s)
get-redex h (Step.get_fields w k) = IsRedex.get_fields w

open-redex : {v b d : Term} → IsValue v → Step (Term.Unpack v b) d → IsRedex rule.UnpackPack (Term.Unpack v b)
open-redex h (Step.unpack_packed s) = absurd (value_step h s)
open-redex h (Step.unpack_pack w) = IsRedex.unpack_pack w

if-redex : {v b c d : Term} → IsValue v → Step (Term.If v b c) d → IsRedex (rule_of (Term.If v b c)) (Term.If v b c)
if-redex h (Step.if_test s) = absurd (value_step h s)
if-redex h Step.if_true = IsRedex.if_true
if-redex h Step.if_false = IsRedex.if_false

arith-redex : {o : Op} {a v d : Term} → IsValue a → IsValue v → Step (Term.Arith o a v) d → IsRedex rule.Arith (Term.Arith o a v)
arith-redex h k (Step.arith_left s) = absurd (value_step h s)
arith-redex h k (Step.arith_right w s) = absurd (value_step k s)
arith-redex h k (Step.arith p) = IsRedex.arith

case-redex : {v d : Term} {t : Ty} {f : TermRow} → IsValue v → Step (Term.Case v t f) d → IsRedex rule.CaseInj (Term.Case v t f)
case-redex h (Step.case_whole s) = absurd (value_step h s)
case-redex h (Step.case_inj w k) = IsRedex.case_inj w

unroll-redex : {v d : Term} → IsValue v → Step (Term.Unroll v) d → IsRedex rule.UnrollRoll (Term.Unroll v)
unroll-redex h (Step.unroll_whole s) = absurd (value_step h s)
unroll-redex h (Step.unroll_roll w) = IsRedex.unroll_roll w

step-redex : (r : Ready) (v d : Term) → IsSoundReady r → IsValue v → Step (fill_ready r v) d → IsRedex (rule_of (fill_ready r v)) (fill_ready r v)
step-redex (ready.Argument f) v d h k s = call-redex h k s
step-redex (ready.Instance t) v d h k s = inst-redex k s
step-redex (ready.Part l) v d h k s = get-redex k s
step-redex (ready.Opened b) v d h k s = open-redex k s
step-redex (ready.Test b c) v d h k s = if-redex k s
step-redex (ready.Right op a) v d h k s = arith-redex h k s
step-redex (ready.Cased e) v d h k s = case-redex k s
step-redex ready.Unrolled v d h k s = unroll-redex k s

-- ---- and so is one that faults

call-fault : {f v : Term} {x : Fault} → IsValue f → IsValue v → Faults (Term.Call f v) x → ⊥
call-fault h k (Faults.call_function s) = value_fault h s
call-fault h k (Faults.call_arg w s) = value_fault k s

inst-fault : {v : Term} {t : Ty} {x : Fault} → IsValue v → Faults (Term.Inst v t) x → ⊥
inst-fault h (Faults.inst_function s) = value_fault h s

get-fault : {v : Term} {l : Label} {x : Fault} → IsValue v → Faults (Term.Get v l) x → ⊥
get-fault h (Faults.get_whole s) = value_fault h s

open-fault : {v b : Term} {x : Fault} → IsValue v → Faults (Term.Unpack v b) x → ⊥
open-fault h (Faults.unpack_packed s) = value_fault h s

if-fault : {v b c : Term} {x : Fault} → IsValue v → Faults (Term.If v b c) x → ⊥
if-fault h (Faults.if_test s) = value_fault h s

arith-fault : {o : Op} {a v : Term} {x : Fault} → IsValue a → IsValue v → Faults (Term.Arith o a v) x → IsRedex rule.Arith (Term.Arith o a v)
arith-fault h k (Faults.arith_left s) = absurd (value_fault h s)
arith-fault h k (Faults.arith_right w s) = absurd (value_fault k s)
arith-fault h k (Faults.arith p) = IsRedex.arith

case-fault : {v : Term} {t : Ty} {f : TermRow} {x : Fault} → IsValue v → Faults (Term.Case v t f) x → ⊥
case-fault h (Faults.case_whole s) = value_fault h s

unroll-fault : {v : Term} {x : Fault} → IsValue v → Faults (Term.Unroll v) x → ⊥
unroll-fault h (Faults.unroll_whole s) = value_fault h s

fault-redex : (r : Ready) (v : Term) (x : Fault) → IsSoundReady r → IsValue v → Faults (fill_ready r v) x → IsRedex (rule_of (fill_ready r v)) (fill_ready r v)
fault-redex (ready.Argument f) v x h k s = absurd (call-fault h k s)
fault-redex (ready.Instance t) v x h k s = absurd (inst-fault k s)
fault-redex (ready.Part l) v x h k s = absurd (get-fault k s)
fault-redex (ready.Opened b) v x h k s = absurd (open-fault k s)
fault-redex (ready.Test b c) v x h k s = absurd (if-fault k s)
fault-redex (ready.Right op a) v x h k s = arith-fault h k s
fault-redex (ready.Cased e) v x h k s = absurd (case-fault k s)
fault-redex ready.Unrolled v x h k s = absurd (unroll-fault k s)

-- ---- what comes next

-- the redex that was kept is the form with the value
kept : (x : Redex) (r f : Ready) (v w : Term) → x.rule ≡ rule_of (fill_ready r v) → x.form ≡ f → f ≡ r → x.value ≡ w → w ≡ v → (redex_term x ≡ fill_ready r v) × (x.rule ≡ rule_of (fill_ready r v))
kept x r f v w p q s t u = (ap (λ g. fill_ready g x.value) (q ∙ s) ∙ ap (fill_ready r) (t ∙ u), p)

-- where a redex in sound frames is reduced to a term, the whole makes a step, and the run after it is under way
pub steps : (fs : List Frame) (r f : Ready) (v w : Term) (x : Redex) (a : Run) (s : Reduct) (y : Focus) → AreSound fs → IsSoundReady r → IsValue v → IsTyped (plug fs (fill_ready r v)) → x.rule ≡ rule_of (fill_ready r v) → x.form ≡ f → f ≡ r → x.value ≡ w → w ≡ v → a.frames.items ≡ fs → a.focus ≡ y → s ≡ reduct.To y → Reduces (fill_ready r v) s → MakesStep (plug fs (fill_ready r v)) x a
steps fs r f v w x a s y frames sound value typed p q g t u af ay is d =
    let k = kept x r f v w p q g t u in
    let e = fill_ready r v in
    let h = subst (Reduces e) is d in
    let to : term_in a.focus ≡ term_in y = ap term_in ay in
    let contracts : Step e (term_in a.focus) = subst (Step e) (sym to) h.0 in
    let gs = sym af in
    let whole_is : whole a ≡ plug fs (term_in a.focus) = ap (λ z. plug z (term_in a.focus)) af in
    let one : Step (plug fs e) (whole a) = subst (Step (plug fs e)) (sym whole_is) (plug-step fs e (term_in a.focus) frames contracts) in
    record {
      stood = ap (λ z. plug z (redex_term x)) af ∙ ap (plug fs) k.0;
      redex = subst (IsRedex x.rule) (sym k.0) (subst (λ z. IsRedex z e) (sym k.1) (step-redex r v (term_in a.focus) sound value contracts));
      contracts = subst (λ z. Step z (term_in a.focus)) (sym k.0) contracts;
      steps = one;
      goes_on = record {
        frames = subst AreSound gs frames;
        in_hole = subst IsSoundFocus (sym ay) h.1;
        typed = (typed.0, reaches_type typed.0 typed.1 (Reaches.step one Reaches.none));
      };
    }

-- where a redex in sound frames is a fault, the whole has this fault
pub faults : (fs : List Frame) (r f : Ready) (v w : Term) (x : Redex) (gs : List Frame) (s : Reduct) (y : Arith) → AreSound fs → IsSoundReady r → IsValue v → x.rule ≡ rule_of (fill_ready r v) → x.form ≡ f → f ≡ r → x.value ≡ w → w ≡ v → gs ≡ fs → s ≡ reduct.Fault y → Reduces (fill_ready r v) s → HasFault (plug fs (fill_ready r v)) y x gs
faults fs r f v w x gs s y frames sound value p q g t u af is d =
    let k = kept x r f v w p q g t u in
    let e = fill_ready r v in
    let h = subst (Reduces e) is d in
    record {
      stands = ap (λ z. plug z (redex_term x)) af ∙ ap (plug fs) k.0;
      redex = subst (IsRedex x.rule) (sym k.0) (subst (λ z. IsRedex z e) (sym k.1) (fault-redex r v (fault_of y) sound value h));
      fails = subst (λ z. Faults z (fault_of y)) (sym k.0) h;
      faults = plug-fault fs e (fault_of y) frames h;
    }

-- ---- a whole run, step by step

-- the run stands at what is reached in so many steps
pub record Walking (e : Term) (n : ℕ) (r : Run) : Type 0 where
  pub reached : Reaches e n (whole r)
  pub under_way : IsUnderWay r

-- a run that is under way at the term itself has come there in no steps
pub sets-out : (e : Term) (r : Run) → (whole r ≡ e) × IsUnderWay r → Walking e 0 r
sets-out e r h = record { reached = subst (Reaches e 0) (sym h.0) Reaches.none; under_way = h.1 }

-- where a step follows, the run after it has come one step further
pub walks : (e : Term) (n : ℕ) (r s : Run) (x : Redex) (o : Next) → Walking e n r → o ≡ comes.Step x s → Follows (whole r) o → Walking e (n + 1) s
walks e n r s x o w p f =
    let m = subst (Follows (whole r)) p f in
    record { reached = subst (λ k. Reaches e k (whole s)) (sym (add-one n)) (one-more w.reached m.steps); under_way = m.goes_on }

-- a run that stands at a value within the budget tells it as the outcome
pub walked-value : (e : Term) (n b : ℕ) (r : Run) (o : Next) (v : Term) → Walking e n r → n ≤ b → o ≡ comes.Value v → Follows (whole r) o → Tells e b (answer.Value (value_text v) n)
walked-value e n b r o v w l p f =
    let h = subst (Follows (whole r)) p f in
    (v, Outcome.ended (Ends.value (subst (Reaches e n) (sym h.0) w.reached) h.1) l, refl)

-- a run that stands at a fault before the budget is spent tells it as the outcome, with one step more
pub walked-fault : (e : Term) (n b : ℕ) (r : Run) (o : Next) (x : Arith) (y : Redex) (gs : _) → Walking e n r → n < b → o ≡ comes.Fault x y gs → Follows (whole r) o → Tells e b (answer.Fault x (n + 1))
walked-fault e n b r o x y gs w l p f =
    let h = subst (Follows (whole r)) p f in
    subst (λ m. Outcome e b (Result.ended (End.the_fault (fault_of x)) m)) (sym (add-one n)) (Outcome.ended (Ends.fault w.reached h.faults) (omega (arith, l)))

-- a run that stands at no value when as many steps as the budget are taken has spent it
pub walked-on : (e : Term) (b : ℕ) (r : Run) (o : Next) → IsTyped e → Walking e b r → ((v : Term) → o ≡ comes.Value v → ⊥) → Follows (whole r) o → Outcome e b Result.spent
walked-on e b r (comes.Value v) t w h f = absurd (h v refl)
walked-on e b r (comes.Step x s) t w h f = (spent_iff b e t.0 t.1).1 (whole r, w.reached, λ v. value_step v f.steps)
walked-on e b r (comes.Fault x y fs) t w h f = (spent_iff b e t.0 t.1).1 (whole r, w.reached, λ v. value_fault v f.faults)
