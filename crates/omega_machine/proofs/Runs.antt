-- Runs: what the loop keeps, and the laws of each run.
-- Main results: found-value, stepped, faulted, still-going, spent-exactly, one-outcome, not-stuck, values-fit.
use Rattle.std.proofs.Common.{◌≡◌, ◌↔◌, ℕ, suc, ◌+◌, ◌≤◌, ◌<◌, List, refl, sym, subst, arith, add-one, []}
use Rattle.std.proofs.Common.{Result as Outcome_, IfOk}
use Rattle.std.proofs.lemmas.Result.{IfOk-weaker}
use Rattle.omega_kinds.specs.declared.memory.Mem.{Mem}
use Rattle.omega_types.specs.Ty.{Ty}
use Rattle.omega_terms.specs.Term.{Term}
use Rattle.omega_terms.specs.Typing.{HasType}
use Rattle.omega_terms.specs.Steps.{IsValue, Step, Fault, Reaches, End, Ends, Result, Outcome}
use Rattle.omega_laws.proofs.Progress.{Progress, progress}
use Rattle.omega_laws.proofs.Determined.{value_step, value_fault}
use Rattle.omega_laws.proofs.Runs.{reaches_type, reached_not_stuck, outcome_unique, spent_iff}
use Rattle.omega_machine.specs.declared.frames.Frame.{Frame}
use Rattle.omega_machine.specs.declared.frames.Focus.{Focus}
use Rattle.omega_machine.specs.declared.frames.Focus.TheVariants as focus
use Rattle.omega_machine.specs.declared.frames.Ready.{Ready}
use Rattle.omega_machine.specs.declared.frames.Ready.TheVariants as ready
use Rattle.omega_machine.specs.declared.refocus.Found.{Found}
use Rattle.omega_machine.specs.declared.refocus.Found.TheVariants as found
use Rattle.omega_machine.specs.declared.redexes.Step.{Step as Reduct}
use Rattle.omega_machine.specs.declared.redexes.Step.TheVariants as reduct
use Rattle.omega_machine.specs.declared.outcome.Arith.{Arith}
use Rattle.omega_machine.specs.declared.outcome.End.{End as Answer}
use Rattle.omega_machine.specs.declared.outcome.End.TheVariants as answer
use Rattle.omega_machine.specs.Inner.Contexts.{fill_ready, plug, term_in}
use Rattle.omega_machine.specs.Inner.Moves.{IsTyped, AreSound, IsSoundFocus, IsSoundReady, Finds}
use Rattle.omega_machine.specs.Inner.Reducts.{Reduces}
use Rattle.omega_machine.specs.Inner.Outcomes.{fault_of, Tells, StillGoes, NeverStuck, HasOneOutcome, ValuesFit}
use Rattle.omega_terms.specs.ValueText.{value_text}
use Rattle.omega_machine.proofs.Plugs.{plug-typed, plug-step, plug-fault}
use Rattle.omega_machine.proofs.PackedValues.{packed-value}

-- a step from what is reached in n steps leads to what is reached in one more
pub one-more : {e d c : Term} {n : ℕ} → Reaches e n d → Step d c → Reaches e (suc n) c
one-more Reaches.none s = Reaches.step s Reaches.none
one-more (Reaches.step t r) s = Reaches.step t (one-more r s)

-- what the focus stands in is reached in so many steps
pub record Going (e : Term) (n : ℕ) (fs : List Frame) (x : Focus) : Type 0 where
  pub reached : Reaches e n (plug fs (term_in x))
  pub frames : AreSound fs
  pub in_hole : IsSoundFocus x

-- a run begins at the term itself, in no frames, after no steps
pub begins : (e d : Term) (fs : List Frame) → fs ≡ [] → d ≡ e → Going e 0 fs (focus.Term d)
begins e d fs q p =
    subst (λ gs. Going e 0 gs (focus.Term d)) (sym q) (record { reached = subst (Reaches e 0) (sym p) Reaches.none; frames = tt; in_hole = tt })

-- what a run has reached is typed if the term is
pub going-typed : (e : Term) (n : ℕ) (fs : List Frame) (x : Focus) → IsTyped e → Going e n fs x → IsTyped (plug fs (term_in x))
going-typed e n fs x t g = (t.0, reaches_type t.0 t.1 g.reached)

-- ---- what is found

-- a run that finds a value within the budget tells it as the outcome
pub found-value : (e : Term) (n b : ℕ) (fs gs : List Frame) (x : Focus) (o : Found) (v : Term) → Going e n fs x → n ≤ b → o ≡ found.Value v → Finds (plug fs (term_in x)) gs o → Tells e b (answer.Value (value_text v) n)
found-value e n b fs gs x o v g l p f =
    let h = subst (Finds (plug fs (term_in x)) gs) p f in
    (v, Outcome.ended (Ends.value (subst (Reaches e n) (sym h.0) g.reached) h.1) l, refl)

-- an answer that tells the outcome is told where it is given
pub value-tells : (e : Term) (b : ℕ) (r : Outcome_ Answer Mem) (a : Answer) → IfOk r (λ x. x ≡ a) → Tells e b a → IfOk r (λ x. Tells e b x)
value-tells e b r a h t = IfOk-weaker r (λ x. x ≡ a) (λ x. Tells e b x) (λ x p. subst (Tells e b) (sym p) t) h

-- a redex in sound frames, reached in so many steps
pub record AtRedex (e : Term) (n : ℕ) (gs : List Frame) (r : Ready) (v : Term) : Type 0 where
  pub reached : Reaches e n (plug gs (fill_ready r v))
  pub frames : AreSound gs
  pub ready : IsSoundReady r
  pub value : IsValue v
  pub typed : IsTyped (fill_ready r v)

-- a run that finds a redex stands at it after as many steps
pub found-redex : (e : Term) (n : ℕ) (fs gs : List Frame) (x : Focus) (o : Found) (r : Ready) (v : Term) → IsTyped e → Going e n fs x → o ≡ found.Redex r v → Finds (plug fs (term_in x)) gs o → AtRedex e n gs r v
found-redex e n fs gs x o r v t g p f =
    let h = subst (Finds (plug fs (term_in x)) gs) p f in
    let s = subst (Reaches e n) (sym h.0) g.reached in
    record { reached = s; frames = h.1; ready = h.2; value = h.3; typed = plug-typed gs (fill_ready r v) h.1 (t.0, reaches_type t.0 t.1 s) }

-- after the step of the redex the run goes on, with one step more
pub stepped : (e : Term) (n : ℕ) (gs : List Frame) (r : Ready) (v : Term) (s : Reduct) (x : Focus) → AtRedex e n gs r v → s ≡ reduct.To x → Reduces (fill_ready r v) s → Going e (n + 1) gs x
stepped e n gs r v s x h p d =
    let k = subst (Reduces (fill_ready r v)) p d in
    record { reached = subst (λ m. Reaches e m (plug gs (term_in x))) (sym (add-one n)) (one-more h.reached (plug-step gs (fill_ready r v) (term_in x) h.frames k.0)); frames = h.frames; in_hole = k.1 }

-- a run whose redex is a fault tells it as the outcome, with one step more
pub faulted : (e : Term) (n b : ℕ) (gs : List Frame) (r : Ready) (v : Term) (s : Reduct) (x : Arith) → AtRedex e n gs r v → n < b → s ≡ reduct.Fault x → Reduces (fill_ready r v) s → Tells e b (answer.Fault x (n + 1))
faulted e n b gs r v s x h l p d =
    let k = subst (Reduces (fill_ready r v)) p d in
    subst (λ m. Outcome e b (Result.ended (End.the_fault (fault_of x)) m)) (sym (add-one n)) (Outcome.ended (Ends.fault h.reached (plug-fault gs (fill_ready r v) (fault_of x) h.frames k)) (omega (arith, l)))

-- a redex is no value
no-value : (r : Ready) (v : Term) → IsValue (fill_ready r v) → ⊥
no-value (ready.Argument f) v w = elim w [ ]
no-value (ready.Instance t) v w = elim w [ ]
no-value (ready.Part l) v w = elim w [ ]
no-value (ready.Opened b) v w = elim w [ ]
no-value (ready.Test b c) v w = elim w [ ]
no-value (ready.Right op a) v w = elim w [ ]
no-value (ready.Cased whole) v w = elim w [ ]
no-value ready.Unrolled v w = elim w [ ]

goes-on : (gs : List Frame) (r : Ready) (v : Term) → AreSound gs → Progress (fill_ready r v) → IsValue (plug gs (fill_ready r v)) → ⊥
goes-on gs r v s (Progress.value w) h = no-value r v w
goes-on gs r v s (Progress.steps d t) h = value_step h (plug-step gs (fill_ready r v) d s t)
goes-on gs r v s (Progress.faults x t) h = value_fault h (plug-fault gs (fill_ready r v) x s t)

-- a run that stands at a redex when as many steps as the budget are taken has spent it
pub still-going : (e : Term) (b : ℕ) (gs : List Frame) (r : Ready) (v : Term) → IsTyped e → AtRedex e b gs r v → Outcome e b Result.spent
still-going e b gs r v t h =
    (spent_iff b e t.0 t.1).1 (plug gs (fill_ready r v), h.reached, goes-on gs r v h.frames (progress (fill_ready r v) h.typed.0 h.typed.1))

-- ---- the laws

no-spent-value : (e : Term) (b : ℕ) (v : Term) (n : ℕ) → Outcome e b (Result.ended (End.the_value v) n) → Outcome e b Result.spent → ⊥
no-spent-value e b v n o s = let p = outcome_unique o s in cc

no-spent-fault : (e : Term) (b : ℕ) (x : Fault) (n : ℕ) → Outcome e b (Result.ended (End.the_fault x) n) → Outcome e b Result.spent → ⊥
no-spent-fault e b x n o s = let p = outcome_unique o s in cc

is-spent : (e : Term) (b : ℕ) (a : Answer) → Tells e b a → Outcome e b Result.spent → a ≡ answer.Spent
is-spent e b (answer.Value s n) t o = absurd (no-spent-value e b t.0 n t.1 o)
is-spent e b (answer.Fault x n) t o = absurd (no-spent-fault e b (fault_of x) n t o)
is-spent e b answer.Spent t o = refl

-- the answer is that the budget is spent exactly if a term that is no value is reached by then
pub spent-exactly : (e : Term) (t : Ty) (b : ℕ) (a : Answer) → HasType [] [] e t → Tells e b a → (a ≡ answer.Spent) ↔ StillGoes e b
spent-exactly e t b a h k =
    (λ p. (spent_iff b e t h).0 (subst (Tells e b) p k), λ s. is-spent e b a k ((spent_iff b e t h).1 s))

-- a term has at most one outcome within a budget
pub one-outcome : (e : Term) (b : ℕ) → HasOneOutcome e b
one-outcome e b r s o p = outcome_unique o p

-- no term that is reached from a closed typed one is stuck
pub not-stuck : (e : Term) (t : Ty) → HasType [] [] e t → NeverStuck e
not-stuck e t h n d r s = reached_not_stuck t h r s

ends-at : {e v : Term} {n : ℕ} → Ends e n (End.the_value v) → Reaches e n v × IsValue v
ends-at (Ends.value r v) = (r, v)

-- a value to which a closed typed term comes has its type, and holds values in packages where that is a packed record
pub values-fit : (e : Term) (t : Ty) → HasType [] [] e t → ValuesFit e t
values-fit e t h n v i =
    let r = ends-at i in
    let k = reaches_type t h r.0 in
    (k, λ p. packed-value r.1 t k p)
