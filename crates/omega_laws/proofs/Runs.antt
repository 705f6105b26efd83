-- Runs of many steps: the types that they keep, the one end that a term comes to, and what a budget gives.
-- Main results: end_unique, outcome_unique, outcome, spent_iff.
use Rattle.std.proofs.Common.{◌≡◌, ℕ, zero, suc, ◌≤◌, refl, sym, ap, ◌∙◌, subst, [], ◌↔◌, zero-le, suc-le-suc, le_of_suc-le-suc, arith}
use Rattle.omega_types.specs.Ty.{Ty}
use Rattle.omega_terms.proofs.TypingLaws.{good-none}
use Rattle.omega_terms.specs.Term.{Term}
use Rattle.omega_terms.specs.Typing.{HasType}
use Rattle.omega_terms.specs.Steps.{IsValue, Step, Faults, Fault, Reaches, End, Ends, Result, Outcome, Stuck}
use Rattle.omega_laws.proofs.Keep.{keeps}
use Rattle.omega_laws.proofs.Progress.{Progress, progress, never_stuck}
use Rattle.omega_laws.proofs.Determined.{value_step, value_fault, step_step, step_fault, fault_fault}

-- ---- a term has at most one end

pub record LaterEnd (d : Term) (n : ℕ) (r : End) : Type 0 where
  pub left : ℕ
  pub is : n ≡ suc left
  pub ends : Ends d left r

value_later : {e d v : Term} {n : ℕ} → Step e d → Reaches e n v → IsValue v → LaterEnd d n (End.the_value v)
value_later s Reaches.none w = absurd (value_step w s)
value_later {v = v} s (Reaches.step {n = n} q r) w = record { left = n; is = refl; ends = subst (λ x. Ends x n (End.the_value v)) (step_step q s) (Ends.value r w) }

fault_later : {e d c : Term} {n : ℕ} {x : Fault} → Step e d → Reaches e n c → Faults c x → LaterEnd d (suc n) (End.the_fault x)
fault_later s Reaches.none f = absurd (step_fault s f)
fault_later {x = x} s (Reaches.step {n = n} q r) f = record { left = suc n; is = refl; ends = subst (λ y. Ends y (suc n) (End.the_fault x)) (step_step q s) (Ends.fault r f) }

-- after a step the rest of the way to the end is left
pub later : {e d : Term} {n : ℕ} {r : End} → Step e d → Ends e n r → LaterEnd d n r
later s (Ends.value q v) = value_later s q v
later s (Ends.fault q f) = fault_later s q f

-- a term that steps to one with an end has this end, a step later
pub sooner : {e d : Term} {n : ℕ} {r : End} → Step e d → Ends d n r → Ends e (suc n) r
sooner s (Ends.value q v) = Ends.value (Reaches.step s q) v
sooner s (Ends.fault q f) = Ends.fault (Reaches.step s q) f

value_reaches : {e d : Term} {n : ℕ} → IsValue e → Reaches e n d → (n ≡ zero) × (d ≡ e)
value_reaches v Reaches.none = (refl, refl)
value_reaches v (Reaches.step s r) = absurd (value_step v s)

value_faults : {e d : Term} {n : ℕ} {x : Fault} → IsValue e → Reaches e n d → Faults d x → ⊥
value_faults v Reaches.none f = value_fault v f
value_faults v (Reaches.step s r) f = value_step v s

value_end : {e : Term} {n : ℕ} {r : End} → IsValue e → Ends e n r → (zero ≡ n) × (End.the_value e ≡ r)
value_end v (Ends.value q w) = let p = value_reaches v q in (sym p.0, ap End.the_value (sym p.1))
value_end v (Ends.fault q f) = absurd (value_faults v q f)

fault_reaches : {e d : Term} {n : ℕ} {x : Fault} → Faults e x → Reaches e n d → (n ≡ zero) × (d ≡ e)
fault_reaches f Reaches.none = (refl, refl)
fault_reaches f (Reaches.step s r) = absurd (step_fault s f)

fault_end : {e : Term} {n : ℕ} {r : End} {x : Fault} → Faults e x → Ends e n r → (suc zero ≡ n) × (End.the_fault x ≡ r)
fault_end {x = x} f (Ends.value q w) = let p = fault_reaches f q in absurd (value_fault (subst IsValue p.1 w) f)
fault_end {x = x} f (Ends.fault {x = y} q g) = let p = fault_reaches f q in (ap suc (sym p.0), ap End.the_fault (fault_fault f (subst (λ c. Faults c y) p.1 g)))

value_unique : {e v : Term} {n m : ℕ} {r : End} → Reaches e n v → IsValue v → Ends e m r → (n ≡ m) × (End.the_value v ≡ r)
value_unique Reaches.none w h = value_end w h
value_unique (Reaches.step s q) w h = let l = later s h in let p = value_unique q w l.ends in (ap suc p.0 ∙ sym l.is, p.1)

fault_unique : {e d : Term} {n m : ℕ} {r : End} {x : Fault} → Reaches e n d → Faults d x → Ends e m r → (suc n ≡ m) × (End.the_fault x ≡ r)
fault_unique Reaches.none f h = fault_end f h
fault_unique (Reaches.step s q) f h = let l = later s h in let p = fault_unique q f l.ends in (ap suc p.0 ∙ sym l.is, p.1)

-- a term comes to at most one end, in one number of steps
pub end_unique : {e : Term} {n m : ℕ} {r s : End} → Ends e n r → Ends e m s → (n ≡ m) × (r ≡ s)
end_unique (Ends.value q v) h = value_unique q v h
end_unique (Ends.fault q f) h = fault_unique q f h

-- a term has at most one outcome within a budget
pub outcome_unique : {e : Term} {b : ℕ} {r s : Result} → Outcome e b r → Outcome e b s → r ≡ s
outcome_unique (Outcome.ended h l) (Outcome.ended i k) = let p = end_unique h i in λ j. Result.ended (p.1 j) (p.0 j)
outcome_unique (Outcome.ended {n = n} {r = r} h l) (Outcome.spent f) = absurd (f n r h l)
outcome_unique (Outcome.spent f) (Outcome.ended {n = n} {r = r} h l) = absurd (f n r h l)
outcome_unique (Outcome.spent f) (Outcome.spent g) = refl

-- ---- a budget

-- the outcome; where the budget is spent, the term reached by then is no value
pub data Run (e : Term) (b : ℕ) : Type 0 where
  ended : (n : ℕ) (r : End) → Ends e n r → n ≤ b → Run e b
  spent : (d : Term) → Reaches e b d → (IsValue d → ⊥) → ((n : ℕ) (r : End) → Ends e n r → n ≤ b → ⊥) → Run e b

zero_steps : {e : Term} {n : ℕ} {r : End} → (IsValue e → ⊥) → Ends e n r → n ≤ zero → ⊥
zero_steps f (Ends.value Reaches.none v) l = f v
zero_steps f (Ends.value (Reaches.step s q) v) l = omega arith
zero_steps f (Ends.fault q g) l = omega arith

zero_run : (e : Term) → (IsValue e → ⊥) → Run e zero
zero_run e f = Run.spent e Reaches.none f (λ n r h l. zero_steps f h l)

later_ends : {e d : Term} (b : ℕ) → Step e d → ((n : ℕ) (r : End) → Ends d n r → n ≤ b → ⊥) → (n : ℕ) (r : End) → Ends e n r → n ≤ suc b → ⊥
later_ends b s f n r h l =
    let k = later s h in
    f k.left r k.ends (le_of_suc-le-suc (subst (λ x. x ≤ suc b) k.is l))

-- who has come as far as the budget to what is no value has met no end
pub still_going : {e d : Term} {b n : ℕ} {r : End} → Reaches e b d → (IsValue d → ⊥) → Ends e n r → n ≤ b → ⊥
still_going Reaches.none f h l = zero_steps f h l
still_going (Reaches.step {n = b} s q) f h l = let k = later s h in still_going q f k.ends (le_of_suc-le-suc (subst (λ x. x ≤ suc b) k.is l))

step_run : (e d : Term) (b : ℕ) → Step e d → Run d b → Run e (suc b)
step_run e d b s (Run.ended n r h l) = Run.ended (suc n) r (sooner s h) (suc-le-suc l)
step_run e d b s (Run.spent c q f g) = Run.spent c (Reaches.step s q) f (later_ends b s g)

-- every term that is reached keeps the type, and is not stuck
pub reaches_type : {e d : Term} {n : ℕ} (t : Ty) → HasType [] [] e t → Reaches e n d → HasType [] [] d t
reaches_type t h Reaches.none = h
reaches_type t h (Reaches.step s r) = reaches_type t (keeps s [] [] t (good-none []) h) r

-- no term that is reached from a closed typed one is stuck
pub reached_not_stuck : {e d : Term} {n : ℕ} (t : Ty) → HasType [] [] e t → Reaches e n d → Stuck d → ⊥
reached_not_stuck {d = d} t h r = never_stuck d t (reaches_type t h r)

first_run : (e : Term) (t : Ty) → HasType [] [] e t → Progress e → Run e zero
first_run e t h (Progress.value v) = Run.ended zero (End.the_value e) (Ends.value Reaches.none v) zero-le
first_run e t h (Progress.steps d s) = zero_run e (λ v. value_step v s)
first_run e t h (Progress.faults x f) = zero_run e (λ v. value_fault v f)

next_run : (b : ℕ) (e : Term) (t : Ty) → HasType [] [] e t → ((d : Term) → HasType [] [] d t → Run d b) → Progress e → Run e (suc b)
next_run b e t h f (Progress.value v) = Run.ended zero (End.the_value e) (Ends.value Reaches.none v) zero-le
next_run b e t h f (Progress.steps d s) = step_run e d b s (f d (keeps s [] [] t (good-none []) h))
next_run b e t h f (Progress.faults x g) = Run.ended (suc zero) (End.the_fault x) (Ends.fault Reaches.none g) (suc-le-suc zero-le)

pub run : (b : ℕ) (e : Term) (t : Ty) → HasType [] [] e t → Run e b
run zero e t h = first_run e t h (progress e t h)
run (suc b) e t h = next_run b e t h (λ d i. run b d t i) (progress e t h)

run_outcome : {e : Term} {b : ℕ} → Run e b → (r : Result) × Outcome e b r
run_outcome (Run.ended n r h l) = (Result.ended r n, Outcome.ended h l)
run_outcome (Run.spent d q f g) = (Result.spent, Outcome.spent g)

-- a closed typed term has an outcome within each budget
pub outcome : (b : ℕ) (e : Term) (t : Ty) → HasType [] [] e t → (r : Result) × Outcome e b r
outcome b e t h = run_outcome (run b e t h)

run_spent : {e : Term} {b : ℕ} → Run e b → Outcome e b Result.spent → (d : Term) × Reaches e b d × (IsValue d → ⊥)
run_spent (Run.ended n r h l) (Outcome.spent g) = absurd (g n r h l)
run_spent (Run.spent d q f g) o = (d, q, f)

-- a budget is spent exactly if a term that is no value is reached after as many steps
pub spent_iff : (b : ℕ) (e : Term) (t : Ty) → HasType [] [] e t → Outcome e b Result.spent ↔ ((d : Term) × Reaches e b d × (IsValue d → ⊥))
spent_iff b e t h = (run_spent (run b e t h), λ p. Outcome.spent (λ n r i l. still_going p.1 p.2 i l))
