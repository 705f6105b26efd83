-- Steps are deterministic: of value, step and fault a term has at most one, and at most one of each.
-- Main results: value_step, value_fault, step_step, step_fault, fault_fault.
use Rattle.std.proofs.Common.{◌≡◌, refl, sym, ap}
use Rattle.omega_kinds.specs.declared.label.Label.{Label}
use Rattle.omega_terms.specs.Term.{Term, TermRow}
use Rattle.omega_terms.specs.Steps.{IsValue, AreValues, HasField, Step, FieldStep, Faults, FieldFaults, Fault, Answer, put_arg}

mutual
  -- a value does not step
  pub value_step : {v d : Term} → IsValue v → Step v d → ⊥
  value_step IsValue.int s = elim s [ ]
  value_step IsValue.bool s = elim s [ ]
  value_step IsValue.text s = elim s [ ]
  value_step IsValue.lam s = elim s [ ]
  value_step IsValue.ty_lam s = elim s [ ]
  value_step IsValue.fix s = elim s [ ]
  value_step (IsValue.fields v) (Step.fields s) = values_step v s
  value_step (IsValue.pack v) (Step.pack_body s) = value_step v s
  value_step (IsValue.inj v) (Step.inj_part s) = value_step v s
  value_step (IsValue.roll v) (Step.roll_part s) = value_step v s

  pub values_step : {f g : TermRow} → AreValues f → FieldStep f g → ⊥
  values_step AreValues.end s = elim s [ ]
  values_step (AreValues.more v w) (FieldStep.here s) = value_step v s
  values_step (AreValues.more v w) (FieldStep.there u s) = values_step w s

mutual
  -- a value is no fault
  pub value_fault : {v : Term} {x : Fault} → IsValue v → Faults v x → ⊥
  value_fault IsValue.int s = elim s [ ]
  value_fault IsValue.bool s = elim s [ ]
  value_fault IsValue.text s = elim s [ ]
  value_fault IsValue.lam s = elim s [ ]
  value_fault IsValue.ty_lam s = elim s [ ]
  value_fault IsValue.fix s = elim s [ ]
  value_fault (IsValue.fields v) (Faults.fields s) = values_fault v s
  value_fault (IsValue.pack v) (Faults.pack_body s) = value_fault v s
  value_fault (IsValue.inj v) (Faults.inj_part s) = value_fault v s
  value_fault (IsValue.roll v) (Faults.roll_part s) = value_fault v s

  pub values_fault : {f : TermRow} {x : Fault} → AreValues f → FieldFaults f x → ⊥
  values_fault AreValues.end s = elim s [ ]
  values_fault (AreValues.more v w) (FieldFaults.here s) = value_fault v s
  values_fault (AreValues.more v w) (FieldFaults.there u s) = values_fault w s

-- a label has at most one field in a row of terms
pub field_unique : {f : TermRow} {l m : Label} {e d : Term} → l ≡ m → HasField f l e → HasField f m d → e ≡ d
field_unique p HasField.here HasField.here = refl
field_unique p HasField.here (HasField.there n x) = absurd (n (sym p))
field_unique p (HasField.there n x) HasField.here = absurd (n p)
field_unique p (HasField.there n x) (HasField.there o y) = field_unique p x y

gives_unique : (a : Answer) (e d : Term) → a ≡ Answer.gives e → a ≡ Answer.gives d → e ≡ d
gives_unique a e d p q = cc

fails_unique : (a : Answer) (x y : Fault) → a ≡ Answer.fails x → a ≡ Answer.fails y → x ≡ y
fails_unique a x y p q = cc

gives_fails : (a : Answer) (e : Term) (x : Fault) → a ≡ Answer.gives e → a ≡ Answer.fails x → ⊥
gives_fails a e x p q = cc

mutual
  -- a term steps to at most one term
  pub step_step : {e d c : Term} → Step e d → Step e c → d ≡ c
  step_step (Step.call_function {a = a} s) (Step.call_function r) = ap (λ x. Term.Call x a) (step_step s r)
  step_step (Step.call_function s) (Step.call_arg v r) = absurd (value_step v s)
  step_step (Step.call_function s) (Step.call_lam v) = absurd (value_step IsValue.lam s)
  step_step (Step.call_function s) (Step.call_fix v) = absurd (value_step IsValue.fix s)
  step_step (Step.call_arg v s) (Step.call_function r) = absurd (value_step v r)
  step_step (Step.call_arg {f = f} v s) (Step.call_arg w r) = ap (Term.Call f) (step_step s r)
  step_step (Step.call_arg v s) (Step.call_lam w) = absurd (value_step w s)
  step_step (Step.call_arg v s) (Step.call_fix w) = absurd (value_step w s)
  step_step (Step.call_lam v) (Step.call_function r) = absurd (value_step IsValue.lam r)
  step_step (Step.call_lam v) (Step.call_arg w r) = absurd (value_step v r)
  step_step (Step.call_lam v) (Step.call_lam w) = refl
  step_step (Step.call_fix v) (Step.call_function r) = absurd (value_step IsValue.fix r)
  step_step (Step.call_fix v) (Step.call_arg w r) = absurd (value_step v r)
  step_step (Step.call_fix v) (Step.call_fix w) = refl
  step_step (Step.inst_function {t = t} s) (Step.inst_function r) = ap (λ x. Term.Inst x t) (step_step s r)
  step_step (Step.inst_function s) Step.inst_ty_lam = absurd (value_step IsValue.ty_lam s)
  step_step Step.inst_ty_lam (Step.inst_function r) = absurd (value_step IsValue.ty_lam r)
  step_step Step.inst_ty_lam Step.inst_ty_lam = refl
  step_step (Step.fields s) (Step.fields r) = ap Term.Fields (field_step s r)
  step_step (Step.get_whole {l = l} s) (Step.get_whole r) = ap (λ x. Term.Get x l) (step_step s r)
  step_step (Step.get_whole s) (Step.get_fields v x) = absurd (value_step (IsValue.fields v) s)
  step_step (Step.get_fields v x) (Step.get_whole r) = absurd (value_step (IsValue.fields v) r)
  step_step (Step.get_fields v x) (Step.get_fields w y) = field_unique refl x y
  step_step (Step.pack_body {t = t} {u = u} s) (Step.pack_body r) = ap (λ x. Term.Pack t x u) (step_step s r)
  step_step (Step.unpack_packed {e = e} s) (Step.unpack_packed r) = ap (λ x. Term.Unpack x e) (step_step s r)
  step_step (Step.unpack_packed s) (Step.unpack_pack v) = absurd (value_step (IsValue.pack v) s)
  step_step (Step.unpack_pack v) (Step.unpack_packed r) = absurd (value_step (IsValue.pack v) r)
  step_step (Step.unpack_pack v) (Step.unpack_pack w) = refl
  step_step (Step.if_test {b = b} {c = c} s) (Step.if_test r) = ap (λ x. Term.If x b c) (step_step s r)
  step_step (Step.if_test s) Step.if_true = absurd (value_step IsValue.bool s)
  step_step (Step.if_test s) Step.if_false = absurd (value_step IsValue.bool s)
  step_step Step.if_true (Step.if_test r) = absurd (value_step IsValue.bool r)
  step_step Step.if_true Step.if_true = refl
  step_step Step.if_false (Step.if_test r) = absurd (value_step IsValue.bool r)
  step_step Step.if_false Step.if_false = refl
  step_step (Step.arith_left {o = o} {b = b} s) (Step.arith_left r) = ap (λ x. Term.Arith o x b) (step_step s r)
  step_step (Step.arith_left s) (Step.arith_right v r) = absurd (value_step v s)
  step_step (Step.arith_left s) (Step.arith p) = absurd (value_step IsValue.int s)
  step_step (Step.arith_right v s) (Step.arith_left r) = absurd (value_step v r)
  step_step (Step.arith_right {o = o} {a = a} v s) (Step.arith_right w r) = ap (Term.Arith o a) (step_step s r)
  step_step (Step.arith_right v s) (Step.arith p) = absurd (value_step IsValue.int s)
  step_step (Step.arith p) (Step.arith_left r) = absurd (value_step IsValue.int r)
  step_step (Step.arith p) (Step.arith_right w r) = absurd (value_step IsValue.int r)
  step_step (Step.arith p) (Step.arith q) = gives_unique _ _ _ p q
  step_step (Step.inj_part {l = l} {t = t} s) (Step.inj_part r) = ap (λ x. Term.Inj l x t) (step_step s r)
  step_step (Step.case_whole {t = t} {f = f} s) (Step.case_whole r) = ap (λ x. Term.Case x t f) (step_step s r)
  step_step (Step.case_whole s) (Step.case_inj v x) = absurd (value_step (IsValue.inj v) s)
  step_step (Step.case_inj v x) (Step.case_whole r) = absurd (value_step (IsValue.inj v) r)
  step_step (Step.case_inj {v = a} v x) (Step.case_inj w y) = ap (put_arg a) (field_unique refl x y)
  step_step (Step.roll_part {t = t} s) (Step.roll_part r) = ap (λ x. Term.Roll x t) (step_step s r)
  step_step (Step.unroll_whole s) (Step.unroll_whole r) = ap Term.Unroll (step_step s r)
  step_step (Step.unroll_whole s) (Step.unroll_roll v) = absurd (value_step (IsValue.roll v) s)
  step_step (Step.unroll_roll v) (Step.unroll_whole r) = absurd (value_step (IsValue.roll v) r)
  step_step (Step.unroll_roll v) (Step.unroll_roll w) = refl

  pub field_step : {f g h : TermRow} → FieldStep f g → FieldStep f h → g ≡ h
  field_step (FieldStep.here {l = l} {f = f} s) (FieldStep.here r) = ap (λ x. TermRow.More l x f) (step_step s r)
  field_step (FieldStep.here s) (FieldStep.there v r) = absurd (value_step v s)
  field_step (FieldStep.there v s) (FieldStep.here r) = absurd (value_step v r)
  field_step (FieldStep.there {l = l} {e = e} v s) (FieldStep.there w r) = ap (TermRow.More l e) (field_step s r)

mutual
  -- a term that steps is no fault
  pub step_fault : {e d : Term} {x : Fault} → Step e d → Faults e x → ⊥
  step_fault (Step.call_function s) (Faults.call_function r) = step_fault s r
  step_fault (Step.call_function s) (Faults.call_arg v r) = value_step v s
  step_fault (Step.call_arg v s) (Faults.call_function r) = value_fault v r
  step_fault (Step.call_arg v s) (Faults.call_arg w r) = step_fault s r
  step_fault (Step.call_lam v) (Faults.call_function r) = value_fault IsValue.lam r
  step_fault (Step.call_lam v) (Faults.call_arg w r) = value_fault v r
  step_fault (Step.call_fix v) (Faults.call_function r) = value_fault IsValue.fix r
  step_fault (Step.call_fix v) (Faults.call_arg w r) = value_fault v r
  step_fault (Step.inst_function s) (Faults.inst_function r) = step_fault s r
  step_fault Step.inst_ty_lam (Faults.inst_function r) = value_fault IsValue.ty_lam r
  step_fault (Step.fields s) (Faults.fields r) = field_fault s r
  step_fault (Step.get_whole s) (Faults.get_whole r) = step_fault s r
  step_fault (Step.get_fields v x) (Faults.get_whole r) = value_fault (IsValue.fields v) r
  step_fault (Step.pack_body s) (Faults.pack_body r) = step_fault s r
  step_fault (Step.unpack_packed s) (Faults.unpack_packed r) = step_fault s r
  step_fault (Step.unpack_pack v) (Faults.unpack_packed r) = value_fault (IsValue.pack v) r
  step_fault (Step.if_test s) (Faults.if_test r) = step_fault s r
  step_fault Step.if_true (Faults.if_test r) = value_fault IsValue.bool r
  step_fault Step.if_false (Faults.if_test r) = value_fault IsValue.bool r
  step_fault (Step.arith_left s) (Faults.arith_left r) = step_fault s r
  step_fault (Step.arith_left s) (Faults.arith_right v r) = value_step v s
  step_fault (Step.arith_left s) (Faults.arith p) = value_step IsValue.int s
  step_fault (Step.arith_right v s) (Faults.arith_left r) = value_fault v r
  step_fault (Step.arith_right v s) (Faults.arith_right w r) = step_fault s r
  step_fault (Step.arith_right v s) (Faults.arith p) = value_step IsValue.int s
  step_fault (Step.arith p) (Faults.arith_left r) = value_fault IsValue.int r
  step_fault (Step.arith p) (Faults.arith_right w r) = value_fault IsValue.int r
  step_fault (Step.arith p) (Faults.arith q) = gives_fails _ _ _ p q
  step_fault (Step.inj_part s) (Faults.inj_part r) = step_fault s r
  step_fault (Step.case_whole s) (Faults.case_whole r) = step_fault s r
  step_fault (Step.case_inj v x) (Faults.case_whole r) = value_fault (IsValue.inj v) r
  step_fault (Step.roll_part s) (Faults.roll_part r) = step_fault s r
  step_fault (Step.unroll_whole s) (Faults.unroll_whole r) = step_fault s r
  step_fault (Step.unroll_roll v) (Faults.unroll_whole r) = value_fault (IsValue.roll v) r

  pub field_fault : {f g : TermRow} {x : Fault} → FieldStep f g → FieldFaults f x → ⊥
  field_fault (FieldStep.here s) (FieldFaults.here r) = step_fault s r
  field_fault (FieldStep.here s) (FieldFaults.there v r) = value_step v s
  field_fault (FieldStep.there v s) (FieldFaults.here r) = value_fault v r
  field_fault (FieldStep.there v s) (FieldFaults.there w r) = field_fault s r

mutual
  -- a term is at most one fault
  pub fault_fault : {e : Term} {x y : Fault} → Faults e x → Faults e y → x ≡ y
  fault_fault (Faults.call_function s) (Faults.call_function r) = fault_fault s r
  fault_fault (Faults.call_function s) (Faults.call_arg v r) = absurd (value_fault v s)
  fault_fault (Faults.call_arg v s) (Faults.call_function r) = absurd (value_fault v r)
  fault_fault (Faults.call_arg v s) (Faults.call_arg w r) = fault_fault s r
  fault_fault (Faults.inst_function s) (Faults.inst_function r) = fault_fault s r
  fault_fault (Faults.fields s) (Faults.fields r) = fields_fault s r
  fault_fault (Faults.get_whole s) (Faults.get_whole r) = fault_fault s r
  fault_fault (Faults.pack_body s) (Faults.pack_body r) = fault_fault s r
  fault_fault (Faults.unpack_packed s) (Faults.unpack_packed r) = fault_fault s r
  fault_fault (Faults.if_test s) (Faults.if_test r) = fault_fault s r
  fault_fault (Faults.arith_left s) (Faults.arith_left r) = fault_fault s r
  fault_fault (Faults.arith_left s) (Faults.arith_right v r) = absurd (value_fault v s)
  fault_fault (Faults.arith_left s) (Faults.arith p) = absurd (value_fault IsValue.int s)
  fault_fault (Faults.arith_right v s) (Faults.arith_left r) = absurd (value_fault v r)
  fault_fault (Faults.arith_right v s) (Faults.arith_right w r) = fault_fault s r
  fault_fault (Faults.arith_right v s) (Faults.arith p) = absurd (value_fault IsValue.int s)
  fault_fault (Faults.arith p) (Faults.arith_left r) = absurd (value_fault IsValue.int r)
  fault_fault (Faults.arith p) (Faults.arith_right w r) = absurd (value_fault IsValue.int r)
  fault_fault (Faults.arith p) (Faults.arith q) = fails_unique _ _ _ p q
  fault_fault (Faults.inj_part s) (Faults.inj_part r) = fault_fault s r
  fault_fault (Faults.case_whole s) (Faults.case_whole r) = fault_fault s r
  fault_fault (Faults.roll_part s) (Faults.roll_part r) = fault_fault s r
  fault_fault (Faults.unroll_whole s) (Faults.unroll_whole r) = fault_fault s r

  pub fields_fault : {f : TermRow} {x y : Fault} → FieldFaults f x → FieldFaults f y → x ≡ y
  fields_fault (FieldFaults.here s) (FieldFaults.here r) = fault_fault s r
  fields_fault (FieldFaults.here s) (FieldFaults.there v r) = absurd (value_fault v s)
  fields_fault (FieldFaults.there v s) (FieldFaults.here r) = absurd (value_fault v r)
  fields_fault (FieldFaults.there v s) (FieldFaults.there w r) = fields_fault s r
