-- Where a term faults, what it is like faults too.
-- Main results: faults_too.
use Rattle.std.proofs.Common.{◌≡◌, ℕ, ℤ}
use Rattle.omega_terms.specs.declared.op.Op.{Op}
use Rattle.omega_terms.specs.Term.{Term, TermRow}
use Rattle.omega_terms.specs.Steps.{IsValue, Faults, FieldFaults, Fault, Answer, compute}
use Rattle.omega_laws.proofs.Determined.{value_fault}
use Rattle.omega_simplify_laws.proofs.Likeness.{Like, AreLike, GivesBack}
use Rattle.omega_simplify_laws.proofs.Values.{value_like}

pub no_fault : {n : ℕ} {f : Term} {x : Fault} → GivesBack n f → Faults f x → ⊥
no_fault (GivesBack.whole p) s = elim s [ ]
no_fault (GivesBack.parts p) s = elim s [ ]
no_fault (GivesBack.chain g h l) (Faults.call_function s) = no_fault g s
no_fault (GivesBack.chain g h l) (Faults.call_arg v s) = no_fault h s

arith_faults : {i j : ℕ} {o : Op} {m n : ℤ} {x y : Term} {z : Fault} → Like i (Term.Int m) x → Like j (Term.Int n) y → compute o m n ≡ Answer.fails z →
    Faults (Term.Arith o x y) z
arith_faults Like.int Like.int e = Faults.arith e

mutual
  -- a fault of a term is one of what it is like
  pub faults_too : {n : ℕ} {e d : Term} {x : Fault} → Like n e d → Faults e x → Faults d x
  faults_too Like.var s = elim s [ ]
  faults_too Like.int s = elim s [ ]
  faults_too Like.bool s = elim s [ ]
  faults_too Like.text s = elim s [ ]
  faults_too (Like.lam p) s = elim s [ ]
  faults_too (Like.ty_lam p) s = elim s [ ]
  faults_too (Like.fix p) s = elim s [ ]
  faults_too (Like.call p q l) (Faults.call_function s) = Faults.call_function (faults_too p s)
  faults_too (Like.call p q l) (Faults.call_arg v s) = Faults.call_arg (value_like v p) (faults_too q s)
  faults_too (Like.drop g p l) (Faults.call_function s) = absurd (no_fault g s)
  faults_too (Like.drop g p l) (Faults.call_arg v s) = faults_too p s
  faults_too (Like.inst p) (Faults.inst_function s) = Faults.inst_function (faults_too p s)
  faults_too (Like.fields p) (Faults.fields s) = Faults.fields (fields_fault_too p s)
  faults_too (Like.get p l) (Faults.get_whole s) = Faults.get_whole (faults_too p s)
  faults_too (Like.part p vs y l) (Faults.get_whole s) = absurd (value_fault (IsValue.fields vs) (faults_too p s))
  faults_too (Like.pack p) (Faults.pack_body s) = Faults.pack_body (faults_too p s)
  faults_too (Like.unpack p q) (Faults.unpack_packed s) = Faults.unpack_packed (faults_too p s)
  faults_too (Like.if_ p q r) (Faults.if_test s) = Faults.if_test (faults_too p s)
  faults_too (Like.arith p q l) (Faults.arith_left s) = Faults.arith_left (faults_too p s)
  faults_too (Like.arith p q l) (Faults.arith_right v s) = Faults.arith_right (value_like v p) (faults_too q s)
  faults_too (Like.arith p q l) (Faults.arith e) = arith_faults p q e
  faults_too (Like.inj p) (Faults.inj_part s) = Faults.inj_part (faults_too p s)
  faults_too (Like.case p q) (Faults.case_whole s) = Faults.case_whole (faults_too p s)
  faults_too (Like.roll p) (Faults.roll_part s) = Faults.roll_part (faults_too p s)
  faults_too (Like.unroll p) (Faults.unroll_whole s) = Faults.unroll_whole (faults_too p s)

  pub fields_fault_too : {n : ℕ} {f g : TermRow} {x : Fault} → AreLike n f g → FieldFaults f x → FieldFaults g x
  fields_fault_too AreLike.end s = elim s [ ]
  fields_fault_too (AreLike.more p q l) (FieldFaults.here s) = FieldFaults.here (faults_too p s)
  fields_fault_too (AreLike.more p q l) (FieldFaults.there v s) = FieldFaults.there (value_like v p) (fields_fault_too q s)
