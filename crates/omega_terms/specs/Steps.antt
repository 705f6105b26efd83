-- Values, steps and faults: call by value, left to right, by substitution, on closed terms (Pierce, "Types and Programming Languages",
-- chapters 5, 11, 20, 23 and 24; arithmetic that does not fit and its faults are own).
-- A record's fields and the branches of a case stand in label order.
use Rattle.std.specs.Prelude.{ℕ, zero, suc, List, ◌≡◌, ◌≢◌, Bool, true, false, cond, ◌&&◌, ℤ, pos, negsuc, ◌+ℤ◌, ◌-ℤ◌, ◌*ℤ◌, int_div, int_rem, int_lt, int_le, ◌^◌, ◌-◌, ◌≤◌}
use Rattle.omega_kinds.specs.Kind.{Kind}
use Rattle.omega_kinds.specs.declared.label.Label.{Label}
use Rattle.omega_types.specs.Ty.{Ty}
use Rattle.omega_types.specs.Substitution.{single}
use Rattle.omega_terms.specs.declared.op.Op.{Op}
use Rattle.omega_terms.specs.Term.{Term, TermRow}
use Rattle.omega_terms.specs.TermSubst.{sub_term, first_term}

mutual
  pub data IsValue : Term → Type 0 where
    int : {z : ℤ} → IsValue (Term.Int z)
    bool : {b : Bool} → IsValue (Term.Bool b)
    text : {s : List ℕ} → IsValue (Term.Text s)
    lam : {t : Ty} {e : Term} → IsValue (Term.Lam t e)
    ty_lam : {k : Kind} {e : Term} → IsValue (Term.TyLam k e)
    fix : {t u : Ty} {e : Term} → IsValue (Term.Fix t u e)
    fields : {f : TermRow} → AreValues f → IsValue (Term.Fields f)
    pack : {t u : Ty} {e : Term} → IsValue e → IsValue (Term.Pack t e u)
    inj : {l : Label} {e : Term} {t : Ty} → IsValue e → IsValue (Term.Inj l e t)
    roll : {e : Term} {t : Ty} → IsValue e → IsValue (Term.Roll e t)

  pub data AreValues : TermRow → Type 0 where
    end : AreValues TermRow.End
    more : {l : Label} {e : Term} {f : TermRow} → IsValue e → AreValues f → AreValues (TermRow.More l e f)

-- the fields, or the branches, have the term at the label
pub data HasField : TermRow → Label → Term → Type 0 where
  here : {l : Label} {e : Term} {f : TermRow} → HasField (TermRow.More l e f) l e
  there : {l m : Label} {e d : Term} {f : TermRow} → l ≢ m → HasField f l e → HasField (TermRow.More m d f) l e

pub data Fault : Type 0 where
  Overflow DivideByZero : Fault

-- what an operator on two numbers comes to
pub data Answer : Type 0 where
  gives : Term → Answer
  fails : Fault → Answer

abbrev pub fits : ℤ → Bool
fits z = int_le (negsuc (2 ^ 63 - 1)) z && int_lt z (pos (2 ^ 63))

-- z is the result where w fits into 64 bits
abbrev pub if_fits : ℤ → ℤ → Answer
if_fits w z = cond (fits w) (gives (Term.Int z)) (fails Overflow)

abbrev pub is_zero : ℤ → Bool
is_zero z = int_le z (pos 0) && int_le (pos 0) z

abbrev pub if_divides : ℤ → Answer → Answer
if_divides n a = cond (is_zero n) (fails DivideByZero) a

abbrev pub compute : Op → ℤ → ℤ → Answer
compute Op.Add m n = if_fits (m +ℤ n) (m +ℤ n)
compute Op.Sub m n = if_fits (m -ℤ n) (m -ℤ n)
compute Op.Mul m n = if_fits (m *ℤ n) (m *ℤ n)
compute Op.Div m n = if_divides n (if_fits (int_div m n) (int_div m n))
compute Op.Rem m n = if_divides n (if_fits (int_div m n) (int_rem m n))
compute Op.Less m n = gives (Term.Bool (int_lt m n))
compute Op.Equal m n = gives (Term.Bool (int_le m n && int_le n m))

-- the body with the argument put in for the term variable 0
abbrev pub put_arg : Term → Term → Term
put_arg a e = sub_term Ty.Var (first_term a Term.Var) e

-- the body of a fix, under the function itself and then its argument
abbrev pub put_fix : Term → Term → Term → Term
put_fix a f e = sub_term Ty.Var (first_term a (first_term f Term.Var)) e

-- the body with the type put in for the type variable 0
abbrev pub put_ty : Ty → Term → Term
put_ty t e = sub_term (single t) Term.Var e

-- the body of an open, under the hidden type and then the packed value
abbrev pub put_both : Ty → Term → Term → Term
put_both t v e = sub_term (single t) (first_term v Term.Var) e

mutual
  pub data Step : Term → Term → Type 0 where
    call_function : {f g a : Term} → Step f g → Step (Term.Call f a) (Term.Call g a)
    call_arg : {f a b : Term} → IsValue f → Step a b → Step (Term.Call f a) (Term.Call f b)
    call_lam : {t : Ty} {e v : Term} → IsValue v → Step (Term.Call (Term.Lam t e) v) (put_arg v e)
    call_fix : {t u : Ty} {e v : Term} → IsValue v → Step (Term.Call (Term.Fix t u e) v) (put_fix v (Term.Fix t u e) e)
    inst_function : {f g : Term} {t : Ty} → Step f g → Step (Term.Inst f t) (Term.Inst g t)
    inst_ty_lam : {k : Kind} {e : Term} {t : Ty} → Step (Term.Inst (Term.TyLam k e) t) (put_ty t e)
    fields : {f g : TermRow} → FieldStep f g → Step (Term.Fields f) (Term.Fields g)
    get_whole : {e d : Term} {l : Label} → Step e d → Step (Term.Get e l) (Term.Get d l)
    get_fields : {f : TermRow} {l : Label} {e : Term} → AreValues f → HasField f l e → Step (Term.Get (Term.Fields f) l) e
    pack_body : {t u : Ty} {e d : Term} → Step e d → Step (Term.Pack t e u) (Term.Pack t d u)
    unpack_packed : {p q e : Term} → Step p q → Step (Term.Unpack p e) (Term.Unpack q e)
    unpack_pack : {t u : Ty} {v e : Term} → IsValue v → Step (Term.Unpack (Term.Pack t v u) e) (put_both t v e)
    if_test : {a b c d : Term} → Step a d → Step (Term.If a b c) (Term.If d b c)
    if_true : {b c : Term} → Step (Term.If (Term.Bool true) b c) b
    if_false : {b c : Term} → Step (Term.If (Term.Bool false) b c) c
    arith_left : {o : Op} {a b d : Term} → Step a d → Step (Term.Arith o a b) (Term.Arith o d b)
    arith_right : {o : Op} {a b d : Term} → IsValue a → Step b d → Step (Term.Arith o a b) (Term.Arith o a d)
    arith : {o : Op} {m n : ℤ} {e : Term} → compute o m n ≡ gives e → Step (Term.Arith o (Term.Int m) (Term.Int n)) e
    inj_part : {l : Label} {e d : Term} {t : Ty} → Step e d → Step (Term.Inj l e t) (Term.Inj l d t)
    case_whole : {e d : Term} {t : Ty} {f : TermRow} → Step e d → Step (Term.Case e t f) (Term.Case d t f)
    case_inj : {l : Label} {v e : Term} {t u : Ty} {f : TermRow} → IsValue v → HasField f l e → Step (Term.Case (Term.Inj l v u) t f) (put_arg v e)
    roll_part : {e d : Term} {t : Ty} → Step e d → Step (Term.Roll e t) (Term.Roll d t)
    unroll_whole : {e d : Term} → Step e d → Step (Term.Unroll e) (Term.Unroll d)
    unroll_roll : {v : Term} {t : Ty} → IsValue v → Step (Term.Unroll (Term.Roll v t)) v

  pub data FieldStep : TermRow → TermRow → Type 0 where
    here : {l : Label} {e d : Term} {f : TermRow} → Step e d → FieldStep (TermRow.More l e f) (TermRow.More l d f)
    there : {l : Label} {e : Term} {f g : TermRow} → IsValue e → FieldStep f g → FieldStep (TermRow.More l e f) (TermRow.More l e g)

mutual
  pub data Faults : Term → Fault → Type 0 where
    call_function : {f a : Term} {x : Fault} → Faults f x → Faults (Term.Call f a) x
    call_arg : {f a : Term} {x : Fault} → IsValue f → Faults a x → Faults (Term.Call f a) x
    inst_function : {f : Term} {t : Ty} {x : Fault} → Faults f x → Faults (Term.Inst f t) x
    fields : {f : TermRow} {x : Fault} → FieldFaults f x → Faults (Term.Fields f) x
    get_whole : {e : Term} {l : Label} {x : Fault} → Faults e x → Faults (Term.Get e l) x
    pack_body : {t u : Ty} {e : Term} {x : Fault} → Faults e x → Faults (Term.Pack t e u) x
    unpack_packed : {p e : Term} {x : Fault} → Faults p x → Faults (Term.Unpack p e) x
    if_test : {a b c : Term} {x : Fault} → Faults a x → Faults (Term.If a b c) x
    arith_left : {o : Op} {a b : Term} {x : Fault} → Faults a x → Faults (Term.Arith o a b) x
    arith_right : {o : Op} {a b : Term} {x : Fault} → IsValue a → Faults b x → Faults (Term.Arith o a b) x
    arith : {o : Op} {m n : ℤ} {x : Fault} → compute o m n ≡ fails x → Faults (Term.Arith o (Term.Int m) (Term.Int n)) x
    inj_part : {l : Label} {e : Term} {t : Ty} {x : Fault} → Faults e x → Faults (Term.Inj l e t) x
    case_whole : {e : Term} {t : Ty} {f : TermRow} {x : Fault} → Faults e x → Faults (Term.Case e t f) x
    roll_part : {e : Term} {t : Ty} {x : Fault} → Faults e x → Faults (Term.Roll e t) x
    unroll_whole : {e : Term} {x : Fault} → Faults e x → Faults (Term.Unroll e) x

  pub data FieldFaults : TermRow → Fault → Type 0 where
    here : {l : Label} {e : Term} {f : TermRow} {x : Fault} → Faults e x → FieldFaults (TermRow.More l e f) x
    there : {l : Label} {e : Term} {f : TermRow} {x : Fault} → IsValue e → FieldFaults f x → FieldFaults (TermRow.More l e f) x

-- n steps
pub data Reaches : Term → ℕ → Term → Type 0 where
  none : {e : Term} → Reaches e zero e
  step : {e d c : Term} {n : ℕ} → Step e d → Reaches d n c → Reaches e (suc n) c

-- what a term ends in: a value, or the fault met at the last step
pub data End : Type 0 where
  the_value : Term → End
  the_fault : Fault → End

pub data Ends : Term → ℕ → End → Type 0 where
  value : {e v : Term} {n : ℕ} → Reaches e n v → IsValue v → Ends e n (the_value v)
  fault : {e d : Term} {n : ℕ} {x : Fault} → Reaches e n d → Faults d x → Ends e (suc n) (the_fault x)

-- what a run with a budget comes to: an end with its number of steps, or the budget is spent
pub data Result : Type 0 where
  ended : End → ℕ → Result
  spent : Result

pub data Outcome (e : Term) (budget : ℕ) : Result → Type 0 where
  ended : {n : ℕ} {r : End} → Ends e n r → n ≤ budget → Outcome e budget (Result.ended r n)
  spent : ((n : ℕ) (r : End) → Ends e n r → n ≤ budget → ⊥) → Outcome e budget Result.spent

-- no value, no step, no fault
pub record Stuck (e : Term) : Type 0 where
  pub no_value : IsValue e → ⊥
  pub no_step : (d : Term) → Step e d → ⊥
  pub no_fault : (x : Fault) → Faults e x → ⊥

-- fields of values with any number of packs round them
pub data PacksFields : Term → Type 0 where
  fields : {f : TermRow} → AreValues f → PacksFields (Term.Fields f)
  pack : {t u : Ty} {e : Term} → PacksFields e → PacksFields (Term.Pack t e u)
