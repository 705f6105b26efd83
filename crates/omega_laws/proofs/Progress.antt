-- Canonical forms, and progress: a closed typed term is a value, steps, or faults.
-- Main results: progress, never_stuck.
use Rattle.std.proofs.Common.{◌≡◌, ℕ, refl, subst, List, [], ℤ, Bool as Truth, true, false, ◌≢◌}
use Rattle.omega_kinds.specs.Kind.{Kind}
use Rattle.omega_kinds.specs.declared.label.Label.{Label}
use Rattle.omega_types.specs.Ty.{Ty, Row}
use Rattle.omega_types.specs.Conversion.{Conv, Convs}
use Rattle.omega_types.specs.Conversion.Conv.{c_sym, c_trans}
use Rattle.omega_types.specs.Conversion.Convs.{c_end, c_more}
use Rattle.omega_types.proofs.Inverse.{fields_parts, sum_parts}
use Rattle.omega_terms.proofs.TypingLaws.{good-none}
use Rattle.omega_laws.proofs.Common.{Form, form, Canon, one_form}
use Rattle.omega_terms.specs.declared.op.Op.{Op}
use Rattle.omega_terms.specs.Term.{Term, TermRow}
use Rattle.omega_terms.specs.Typing.{HasType, FieldsHave, BranchesHave, HasPart}
use Rattle.omega_terms.specs.Steps.{IsValue, AreValues, HasField, Step, FieldStep, Faults, FieldFaults, Fault, Answer, compute, Stuck}
use Rattle.omega_laws.proofs.Unique.{Own, invert}

-- what progress says of a term: it is a value, steps or faults
pub data Progress (e : Term) : Type 0 where
  value : IsValue e → Progress e
  steps : (d : Term) → Step e d → Progress e
  faults : (x : Fault) → Faults e x → Progress e

pub data FieldsProgress (f : TermRow) : Type 0 where
  values : AreValues f → FieldsProgress f
  steps : (g : TermRow) → FieldStep f g → FieldsProgress f
  faults : (x : Fault) → FieldFaults f x → FieldsProgress f

int_some : Form.the_int ≢ Form.no_form
int_some p = cc

bool_some : Form.the_bool ≢ Form.no_form
bool_some p = cc

text_some : Form.the_text ≢ Form.no_form
text_some p = cc

arrow_some : Form.an_arrow ≢ Form.no_form
arrow_some p = cc

record_some : Form.a_record ≢ Form.no_form
record_some p = cc

all_some : Form.an_all ≢ Form.no_form
all_some p = cc

ex_some : Form.an_ex ≢ Form.no_form
ex_some p = cc

sum_some : Form.a_sum ≢ Form.no_form
sum_some p = cc

mu_some : Form.a_mu ≢ Form.no_form
mu_some p = cc

pub record FieldAt (f : TermRow) (l : Label) : Type 0 where
  pub term : Term
  pub at : HasField f l term

field_at : {ctx : List Kind} {vars : List Ty} {f : TermRow} {q r : Row} {l : Label} {t : Ty} → FieldsHave ctx vars f q → Convs ctx q r → HasPart r l t → FieldAt f l
field_at FieldsHave.end c_end p = elim p [ ]
field_at (FieldsHave.more {e = e} h d i) (c_more _ _ c k) HasPart.here = record { term = e; at = HasField.here }
field_at (FieldsHave.more h d i) (c_more _ _ c k) (HasPart.there n p) = let r = field_at i k p in record { term = r.term; at = HasField.there n r.at }

branch_at : {ctx : List Kind} {vars : List Ty} {f : TermRow} {q r : Row} {l : Label} {t u : Ty} → BranchesHave ctx vars f r t → Convs ctx q r → HasPart q l u → FieldAt f l
branch_at BranchesHave.none c_end p = elim p [ ]
branch_at (BranchesHave.branch {e = e} h b) (c_more _ _ c k) HasPart.here = record { term = e; at = HasField.here }
branch_at (BranchesHave.branch h b) (c_more _ _ c k) (HasPart.there n p) = let r = branch_at b k p in record { term = r.term; at = HasField.there n r.at }

-- ---- one form at a time

call_redex : (f a : Term) → Canon Form.an_arrow f → IsValue a → Progress (Term.Call f a)
call_redex f a Canon.lam v = Progress.steps _ (Step.call_lam v)
call_redex f a Canon.fix v = Progress.steps _ (Step.call_fix v)

call_arg : (f a : Term) → IsValue f → Canon Form.an_arrow f → Progress a → Progress (Term.Call f a)
call_arg f a v c (Progress.value w) = call_redex f a c w
call_arg f a v c (Progress.steps d s) = Progress.steps _ (Step.call_arg v s)
call_arg f a v c (Progress.faults x s) = Progress.faults x (Faults.call_arg v s)

call_progress : (f a : Term) → (IsValue f → Canon Form.an_arrow f) → Progress f → Progress a → Progress (Term.Call f a)
call_progress f a c (Progress.value v) p = call_arg f a v (c v) p
call_progress f a c (Progress.steps d s) p = Progress.steps _ (Step.call_function s)
call_progress f a c (Progress.faults x s) p = Progress.faults x (Faults.call_function s)

inst_redex : (f : Term) (t : Ty) → Canon Form.an_all f → Progress (Term.Inst f t)
inst_redex f t Canon.ty_lam = Progress.steps _ Step.inst_ty_lam

inst_progress : (f : Term) (t : Ty) → (IsValue f → Canon Form.an_all f) → Progress f → Progress (Term.Inst f t)
inst_progress f t c (Progress.value v) = inst_redex f t (c v)
inst_progress f t c (Progress.steps d s) = Progress.steps _ (Step.inst_function s)
inst_progress f t c (Progress.faults x s) = Progress.faults x (Faults.inst_function s)

fields_progress : (f : TermRow) → FieldsProgress f → Progress (Term.Fields f)
fields_progress f (FieldsProgress.values v) = Progress.value (IsValue.fields v)
fields_progress f (FieldsProgress.steps d s) = Progress.steps _ (Step.fields s)
fields_progress f (FieldsProgress.faults x s) = Progress.faults x (Faults.fields s)

rest_progress : (l : Label) (e : Term) (f : TermRow) → IsValue e → FieldsProgress f → FieldsProgress (TermRow.More l e f)
rest_progress l e f v (FieldsProgress.values w) = FieldsProgress.values (AreValues.more v w)
rest_progress l e f v (FieldsProgress.steps d s) = FieldsProgress.steps _ (FieldStep.there v s)
rest_progress l e f v (FieldsProgress.faults x s) = FieldsProgress.faults x (FieldFaults.there v s)

more_progress : (l : Label) (e : Term) (f : TermRow) → Progress e → FieldsProgress f → FieldsProgress (TermRow.More l e f)
more_progress l e f (Progress.value v) p = rest_progress l e f v p
more_progress l e f (Progress.steps d s) p = FieldsProgress.steps _ (FieldStep.here s)
more_progress l e f (Progress.faults x s) p = FieldsProgress.faults x (FieldFaults.here s)

get_redex : (e : Term) (l : Label) → Canon Form.a_record e → ((f : TermRow) → e ≡ Term.Fields f → FieldAt f l) → Progress (Term.Get e l)
get_redex e l (Canon.fields {f = f} v) h = let r = h f refl in Progress.steps r.term (Step.get_fields v r.at)

get_progress : (e : Term) (l : Label) → (IsValue e → Canon Form.a_record e) → ((f : TermRow) → e ≡ Term.Fields f → FieldAt f l) → Progress e → Progress (Term.Get e l)
get_progress e l c h (Progress.value v) = get_redex e l (c v) h
get_progress e l c h (Progress.steps d s) = Progress.steps _ (Step.get_whole s)
get_progress e l c h (Progress.faults x s) = Progress.faults x (Faults.get_whole s)

pack_progress : (t : Ty) (e : Term) (u : Ty) → Progress e → Progress (Term.Pack t e u)
pack_progress t e u (Progress.value v) = Progress.value (IsValue.pack v)
pack_progress t e u (Progress.steps d s) = Progress.steps _ (Step.pack_body s)
pack_progress t e u (Progress.faults x s) = Progress.faults x (Faults.pack_body s)

unpack_redex : (p e : Term) → Canon Form.an_ex p → Progress (Term.Unpack p e)
unpack_redex p e (Canon.pack v) = Progress.steps _ (Step.unpack_pack v)

unpack_progress : (p e : Term) → (IsValue p → Canon Form.an_ex p) → Progress p → Progress (Term.Unpack p e)
unpack_progress p e c (Progress.value v) = unpack_redex p e (c v)
unpack_progress p e c (Progress.steps d s) = Progress.steps _ (Step.unpack_packed s)
unpack_progress p e c (Progress.faults x s) = Progress.faults x (Faults.unpack_packed s)

if_case : (b : Truth) (y n : Term) → Progress (Term.If (Term.Bool b) y n)
if_case true y n = Progress.steps y Step.if_true
if_case false y n = Progress.steps n Step.if_false

if_redex : (a y n : Term) → Canon Form.the_bool a → Progress (Term.If a y n)
if_redex a y n (Canon.bool {b = b}) = if_case b y n

if_progress : (a y n : Term) → (IsValue a → Canon Form.the_bool a) → Progress a → Progress (Term.If a y n)
if_progress a y n c (Progress.value v) = if_redex a y n (c v)
if_progress a y n c (Progress.steps d s) = Progress.steps _ (Step.if_test s)
if_progress a y n c (Progress.faults x s) = Progress.faults x (Faults.if_test s)

answer_progress : (o : Op) (m n : ℤ) (a : Answer) → compute o m n ≡ a → Progress (Term.Arith o (Term.Int m) (Term.Int n))
answer_progress o m n (Answer.gives e) p = Progress.steps e (Step.arith p)
answer_progress o m n (Answer.fails x) p = Progress.faults x (Faults.arith p)

arith_redex : (o : Op) (a b : Term) → Canon Form.the_int a → Canon Form.the_int b → Progress (Term.Arith o a b)
arith_redex o a b (Canon.int {z = m}) (Canon.int {z = n}) = answer_progress o m n (compute o m n) refl

arith_right : (o : Op) (a b : Term) → IsValue a → Canon Form.the_int a → (IsValue b → Canon Form.the_int b) → Progress b → Progress (Term.Arith o a b)
arith_right o a b v c i (Progress.value w) = arith_redex o a b c (i w)
arith_right o a b v c i (Progress.steps d s) = Progress.steps _ (Step.arith_right v s)
arith_right o a b v c i (Progress.faults x s) = Progress.faults x (Faults.arith_right v s)

arith_progress : (o : Op) (a b : Term) → (IsValue a → Canon Form.the_int a) → (IsValue b → Canon Form.the_int b) → Progress a → Progress b → Progress (Term.Arith o a b)
arith_progress o a b c i (Progress.value v) p = arith_right o a b v (c v) i p
arith_progress o a b c i (Progress.steps d s) p = Progress.steps _ (Step.arith_left s)
arith_progress o a b c i (Progress.faults x s) p = Progress.faults x (Faults.arith_left s)

inj_progress : (l : Label) (e : Term) (t : Ty) → Progress e → Progress (Term.Inj l e t)
inj_progress l e t (Progress.value v) = Progress.value (IsValue.inj v)
inj_progress l e t (Progress.steps d s) = Progress.steps _ (Step.inj_part s)
inj_progress l e t (Progress.faults x s) = Progress.faults x (Faults.inj_part s)

-- a term injected at a label has a branch there
abbrev HasBranch : Term → TermRow → Type 0
HasBranch e f = (l : Label) (d : Term) (t : Ty) → e ≡ Term.Inj l d t → FieldAt f l

case_redex : (e : Term) (t : Ty) (f : TermRow) → Canon Form.a_sum e → HasBranch e f → Progress (Term.Case e t f)
case_redex e t f (Canon.inj {l = l} {e = d} {t = u} v) h = let r = h l d u refl in Progress.steps _ (Step.case_inj v r.at)

case_progress : (e : Term) (t : Ty) (f : TermRow) → (IsValue e → Canon Form.a_sum e) → HasBranch e f → Progress e → Progress (Term.Case e t f)
case_progress e t f c h (Progress.value v) = case_redex e t f (c v) h
case_progress e t f c h (Progress.steps d s) = Progress.steps _ (Step.case_whole s)
case_progress e t f c h (Progress.faults x s) = Progress.faults x (Faults.case_whole s)

roll_progress : (e : Term) (t : Ty) → Progress e → Progress (Term.Roll e t)
roll_progress e t (Progress.value v) = Progress.value (IsValue.roll v)
roll_progress e t (Progress.steps d s) = Progress.steps _ (Step.roll_part s)
roll_progress e t (Progress.faults x s) = Progress.faults x (Faults.roll_part s)

unroll_redex : (e : Term) → Canon Form.a_mu e → Progress (Term.Unroll e)
unroll_redex e (Canon.roll v) = Progress.steps _ (Step.unroll_roll v)

unroll_progress : (e : Term) → (IsValue e → Canon Form.a_mu e) → Progress e → Progress (Term.Unroll e)
unroll_progress e c (Progress.value v) = unroll_redex e (c v)
unroll_progress e c (Progress.steps d s) = Progress.steps _ (Step.unroll_whole s)
unroll_progress e c (Progress.faults x s) = Progress.faults x (Faults.unroll_whole s)

by_form : {s t : Ty} {v : Term} → Canon (form s) v → Conv [] s t Kind.Star → form s ≢ Form.no_form → form t ≢ Form.no_form → Canon (form t) v
by_form {v = v} c e m n = subst (λ x. Canon x v) (one_form e m n) c

own_canon : {s t : Ty} {v : Term} → IsValue v → Own [] [] v s → Conv [] s t Kind.Star → form t ≢ Form.no_form → Canon (form t) v
own_canon IsValue.int Own.int c n = by_form Canon.int c int_some n
own_canon IsValue.bool Own.bool c n = by_form Canon.bool c bool_some n
own_canon IsValue.text Own.text c n = by_form Canon.text c text_some n
own_canon IsValue.lam (Own.lam k h) c n = by_form Canon.lam c arrow_some n
own_canon IsValue.ty_lam (Own.ty_lam h) c n = by_form Canon.ty_lam c all_some n
own_canon IsValue.fix (Own.fix k j h) c n = by_form Canon.fix c arrow_some n
own_canon (IsValue.fields v) (Own.fields h) c n = by_form (Canon.fields v) c record_some n
own_canon (IsValue.pack v) (Own.pack d k h) c n = by_form (Canon.pack v) (c_trans (c_sym d) c) ex_some n
own_canon (IsValue.inj v) (Own.inj d p h) c n = by_form (Canon.inj v) (c_trans (c_sym d) c) sum_some n
own_canon (IsValue.roll v) (Own.roll d h) c n = by_form (Canon.roll v) (c_trans (c_sym d) c) mu_some n

-- canonical forms
-- a closed value of a type that has a form is of the form that belongs to it
pub canon : (v : Term) (t : Ty) → HasType [] [] v t → form t ≢ Form.no_form → IsValue v → Canon (form t) v
canon v t h n i = let r = invert (good-none []) h in own_canon i r.own r.to n

field_case : {e : Term} {s t : Ty} {r : Row} {l : Label} → Own [] [] e s → Conv [] s (Ty.Fields r) Kind.Star → HasPart r l t → (f : TermRow) → e ≡ Term.Fields f → FieldAt f l
field_case {e} {s} {t} {r} {l} o c p f q = go f (subst (λ x. Own [] [] x s) q o) c
  where
    go : (f : TermRow) {s : Ty} → Own [] [] (Term.Fields f) s → Conv [] s (Ty.Fields r) Kind.Star → FieldAt f l
    go f (Own.fields h) c = field_at h (fields_parts _ _ _ c) p

branch_case : {e : Term} {s t : Ty} {r : Row} {f : TermRow} → Own [] [] e s → Conv [] s (Ty.Sum r) Kind.Star → BranchesHave [] [] f r t → HasBranch e f
branch_case {e} {s} {t} {r} {f} o c b l d u q = go (subst (λ x. Own [] [] x s) q o) c
  where
    go : {s : Ty} → Own [] [] (Term.Inj l d u) s → Conv [] s (Ty.Sum r) Kind.Star → FieldAt f l
    go (Own.inj i p h) c = branch_at b (sum_parts _ _ _ (c_trans (c_sym i) c)) p

abbrev Goes : Term → Type 0
Goes e = (t : Ty) → HasType [] [] e t → Progress e

abbrev OwnGoes : Term → Type 0
OwnGoes e = (t : Ty) → Own [] [] e t → Progress e

by_rule : (e : Term) → OwnGoes e → Goes e
by_rule e f t h = let r = invert (good-none []) h in f r.ty r.own

var_goes : (n : ℕ) → OwnGoes (Term.Var n)
var_goes n t (Own.var h) = elim h [ ]

call_goes : (f a : Term) → Goes f → Goes a → OwnGoes (Term.Call f a)
call_goes f a p q t (Own.call {t = u} h i) = call_progress f a (canon f (Ty.Arrow u t) h arrow_some) (p (Ty.Arrow u t) h) (q u i)

inst_goes : (f : Term) (a : Ty) → Goes f → OwnGoes (Term.Inst f a)
inst_goes f a p t (Own.inst {k = k} {body = b} h i) = inst_progress f a (canon f (Ty.All k b) h all_some) (p (Ty.All k b) h)

get_goes : (e : Term) (l : Label) → Goes e → OwnGoes (Term.Get e l)
get_goes e l p t (Own.get {r = r} h i) =
    let v = invert (good-none []) h in
    get_progress e l (canon e (Ty.Fields r) h record_some) (field_case v.own v.to i) (p (Ty.Fields r) h)

pack_goes : (a : Ty) (e : Term) (u : Ty) → Goes e → OwnGoes (Term.Pack a e u)
pack_goes a e u p t (Own.pack c k h) = pack_progress a e u (p _ h)

unpack_goes : (q e : Term) → Goes q → OwnGoes (Term.Unpack q e)
unpack_goes q e p t (Own.unpack {k = k} {body = b} h i) = unpack_progress q e (canon q (Ty.Ex k b) h ex_some) (p (Ty.Ex k b) h)

if_goes : (a b c : Term) → Goes a → OwnGoes (Term.If a b c)
if_goes a b c p t (Own.if_ h i j) = if_progress a b c (canon a Ty.Bool h bool_some) (p Ty.Bool h)

arith_goes : (o : Op) (a b : Term) → Goes a → Goes b → OwnGoes (Term.Arith o a b)
arith_goes o a b p q t (Own.arith h i) = arith_progress o a b (canon a Ty.Int h int_some) (canon b Ty.Int i int_some) (p Ty.Int h) (q Ty.Int i)

inj_goes : (l : Label) (e : Term) (a : Ty) → Goes e → OwnGoes (Term.Inj l e a)
inj_goes l e a p t (Own.inj {u = u} c q h) = inj_progress l e a (p u h)

case_goes : (e : Term) (a : Ty) (f : TermRow) → Goes e → OwnGoes (Term.Case e a f)
case_goes e a f p t (Own.case {r = r} h k b) =
    let v = invert (good-none []) h in
    case_progress e a f (canon e (Ty.Sum r) h sum_some) (branch_case v.own v.to b) (p (Ty.Sum r) h)

roll_goes : (e : Term) (a : Ty) → Goes e → OwnGoes (Term.Roll e a)
roll_goes e a p t (Own.roll c h) = roll_progress e a (p _ h)

unroll_goes : (e : Term) → Goes e → OwnGoes (Term.Unroll e)
unroll_goes e p t (Own.unroll {body = b} h) = unroll_progress e (canon e (Ty.Mu b) h mu_some) (p (Ty.Mu b) h)

abbrev FieldsGo : TermRow → Type 0
FieldsGo f = (r : Row) → FieldsHave [] [] f r → FieldsProgress f

fields_goes : (f : TermRow) → FieldsGo f → OwnGoes (Term.Fields f)
fields_goes f p t (Own.fields {r = r} h) = fields_progress f (p r h)

more_goes : (l : Label) (e : Term) (f : TermRow) → Goes e → FieldsGo f → FieldsGo (TermRow.More l e f)
more_goes l e f p q r (FieldsHave.more {t = t} {r = s} h d i) = more_progress l e f (p t h) (q s i)

mutual
  -- progress
  -- a closed typed term is a value, steps or faults
  pub progress : (e : Term) → Goes e
  progress (Term.Var n) = by_rule (Term.Var n) (var_goes n)
  progress (Term.Int z) = λ t h. Progress.value IsValue.int
  progress (Term.Bool b) = λ t h. Progress.value IsValue.bool
  progress (Term.Text s) = λ t h. Progress.value IsValue.text
  progress (Term.Lam t e) = λ u h. Progress.value IsValue.lam
  progress (Term.Call f a) = by_rule (Term.Call f a) (call_goes f a (progress f) (progress a))
  progress (Term.TyLam k e) = λ t h. Progress.value IsValue.ty_lam
  progress (Term.Inst f t) = by_rule (Term.Inst f t) (inst_goes f t (progress f))
  progress (Term.Fields f) = by_rule (Term.Fields f) (fields_goes f (field_progress f))
  progress (Term.Get e l) = by_rule (Term.Get e l) (get_goes e l (progress e))
  progress (Term.Pack t e u) = by_rule (Term.Pack t e u) (pack_goes t e u (progress e))
  progress (Term.Unpack p e) = by_rule (Term.Unpack p e) (unpack_goes p e (progress p))
  progress (Term.If a b c) = by_rule (Term.If a b c) (if_goes a b c (progress a))
  progress (Term.Arith o a b) = by_rule (Term.Arith o a b) (arith_goes o a b (progress a) (progress b))
  progress (Term.Fix t u e) = λ v h. Progress.value IsValue.fix
  progress (Term.Inj l e t) = by_rule (Term.Inj l e t) (inj_goes l e t (progress e))
  progress (Term.Case e t f) = by_rule (Term.Case e t f) (case_goes e t f (progress e))
  progress (Term.Roll e t) = by_rule (Term.Roll e t) (roll_goes e t (progress e))
  progress (Term.Unroll e) = by_rule (Term.Unroll e) (unroll_goes e (progress e))

  pub field_progress : (f : TermRow) → FieldsGo f
  field_progress TermRow.End = λ r h. FieldsProgress.values AreValues.end
  field_progress (TermRow.More l e f) = more_goes l e f (progress e) (field_progress f)

not_stuck : (e : Term) → Progress e → Stuck e → ⊥
not_stuck e (Progress.value v) s = s.no_value v
not_stuck e (Progress.steps d h) s = s.no_step d h
not_stuck e (Progress.faults x h) s = s.no_fault x h

-- a closed typed term is not stuck
pub never_stuck : (e : Term) (t : Ty) → HasType [] [] e t → Stuck e → ⊥
never_stuck e t h = not_stuck e (progress e t h)
