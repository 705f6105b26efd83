-- The values that stand in a redex of a typed term have the form that its step needs.
-- Main results: no-function, no-record, no-package, no-injection, value-at.
use Rattle.std.proofs.Common.{◌≡◌, ◌≢◌, ℤ, [], refl, sym, subst, Bool as Truth}
use Rattle.omega_kinds.specs.declared.label.Label.{Label}
use Rattle.omega_types.specs.Ty.{Ty}
use Rattle.omega_types.specs.declared.tree.Ty.{Ty as TyHandle}
use Rattle.omega_kinds.specs.declared.kind.Kind.{Kind as KindHandle}
use Rattle.omega_terms.specs.declared.tree.Term.{Term as TermHandle}
use Rattle.omega_terms.specs.declared.tree.TermFields.{TermFields}
use Rattle.omega_terms.specs.declared.tree.TermNode.{TermNode}
use Rattle.omega_terms.specs.declared.tree.TermNode.TheVariants as node
use Rattle.omega_terms.specs.declared.op.Op.{Op}
use Rattle.omega_terms.specs.Term.{Term, TermRow}
use Rattle.omega_terms.specs.Typing.{HasType}
use Rattle.omega_terms.specs.Steps.{IsValue, AreValues, HasField, Step, Faults}
use Rattle.omega_terms.specs.Inner.View.{term_of}
use Rattle.omega_terms.proofs.TypingLaws.{good-none}
use Rattle.omega_laws.proofs.Common.{Form, Canon}
use Rattle.omega_laws.proofs.Unique.{Own, invert}
use Rattle.omega_laws.proofs.Progress.{Progress, canon, progress}
use Rattle.omega_laws.proofs.Determined.{value_step, value_fault}
use Rattle.omega_machine.specs.Inner.Contexts.{result_of, branches_of, case_of}
use Rattle.omega_machine.specs.Inner.Moves.{IsTyped}

int_some : Form.the_int ≢ Form.no_form
int_some p = cc

bool_some : Form.the_bool ≢ Form.no_form
bool_some p = cc

arrow_some : Form.an_arrow ≢ Form.no_form
arrow_some p = cc

record_some : Form.a_record ≢ Form.no_form
record_some p = cc

all_some : Form.an_all ≢ Form.no_form
all_some p = cc

ex_some : Form.an_ex ≢ Form.no_form
ex_some p = cc

sum_some : Form.a_sum ≢ Form.no_form
sum_some p = cc

mu_some : Form.a_mu ≢ Form.no_form
mu_some p = cc

-- ---- the forms, from the typing rule of the redex

call-own : (f a : Term) (t : Ty) → Own [] [] (Term.Call f a) t → IsValue f → Canon Form.an_arrow f
call-own f a t (Own.call {t = u} h i) v = canon f (Ty.Arrow u t) h arrow_some v

pub call-form : (f a : Term) → IsTyped (Term.Call f a) → IsValue f → Canon Form.an_arrow f
call-form f a h v = let r = invert (good-none []) h.1 in call-own f a r.ty r.own v

inst-own : (f : Term) (a t : Ty) → Own [] [] (Term.Inst f a) t → IsValue f → Canon Form.an_all f
inst-own f a t (Own.inst {k = k} {body = b} h i) v = canon f (Ty.All k b) h all_some v

pub inst-form : (f : Term) (a : Ty) → IsTyped (Term.Inst f a) → IsValue f → Canon Form.an_all f
inst-form f a h v = let r = invert (good-none []) h.1 in inst-own f a r.ty r.own v

get-own : (e : Term) (l : Label) (t : Ty) → Own [] [] (Term.Get e l) t → IsValue e → Canon Form.a_record e
get-own e l t (Own.get {r = r} h i) v = canon e (Ty.Fields r) h record_some v

pub get-form : (e : Term) (l : Label) → IsTyped (Term.Get e l) → IsValue e → Canon Form.a_record e
get-form e l h v = let r = invert (good-none []) h.1 in get-own e l r.ty r.own v

open-own : (p e : Term) (t : Ty) → Own [] [] (Term.Unpack p e) t → IsValue p → Canon Form.an_ex p
open-own p e t (Own.unpack {k = k} {body = b} h i) v = canon p (Ty.Ex k b) h ex_some v

pub open-form : (p e : Term) → IsTyped (Term.Unpack p e) → IsValue p → Canon Form.an_ex p
open-form p e h v = let r = invert (good-none []) h.1 in open-own p e r.ty r.own v

if-own : (a b c : Term) (t : Ty) → Own [] [] (Term.If a b c) t → IsValue a → Canon Form.the_bool a
if-own a b c t (Own.if_ h i j) v = canon a Ty.Bool h bool_some v

pub if-form : (a b c : Term) → IsTyped (Term.If a b c) → IsValue a → Canon Form.the_bool a
if-form a b c h v = let r = invert (good-none []) h.1 in if-own a b c r.ty r.own v

left-own : (o : Op) (a b : Term) (t : Ty) → Own [] [] (Term.Arith o a b) t → IsValue a → Canon Form.the_int a
left-own o a b t (Own.arith h i) v = canon a Ty.Int h int_some v

pub left-form : (o : Op) (a b : Term) → IsTyped (Term.Arith o a b) → IsValue a → Canon Form.the_int a
left-form o a b h v = let r = invert (good-none []) h.1 in left-own o a b r.ty r.own v

right-own : (o : Op) (a b : Term) (t : Ty) → Own [] [] (Term.Arith o a b) t → IsValue b → Canon Form.the_int b
right-own o a b t (Own.arith h i) v = canon b Ty.Int i int_some v

pub right-form : (o : Op) (a b : Term) → IsTyped (Term.Arith o a b) → IsValue b → Canon Form.the_int b
right-form o a b h v = let r = invert (good-none []) h.1 in right-own o a b r.ty r.own v

case-own : (e : Term) (u : Ty) (f : TermRow) (t : Ty) → Own [] [] (Term.Case e u f) t → IsValue e → Canon Form.a_sum e
case-own e u f t (Own.case {r = r} h k b) v = canon e (Ty.Sum r) h sum_some v

pub case-form : (e : Term) (u : Ty) (f : TermRow) → IsTyped (Term.Case e u f) → IsValue e → Canon Form.a_sum e
case-form e u f h v = let r = invert (good-none []) h.1 in case-own e u f r.ty r.own v

unroll-own : (e : Term) (t : Ty) → Own [] [] (Term.Unroll e) t → IsValue e → Canon Form.a_mu e
unroll-own e t (Own.unroll {body = b} h) v = canon e (Ty.Mu b) h mu_some v

pub unroll-form : (e : Term) → IsTyped (Term.Unroll e) → IsValue e → Canon Form.a_mu e
unroll-form e h v = let r = invert (good-none []) h.1 in unroll-own e r.ty r.own v

-- a closed variable has no type
var-own : (n : _) (t : Ty) → Own [] [] (Term.Var n) t → ⊥
var-own n t (Own.var h) = elim h [ ]

-- a closed typed term is no variable
pub no-variable : (e : Term) (n : _) → Term.Var n ≡ e → IsTyped e → ⊥
no-variable e n p h = let r = invert (good-none []) (subst (λ x. HasType [] [] x h.0) (sym p) h.1) in var-own n r.ty r.own

-- ---- the nodes

function-node : (n : TermNode) → Canon Form.an_arrow (term_of n) → ((t : TyHandle) (e : TermHandle) → n ≡ node.Lam t e → ⊥) → ((t u : TyHandle) (e : TermHandle) → n ≡ node.Fix t u e → ⊥) → ⊥
function-node (node.Lam t e) c l f = l t e refl
function-node (node.Fix t u e) c l f = f t u e refl
function-node _ c l f = elim c [ ]

-- a value that a typed term calls is a function or a recursive function
pub no-function : (n : TermNode) (f a : Term) → term_of n ≡ f → IsTyped (Term.Call f a) → IsValue f → ((t : TyHandle) (e : TermHandle) → n ≡ node.Lam t e → ⊥) → ((t u : TyHandle) (e : TermHandle) → n ≡ node.Fix t u e → ⊥) → ⊥
no-function n f a p h v = function-node n (subst (Canon Form.an_arrow) (sym p) (call-form f a h v))

instance-node : (n : TermNode) → Canon Form.an_all (term_of n) → ((k : KindHandle) (e : TermHandle) → n ≡ node.TyLam k e → ⊥) → ⊥
instance-node (node.TyLam k e) c l = l k e refl
instance-node _ c l = elim c [ ]

-- a value that a typed term gives a type is a type function
pub no-instance : (n : TermNode) (f : Term) (a : Ty) → term_of n ≡ f → IsTyped (Term.Inst f a) → IsValue f → ((k : KindHandle) (e : TermHandle) → n ≡ node.TyLam k e → ⊥) → ⊥
no-instance n f a p h v = instance-node n (subst (Canon Form.an_all) (sym p) (inst-form f a h v))

record-node : (n : TermNode) → Canon Form.a_record (term_of n) → ((f : TermFields) → n ≡ node.Fields f → ⊥) → ⊥
record-node (node.Fields f) c l = l f refl
record-node _ c l = elim c [ ]

-- a value of which a typed term selects a field is a record
pub no-record : (n : TermNode) (e : Term) (l : Label) → term_of n ≡ e → IsTyped (Term.Get e l) → IsValue e → ((f : TermFields) → n ≡ node.Fields f → ⊥) → ⊥
no-record n e l p h v = record-node n (subst (Canon Form.a_record) (sym p) (get-form e l h v))

package-node : (n : TermNode) → Canon Form.an_ex (term_of n) → ((t : TyHandle) (e : TermHandle) (u : TyHandle) → n ≡ node.Pack t e u → ⊥) → ⊥
package-node (node.Pack t e u) c l = l t e u refl
package-node _ c l = elim c [ ]

-- a value that a typed term opens is a package
pub no-package : (n : TermNode) (d e : Term) → term_of n ≡ d → IsTyped (Term.Unpack d e) → IsValue d → ((t : TyHandle) (e : TermHandle) (u : TyHandle) → n ≡ node.Pack t e u → ⊥) → ⊥
no-package n d e p h v = package-node n (subst (Canon Form.an_ex) (sym p) (open-form d e h v))

test-node : (n : TermNode) → Canon Form.the_bool (term_of n) → ((b : Truth) → n ≡ node.Bool b → ⊥) → ⊥
test-node (node.Bool b) c l = l b refl
test-node _ c l = elim c [ ]

-- a value that a typed term tests is a truth value
pub no-test : (n : TermNode) (a b c : Term) → term_of n ≡ a → IsTyped (Term.If a b c) → IsValue a → ((x : Truth) → n ≡ node.Bool x → ⊥) → ⊥
no-test n a b c p h v = test-node n (subst (Canon Form.the_bool) (sym p) (if-form a b c h v))

number-node : (n : TermNode) → Canon Form.the_int (term_of n) → ((z : ℤ) → n ≡ node.Int z → ⊥) → ⊥
number-node (node.Int z) c l = l z refl
number-node _ c l = elim c [ ]

-- the left operand of a typed operation, if a value, is a number
pub no-left : (n : TermNode) (o : Op) (a b : Term) → term_of n ≡ a → IsTyped (Term.Arith o a b) → IsValue a → ((z : ℤ) → n ≡ node.Int z → ⊥) → ⊥
no-left n o a b p h v = number-node n (subst (Canon Form.the_int) (sym p) (left-form o a b h v))

-- the right operand of a typed operation, if a value, is a number
pub no-right : (n : TermNode) (o : Op) (a b : Term) → term_of n ≡ b → IsTyped (Term.Arith o a b) → IsValue b → ((z : ℤ) → n ≡ node.Int z → ⊥) → ⊥
no-right n o a b p h v = number-node n (subst (Canon Form.the_int) (sym p) (right-form o a b h v))

injection-node : (n : TermNode) → Canon Form.a_sum (term_of n) → ((l : Label) (e : TermHandle) (t : TyHandle) → n ≡ node.Inj l e t → ⊥) → ⊥
injection-node (node.Inj l e t) c h = h l e t refl
injection-node _ c h = elim c [ ]

-- a value that a typed case takes apart is an injection
pub no-injection : (n : TermNode) (w e : Term) → term_of n ≡ e → IsTyped (case_of w e) → IsValue e → ((l : Label) (e : TermHandle) (t : TyHandle) → n ≡ node.Inj l e t → ⊥) → ⊥
no-injection n w e p h v = injection-node n (subst (Canon Form.a_sum) (sym p) (case-form e (result_of w) (branches_of w) h v))

rolled-node : (n : TermNode) → Canon Form.a_mu (term_of n) → ((e : TermHandle) (t : TyHandle) → n ≡ node.Roll e t → ⊥) → ⊥
rolled-node (node.Roll e t) c h = h e t refl
rolled-node _ c h = elim c [ ]

-- a value that a typed term unrolls is a rolled one
pub no-rolled : (n : TermNode) (e : Term) → term_of n ≡ e → IsTyped (Term.Unroll e) → IsValue e → ((e : TermHandle) (t : TyHandle) → n ≡ node.Roll e t → ⊥) → ⊥
no-rolled n e p h v = rolled-node n (subst (Canon Form.a_mu) (sym p) (unroll-form e h v))

-- ---- the fields of a record value

-- the fields of a record that is a value are values
pub fields-values : {f : TermRow} → IsValue (Term.Fields f) → AreValues f
fields-values (IsValue.fields v) = v

-- what is inside a package that is a value is a value
pub body-value : {t u : Ty} {e : Term} → IsValue (Term.Pack t e u) → IsValue e
body-value (IsValue.pack v) = v

-- what is inside an injection that is a value is a value
pub injected-value : {l : Label} {e : Term} {t : Ty} → IsValue (Term.Inj l e t) → IsValue e
injected-value (IsValue.inj v) = v

-- what is inside a rolled value is a value
pub rolled-value : {e : Term} {t : Ty} → IsValue (Term.Roll e t) → IsValue e
rolled-value (IsValue.roll v) = v

-- the field of a label among values is a value
pub value-at : {f : TermRow} {l : Label} {e : Term} → AreValues f → HasField f l e → IsValue e
value-at AreValues.end h = elim h [ ]
value-at (AreValues.more v w) HasField.here = v
value-at (AreValues.more v w) (HasField.there n h) = value-at w h

get-step : {f : TermRow} {l : Label} {d : Term} → AreValues f → Step (Term.Get (Term.Fields f) l) d → HasField f l d
get-step v (Step.get_whole s) = absurd (value_step (IsValue.fields v) s)
get-step v (Step.get_fields w h) = h

get-fault : {f : TermRow} {l : Label} {x : _} → AreValues f → Faults (Term.Get (Term.Fields f) l) x → ⊥
get-fault v (Faults.get_whole s) = value_fault (IsValue.fields v) s

get-progress : {f : TermRow} {l : Label} → AreValues f → Progress (Term.Get (Term.Fields f) l) → (e : Term) × HasField f l e
get-progress v (Progress.value w) = elim w [ ]
get-progress v (Progress.steps d s) = (d, get-step v s)
get-progress v (Progress.faults x s) = absurd (get-fault v s)

-- a record value of which a label is taken has it
pub has-field : (f : TermRow) (l : Label) → AreValues f → IsTyped (Term.Get (Term.Fields f) l) → (e : Term) × HasField f l e
has-field f l v h = get-progress v (progress (Term.Get (Term.Fields f) l) h.0 h.1)

-- ---- the branch of a case

case-step : {l : Label} {e d : Term} {t u : Ty} {f : TermRow} → IsValue e → Step (Term.Case (Term.Inj l e u) t f) d → (b : Term) × HasField f l b
case-step v (Step.case_whole s) = absurd (value_step (IsValue.inj v) s)
case-step v (Step.case_inj {e = b} w h) = (b, h)

case-fault : {l : Label} {e : Term} {t u : Ty} {f : TermRow} {x : _} → IsValue e → Faults (Term.Case (Term.Inj l e u) t f) x → ⊥
case-fault v (Faults.case_whole s) = value_fault (IsValue.inj v) s

case-progress : {l : Label} {e : Term} {t u : Ty} {f : TermRow} → IsValue e → Progress (Term.Case (Term.Inj l e u) t f) → (b : Term) × HasField f l b
case-progress v (Progress.value w) = elim w [ ]
case-progress v (Progress.steps d s) = case-step v s
case-progress v (Progress.faults x s) = absurd (case-fault v s)

-- a case of an injection has a branch at its label
pub has-branch : (l : Label) (e : Term) (t u : Ty) (f : TermRow) → IsValue e → IsTyped (Term.Case (Term.Inj l e u) t f) → (b : Term) × HasField f l b
has-branch l e t u f v h = case-progress v (progress (Term.Case (Term.Inj l e u) t f) h.0 h.1)
