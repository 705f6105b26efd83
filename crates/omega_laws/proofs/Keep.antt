-- Steps keep types.
-- Main results: keeps.
use Rattle.std.proofs.Common.{◌≡◌, ℕ, zero, suc, refl, sym, ap, ◌∙◌, subst, List, ◌∷◌, ℤ, Bool as Truth, true, false, cond, ◌+ℤ◌, ◌-ℤ◌, ◌*ℤ◌}
use Rattle.std.specs.Prelude.{int_div, int_rem}
use Rattle.omega_kinds.specs.Kind.{Kind}
use Rattle.omega_kinds.specs.declared.label.Label.{Label}
use Rattle.omega_types.specs.Ty.{Ty, Row}
use Rattle.omega_types.specs.Substitution.{substitute, single, instantiate}
use Rattle.omega_types.specs.Kinding.{HasKind}
use Rattle.omega_types.specs.Kinding.HasKind.{k_var}
use Rattle.omega_types.specs.Conversion.{Conv, Convs}
use Rattle.omega_types.specs.Conversion.Conv.{c_sym, c_trans}
use Rattle.omega_types.specs.Conversion.Convs.{c_more}
use Rattle.omega_types.proofs.Algebra.{substitute-id}
use Rattle.omega_types.proofs.Preservation.{single-substitutes}
use Rattle.omega_types.proofs.Inverse.{arrow_parts, all_parts, ex_parts, fields_parts, sum_parts, mu_parts}
use Rattle.omega_terms.proofs.NormalTyping.{shift-at}
use Rattle.omega_terms.proofs.TypingLaws.{substitute-type, cast-type}
use Rattle.omega_laws.proofs.Common.{shift, put, put_shift, put_conv, unrolled, unrolled_conv}
use Rattle.omega_terms.specs.declared.op.Op.{Op}
use Rattle.omega_terms.specs.Term.{Term, TermRow}
use Rattle.omega_terms.specs.TermSubst.{first_term}
use Rattle.omega_terms.specs.Typing.{At, HasType, FieldsHave, BranchesHave, HasPart, shift_all, result_type, GoodVars}
use Rattle.omega_terms.specs.Steps.{Step, FieldStep, HasField, Answer, Fault, compute, if_fits, fits, is_zero, put_arg, put_fix, put_ty, put_both}
use Rattle.omega_laws.proofs.Unique.{Own, invert}

-- ---- arithmetic gives a term of the operator's type

abbrev Gives : List Kind → List Ty → Ty → Answer → Type 0
Gives ctx vars t (Answer.gives e) = HasType ctx vars e t
Gives ctx vars t (Answer.fails x) = Unit {0}

gives_fit : (ctx : List Kind) (vars : List Ty) (b : Truth) (z : ℤ) → Gives ctx vars Ty.Int (cond b (Answer.gives (Term.Int z)) (Answer.fails Fault.Overflow))
gives_fit ctx vars true z = HasType.int
gives_fit ctx vars false z = tt

gives_divides : (ctx : List Kind) (vars : List Ty) (b : Truth) (x : Answer) → Gives ctx vars Ty.Int x → Gives ctx vars Ty.Int (cond b (Answer.fails Fault.DivideByZero) x)
gives_divides ctx vars true x h = tt
gives_divides ctx vars false x h = h

computed : (ctx : List Kind) (vars : List Ty) (o : Op) (m n : ℤ) → Gives ctx vars (result_type o) (compute o m n)
computed ctx vars Op.Add m n = gives_fit ctx vars (fits (m +ℤ n)) (m +ℤ n)
computed ctx vars Op.Sub m n = gives_fit ctx vars (fits (m -ℤ n)) (m -ℤ n)
computed ctx vars Op.Mul m n = gives_fit ctx vars (fits (m *ℤ n)) (m *ℤ n)
computed ctx vars Op.Div m n = gives_divides ctx vars (is_zero n) (if_fits (int_div m n) (int_div m n)) (gives_fit ctx vars (fits (int_div m n)) (int_div m n))
computed ctx vars Op.Rem m n = gives_divides ctx vars (is_zero n) (if_fits (int_div m n) (int_rem m n)) (gives_fit ctx vars (fits (int_div m n)) (int_rem m n))
computed ctx vars Op.Less m n = HasType.bool
computed ctx vars Op.Equal m n = HasType.bool

computed_type : {ctx : List Kind} {vars : List Ty} (o : Op) (m n : ℤ) (e : Term) → compute o m n ≡ Answer.gives e → HasType ctx vars e (result_type o)
computed_type {ctx} {vars} o m n e p = subst (λ x. Gives ctx vars (result_type o) x) p (computed ctx vars o m n)

-- ---- putting in keeps types

arg_vars : {ctx : List Kind} {vars : List Ty} {t : Ty} {v : Term} → HasType ctx vars v t → (n : ℕ) (u : Ty) → At (t ∷ vars) n u → HasType ctx vars (first_term v Term.Var n) (substitute Ty.Var u)
arg_vars h zero u At.here = cast-type (sym (substitute-id u)) h
arg_vars h (suc n) u (At.there i) = cast-type (sym (substitute-id u)) (HasType.var i)

fix_vars : {ctx : List Kind} {vars : List Ty} {t w : Ty} {v f : Term} → HasType ctx vars v t → HasType ctx vars f w → (n : ℕ) (u : Ty) → At (t ∷ (w ∷ vars)) n u → HasType ctx vars (first_term v (first_term f Term.Var) n) (substitute Ty.Var u)
fix_vars h k zero u At.here = cast-type (sym (substitute-id u)) h
fix_vars h k (suc n) u (At.there i) = arg_vars k n u i

ty_vars : {ctx : List Kind} (vars : List Ty) (a : Ty) (n : ℕ) (u : Ty) → At (shift_all vars) n u → HasType ctx vars (Term.Var n) (substitute (single a) u)
ty_vars vars a n u h =
    let s = shift-at vars h in
    cast-type (sym (put_shift a s.ty) ∙ ap (λ x. instantiate x a) s.is) (HasType.var s.at)

both_vars : {ctx : List Kind} (vars : List Ty) (a b : Ty) (v : Term) → HasType ctx vars v (put a b) → (n : ℕ) (u : Ty) → At (b ∷ shift_all vars) n u → HasType ctx vars (first_term v Term.Var n) (substitute (single a) u)
both_vars vars a b v h zero u At.here = h
both_vars vars a b v h (suc n) u (At.there i) = ty_vars vars a n u i

pub put_arg_type : {ctx : List Kind} {vars : List Ty} (t u : Ty) {e v : Term} → HasType ctx (t ∷ vars) e u → HasType ctx vars v t → HasType ctx vars (put_arg v e) u
put_arg_type t u {v = v} h i = cast-type (substitute-id u) (substitute-type Ty.Var (first_term v Term.Var) (λ n k a. k_var a) (arg_vars i) h)

pub put_fix_type : {ctx : List Kind} {vars : List Ty} (t w u : Ty) {e v f : Term} → HasType ctx (t ∷ (w ∷ vars)) e u → HasType ctx vars v t → HasType ctx vars f w → HasType ctx vars (put_fix v f e) u
put_fix_type t w u {v = v} {f = f} h i j = cast-type (substitute-id u) (substitute-type Ty.Var (first_term v (first_term f Term.Var)) (λ n k a. k_var a) (fix_vars i j) h)

pub put_ty_type : {ctx : List Kind} {vars : List Ty} {k : Kind} (a u : Ty) {e : Term} → HasType (k ∷ ctx) (shift_all vars) e u → HasKind ctx a k → HasType ctx vars (put_ty a e) (put a u)
put_ty_type {vars = vars} a u h i = substitute-type (single a) Term.Var (single-substitutes i) (ty_vars vars a) h

pub put_both_type : {ctx : List Kind} {vars : List Ty} {k : Kind} (a b u : Ty) {e v : Term} → HasType (k ∷ ctx) (b ∷ shift_all vars) e (shift u) → HasKind ctx a k → HasType ctx vars v (put a b) → HasType ctx vars (put_both a v e) u
put_both_type {vars = vars} a b u {v = v} h i j = cast-type (put_shift a u) (substitute-type (single a) (first_term v Term.Var) (single-substitutes i) (both_vars vars a b v j) h)

-- ---- one step, in any context whose term variables have types of kind *

abbrev pub Keeps : Term → Term → Type 0
Keeps e d = (ctx : List Kind) (vars : List Ty) (t : Ty) → GoodVars ctx vars → HasType ctx vars e t → HasType ctx vars d t

abbrev OwnKeeps : Term → Term → Type 0
OwnKeeps e d = (ctx : List Kind) (vars : List Ty) (t : Ty) → GoodVars ctx vars → Own ctx vars e t → HasType ctx vars d t

by_rule : (e d : Term) → OwnKeeps e d → Keeps e d
by_rule e d f ctx vars t g h = let r = invert g h in HasType.conv (f ctx vars r.ty g r.own) r.to

call_function_keeps : (f h a : Term) → Keeps f h → OwnKeeps (Term.Call f a) (Term.Call h a)
call_function_keeps f h a x ctx vars t g (Own.call {t = u} i j) = HasType.call (x ctx vars (Ty.Arrow u t) g i) j

call_arg_keeps : (f a b : Term) → Keeps a b → OwnKeeps (Term.Call f a) (Term.Call f b)
call_arg_keeps f a b x ctx vars t g (Own.call {t = u} i j) = HasType.call i (x ctx vars u g j)

lam_case : {ctx : List Kind} {vars : List Ty} (a : Ty) (e v : Term) (s t u : Ty) → Own ctx vars (Term.Lam a e) s → Conv ctx s (Ty.Arrow u t) Kind.Star → HasType ctx vars v u → HasType ctx vars (put_arg v e) t
lam_case {ctx} a e v s t u (Own.lam {u = w} k h) c i =
    let p : Conv ctx a u Kind.Star × Conv ctx w t Kind.Star = arrow_parts _ _ _ _ _ c in
    HasType.conv (put_arg_type a w h (HasType.conv i (c_sym p.0))) p.1

call_lam_keeps : (a : Ty) (e v : Term) → OwnKeeps (Term.Call (Term.Lam a e) v) (put_arg v e)
call_lam_keeps a e v ctx vars t g (Own.call {t = u} i j) = let r = invert g i in lam_case a e v r.ty t u r.own r.to j

fix_case : {ctx : List Kind} {vars : List Ty} (a b : Ty) (e v : Term) (s t u : Ty) → Own ctx vars (Term.Fix a b e) s → Conv ctx s (Ty.Arrow u t) Kind.Star → HasType ctx vars v u → HasType ctx vars (put_fix v (Term.Fix a b e) e) t
fix_case {ctx} a b e v s t u (Own.fix k j h) c i =
    let p : Conv ctx a u Kind.Star × Conv ctx b t Kind.Star = arrow_parts _ _ _ _ _ c in
    HasType.conv (put_fix_type a (Ty.Arrow a b) b h (HasType.conv i (c_sym p.0)) (HasType.fix k j h)) p.1

call_fix_keeps : (a b : Ty) (e v : Term) → OwnKeeps (Term.Call (Term.Fix a b e) v) (put_fix v (Term.Fix a b e) e)
call_fix_keeps a b e v ctx vars t g (Own.call {t = u} i j) = let r = invert g i in fix_case a b e v r.ty t u r.own r.to j

inst_function_keeps : (f h : Term) (a : Ty) → Keeps f h → OwnKeeps (Term.Inst f a) (Term.Inst h a)
inst_function_keeps f h a x ctx vars t g (Own.inst {k = k} {body = b} i j) = HasType.inst (x ctx vars (Ty.All k b) g i) j

ty_lam_case : {ctx : List Kind} {vars : List Ty} (k j : Kind) (e : Term) (a s b : Ty) → Own ctx vars (Term.TyLam k e) s → Conv ctx s (Ty.All j b) Kind.Star → HasKind ctx a j → HasType ctx vars (put_ty a e) (put a b)
ty_lam_case {ctx} k j e a s b (Own.ty_lam {t = u} h) c i =
    let p : (k ≡ j) × Conv (k ∷ ctx) u b Kind.Star = all_parts _ _ _ _ _ c in
    let i' : HasKind ctx a k = subst (λ x. HasKind ctx a x) (sym p.0) i in
    HasType.conv (put_ty_type a u h i') (put_conv i' p.1)

inst_ty_lam_keeps : (k : Kind) (e : Term) (a : Ty) → OwnKeeps (Term.Inst (Term.TyLam k e) a) (put_ty a e)
inst_ty_lam_keeps k e a ctx vars t g (Own.inst {k = j} {body = b} i m) = let r = invert g i in ty_lam_case k j e a r.ty b r.own r.to m

abbrev pub KeepFields : TermRow → TermRow → Type 0
KeepFields f h = (ctx : List Kind) (vars : List Ty) (r : Row) → GoodVars ctx vars → FieldsHave ctx vars f r → FieldsHave ctx vars h r

fields_keep : (f h : TermRow) → KeepFields f h → OwnKeeps (Term.Fields f) (Term.Fields h)
fields_keep f h x ctx vars t g (Own.fields {r = r} i) = HasType.fields (x ctx vars r g i)

get_whole_keeps : (e d : Term) (l : Label) → Keeps e d → OwnKeeps (Term.Get e l) (Term.Get d l)
get_whole_keeps e d l x ctx vars t g (Own.get {r = r} h p) = HasType.get (x ctx vars (Ty.Fields r) g h) p

-- at one label, given as two
field_type : {ctx : List Kind} {vars : List Ty} {f : TermRow} {q r : Row} {l m : Label} {e : Term} {t : Ty} → FieldsHave ctx vars f q → Convs ctx q r → l ≡ m → HasField f l e → HasPart r m t → HasType ctx vars e t
field_type FieldsHave.end c p x y = elim x [ ]
field_type (FieldsHave.more h d i) (c_more _ _ c k) p HasField.here HasPart.here = HasType.conv h c
field_type (FieldsHave.more h d i) (c_more _ _ c k) p HasField.here (HasPart.there n y) = absurd (n (sym p))
field_type (FieldsHave.more h d i) (c_more _ _ c k) p (HasField.there n x) HasPart.here = absurd (n p)
field_type (FieldsHave.more h d i) (c_more _ _ c k) p (HasField.there n x) (HasPart.there o y) = field_type i k p x y

get_case : {ctx : List Kind} {vars : List Ty} (f : TermRow) (s t : Ty) (r : Row) (l : Label) (e : Term) → Own ctx vars (Term.Fields f) s → Conv ctx s (Ty.Fields r) Kind.Star → HasField f l e → HasPart r l t → HasType ctx vars e t
get_case f s t r l e (Own.fields h) c x y = field_type h (fields_parts _ _ _ c) refl x y

get_fields_keeps : (f : TermRow) (l : Label) (e : Term) → HasField f l e → OwnKeeps (Term.Get (Term.Fields f) l) e
get_fields_keeps f l e x ctx vars t g (Own.get {r = r} h p) = let i = invert g h in get_case f i.ty t r l e i.own i.to x p

pack_body_keeps : (a b : Ty) (e d : Term) → Keeps e d → OwnKeeps (Term.Pack a e b) (Term.Pack a d b)
pack_body_keeps a b e d x ctx vars t g (Own.pack {body = c} p k h) = HasType.pack p k (x ctx vars (put a c) g h)

unpack_packed_keeps : (p q e : Term) → Keeps p q → OwnKeeps (Term.Unpack p e) (Term.Unpack q e)
unpack_packed_keeps p q e x ctx vars t g (Own.unpack {k = k} {body = b} h i) = HasType.unpack (x ctx vars (Ty.Ex k b) g h) i

pack_case : {ctx : List Kind} {vars : List Ty} (j : Kind) (a w s t b : Ty) (v e : Term) → Own ctx vars (Term.Pack a v w) s → Conv ctx s (Ty.Ex j b) Kind.Star → HasType (j ∷ ctx) (b ∷ shift_all vars) e (shift t) → HasType ctx vars (put_both a v e) t
pack_case {ctx} j a w s t b v e (Own.pack {k = k} {body = u} d m i) c h =
    let p : (k ≡ j) × Conv (k ∷ ctx) u b Kind.Star = ex_parts _ _ _ _ _ (c_trans (c_sym d) c) in
    put_both_type a b t h (subst (λ x. HasKind ctx a x) p.0 m) (HasType.conv i (put_conv m p.1))

unpack_pack_keeps : (a w : Ty) (v e : Term) → OwnKeeps (Term.Unpack (Term.Pack a v w) e) (put_both a v e)
unpack_pack_keeps a w v e ctx vars t g (Own.unpack {k = k} {body = b} h i) = let r = invert g h in pack_case k a w r.ty t b v e r.own r.to i

if_test_keeps : (a b c d : Term) → Keeps a d → OwnKeeps (Term.If a b c) (Term.If d b c)
if_test_keeps a b c d x ctx vars t g (Own.if_ h i j) = HasType.if_ (x ctx vars Ty.Bool g h) i j

if_true_keeps : (a b c : Term) → OwnKeeps (Term.If a b c) b
if_true_keeps a b c ctx vars t g (Own.if_ h i j) = i

if_false_keeps : (a b c : Term) → OwnKeeps (Term.If a b c) c
if_false_keeps a b c ctx vars t g (Own.if_ h i j) = j

arith_left_keeps : (o : Op) (a b d : Term) → Keeps a d → OwnKeeps (Term.Arith o a b) (Term.Arith o d b)
arith_left_keeps o a b d x ctx vars t g (Own.arith h i) = HasType.arith (x ctx vars Ty.Int g h) i

arith_right_keeps : (o : Op) (a b d : Term) → Keeps b d → OwnKeeps (Term.Arith o a b) (Term.Arith o a d)
arith_right_keeps o a b d x ctx vars t g (Own.arith h i) = HasType.arith h (x ctx vars Ty.Int g i)

arith_keeps : (o : Op) (m n : ℤ) (e : Term) → compute o m n ≡ Answer.gives e → OwnKeeps (Term.Arith o (Term.Int m) (Term.Int n)) e
arith_keeps o m n e p ctx vars t g (Own.arith h i) = computed_type o m n e p

inj_part_keeps : (l : Label) (e d : Term) (a : Ty) → Keeps e d → OwnKeeps (Term.Inj l e a) (Term.Inj l d a)
inj_part_keeps l e d a x ctx vars t g (Own.inj {u = u} c p h) = HasType.inj c p (x ctx vars u g h)

case_whole_keeps : (e d : Term) (a : Ty) (f : TermRow) → Keeps e d → OwnKeeps (Term.Case e a f) (Term.Case d a f)
case_whole_keeps e d a f x ctx vars t g (Own.case {r = r} h k b) = HasType.case (x ctx vars (Ty.Sum r) g h) k b

-- the branch at one label, given as two, with a value of the label's type put in
branch_type : {ctx : List Kind} {vars : List Ty} {f : TermRow} {q r : Row} {l m : Label} {e v : Term} {t u : Ty} → BranchesHave ctx vars f r t → Convs ctx q r → l ≡ m → HasField f l e → HasPart q m u → HasType ctx vars v u → HasType ctx vars (put_arg v e) t
branch_type BranchesHave.none c p x y i = elim x [ ]
branch_type {t = t} (BranchesHave.branch {u = w} h b) (c_more _ _ c k) p HasField.here HasPart.here i = put_arg_type w t h (HasType.conv i c)
branch_type (BranchesHave.branch h b) (c_more _ _ c k) p HasField.here (HasPart.there n y) i = absurd (n (sym p))
branch_type (BranchesHave.branch h b) (c_more _ _ c k) p (HasField.there n x) HasPart.here i = absurd (n p)
branch_type (BranchesHave.branch h b) (c_more _ _ c k) p (HasField.there n x) (HasPart.there o y) i = branch_type b k p x y i

inj_case : {ctx : List Kind} {vars : List Ty} (l : Label) (v e : Term) (a s t : Ty) (r : Row) (f : TermRow) → Own ctx vars (Term.Inj l v a) s → Conv ctx s (Ty.Sum r) Kind.Star → BranchesHave ctx vars f r t → HasField f l e → HasType ctx vars (put_arg v e) t
inj_case l v e a s t r f (Own.inj d p i) c b x = branch_type b (sum_parts _ _ _ (c_trans (c_sym d) c)) refl x p i

case_inj_keeps : (l : Label) (v e : Term) (a w : Ty) (f : TermRow) → HasField f l e → OwnKeeps (Term.Case (Term.Inj l v w) a f) (put_arg v e)
case_inj_keeps l v e a w f x ctx vars t g (Own.case {r = r} h k b) = let i = invert g h in inj_case l v e w i.ty t r f i.own i.to b x

roll_part_keeps : (e d : Term) (a : Ty) → Keeps e d → OwnKeeps (Term.Roll e a) (Term.Roll d a)
roll_part_keeps e d a x ctx vars t g (Own.roll {body = b} c h) = HasType.roll c (x ctx vars (unrolled b) g h)

unroll_whole_keeps : (e d : Term) → Keeps e d → OwnKeeps (Term.Unroll e) (Term.Unroll d)
unroll_whole_keeps e d x ctx vars t g (Own.unroll {body = b} h) = HasType.unroll (x ctx vars (Ty.Mu b) g h)

roll_case : {ctx : List Kind} {vars : List Ty} (v : Term) (a s b : Ty) → Own ctx vars (Term.Roll v a) s → Conv ctx s (Ty.Mu b) Kind.Star → HasType ctx vars v (unrolled b)
roll_case v a s b (Own.roll d i) c = HasType.conv i (unrolled_conv (mu_parts _ _ _ (c_trans (c_sym d) c)))

unroll_roll_keeps : (v : Term) (a : Ty) → OwnKeeps (Term.Unroll (Term.Roll v a)) v
unroll_roll_keeps v a ctx vars t g (Own.unroll {body = b} h) = let i = invert g h in roll_case v a i.ty b i.own i.to

here_keeps : (l : Label) (e d : Term) (f : TermRow) → Keeps e d → KeepFields (TermRow.More l e f) (TermRow.More l d f)
here_keeps l e d f x ctx vars r g (FieldsHave.more {t = t} h n i) = FieldsHave.more (x ctx vars t g h) n i

there_keeps : (l : Label) (e : Term) (f f' : TermRow) → KeepFields f f' → KeepFields (TermRow.More l e f) (TermRow.More l e f')
there_keeps l e f f' x ctx vars r g (FieldsHave.more {r = q} h n i) = FieldsHave.more h n (x ctx vars q g i)

mutual
  -- a step keeps each type of a term
  pub keeps : {e d : Term} → Step e d → Keeps e d
  keeps (Step.call_function {f = f} {g = h} {a = a} s) = by_rule _ _ (call_function_keeps f h a (keeps s))
  keeps (Step.call_arg {f = f} {a = a} {b = b} v s) = by_rule _ _ (call_arg_keeps f a b (keeps s))
  keeps (Step.call_lam {t = t} {e = e} {v = x} v) = by_rule _ _ (call_lam_keeps t e x)
  keeps (Step.call_fix {t = t} {u = u} {e = e} {v = x} v) = by_rule _ _ (call_fix_keeps t u e x)
  keeps (Step.inst_function {f = f} {g = h} {t = t} s) = by_rule _ _ (inst_function_keeps f h t (keeps s))
  keeps (Step.inst_ty_lam {k = k} {e = e} {t = t}) = by_rule _ _ (inst_ty_lam_keeps k e t)
  keeps (Step.fields {f = f} {g = h} s) = by_rule _ _ (fields_keep f h (field_keeps s))
  keeps (Step.get_whole {e = e} {d = d} {l = l} s) = by_rule _ _ (get_whole_keeps e d l (keeps s))
  keeps (Step.get_fields {f = f} {l = l} {e = e} v x) = by_rule _ _ (get_fields_keeps f l e x)
  keeps (Step.pack_body {t = t} {u = u} {e = e} {d = d} s) = by_rule _ _ (pack_body_keeps t u e d (keeps s))
  keeps (Step.unpack_packed {p = p} {q = q} {e = e} s) = by_rule _ _ (unpack_packed_keeps p q e (keeps s))
  keeps (Step.unpack_pack {t = t} {u = u} {v = x} {e = e} v) = by_rule _ _ (unpack_pack_keeps t u x e)
  keeps (Step.if_test {a = a} {b = b} {c = c} {d = d} s) = by_rule _ _ (if_test_keeps a b c d (keeps s))
  keeps (Step.if_true {b = b} {c = c}) = by_rule _ _ (if_true_keeps _ b c)
  keeps (Step.if_false {b = b} {c = c}) = by_rule _ _ (if_false_keeps _ b c)
  keeps (Step.arith_left {o = o} {a = a} {b = b} {d = d} s) = by_rule _ _ (arith_left_keeps o a b d (keeps s))
  keeps (Step.arith_right {o = o} {a = a} {b = b} {d = d} v s) = by_rule _ _ (arith_right_keeps o a b d (keeps s))
  keeps (Step.arith {o = o} {m = m} {n = n} {e = e} p) = by_rule _ _ (arith_keeps o m n e p)
  keeps (Step.inj_part {l = l} {e = e} {d = d} {t = t} s) = by_rule _ _ (inj_part_keeps l e d t (keeps s))
  keeps (Step.case_whole {e = e} {d = d} {t = t} {f = f} s) = by_rule _ _ (case_whole_keeps e d t f (keeps s))
  keeps (Step.case_inj {l = l} {v = x} {e = e} {t = t} {u = u} {f = f} v y) = by_rule _ _ (case_inj_keeps l x e t u f y)
  keeps (Step.roll_part {e = e} {d = d} {t = t} s) = by_rule _ _ (roll_part_keeps e d t (keeps s))
  keeps (Step.unroll_whole {e = e} {d = d} s) = by_rule _ _ (unroll_whole_keeps e d (keeps s))
  keeps (Step.unroll_roll {v = x} {t = t} v) = by_rule _ _ (unroll_roll_keeps x t)

  pub field_keeps : {f h : TermRow} → FieldStep f h → KeepFields f h
  field_keeps (FieldStep.here {l = l} {e = e} {d = d} {f = f} s) = here_keeps l e d f (keeps s)
  field_keeps (FieldStep.there {l = l} {e = e} {f = f} {g = h} v s) = there_keeps l e f h (field_keeps s)
