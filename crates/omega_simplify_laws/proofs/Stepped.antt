-- Where a typed term steps, what it is like either steps to what the new term is like, or stays, the new term having
-- less left to do.
-- Main results: follows.
use Rattle.std.proofs.Common.{◌≡◌, ℕ, zero, suc, ◌+◌, ◌<◌, ◌≤◌, refl, sym, ap, ◌∙◌, subst, ℤ, true, false, arith}
use Rattle.omega_kinds.specs.Kind.{Kind}
use Rattle.omega_kinds.specs.declared.label.Label.{Label}
use Rattle.omega_types.specs.Ty.{Ty}
use Rattle.omega_types.specs.Substitution.{single}
use Rattle.omega_terms.specs.declared.op.Op.{Op}
use Rattle.omega_terms.specs.Term.{Term, TermRow}
use Rattle.omega_terms.specs.TermSubst.{first_term}
use Rattle.omega_terms.specs.Steps.{IsValue, AreValues, HasField, Step, FieldStep, Answer, compute, put_arg, put_fix, put_ty, put_both}
use Rattle.omega_laws.proofs.Determined.{value_step, field_unique}
use Rattle.omega_simplify_laws.proofs.Flat.{parts_of}
use Rattle.omega_simplify_laws.proofs.Likeness.{Like, AreLike, GivesBack}
use Rattle.omega_simplify_laws.proofs.Reflexive.{itself}
use Rattle.omega_simplify_laws.proofs.Algebra.{same_terms, first_like, two_like, sub_parts, sub_like}
use Rattle.omega_simplify_laws.proofs.Values.{value_like, values_like, at_any, field_value, field_like}
use Rattle.omega_simplify_laws.proofs.Parts.{like_record}
use Rattle.omega_simplify_laws.proofs.TypedParts.{IsTyped, AreTyped, call_function_typed, call_arg_typed, inst_typed, fields_typed}
use Rattle.omega_simplify_laws.proofs.TypedParts.{get_typed, pack_typed, unpack_typed, if_typed, arith_left_typed, arith_right_typed}
use Rattle.omega_simplify_laws.proofs.TypedParts.{inj_typed, case_typed, roll_typed, unroll_typed}
use Rattle.omega_simplify_laws.proofs.TypedParts.{here_typed, there_typed, arg_typed, rebuilt}
use Rattle.omega_simplify_laws.proofs.Given.{GivesLess, given_step}

-- what a term comes to by a step is followed: it is like the other term at less weight, or like what that steps to
pub data Follows (n : ℕ) (c d : Term) : Type 0 where
  stays : {k : ℕ} → Like k c d → k < n → Follows n c d
  steps : {k : ℕ} {e : Term} → Step d e → Like k c e → Follows n c d

pub data RowFollows (n : ℕ) (f g : TermRow) : Type 0 where
  stays : {k : ℕ} → AreLike k f g → k < n → RowFollows n f g
  steps : {k : ℕ} {h : TermRow} → FieldStep g h → AreLike k f h → RowFollows n f g

-- ---- inside

call_function_follows : {n i j : ℕ} {c g a b : Term} → Follows i c g → Like j a b → i + j ≤ n → Follows n (Term.Call c a) (Term.Call g b)
call_function_follows {j = j} (Follows.stays {k = k} p m) q l = Follows.stays {k = k + j} (Like.call p q (omega arith)) (omega arith)
call_function_follows {j = j} (Follows.steps {k = k} s p) q l = Follows.steps {k = k + j} (Step.call_function s) (Like.call p q (omega arith))

call_arg_follows : {n i j : ℕ} {f g c b : Term} → IsValue g → Like i f g → Follows j c b → i + j ≤ n → Follows n (Term.Call f c) (Term.Call g b)
call_arg_follows {i = i} v p (Follows.stays {k = k} q m) l = Follows.stays {k = i + k} (Like.call p q (omega arith)) (omega arith)
call_arg_follows {i = i} v p (Follows.steps {k = k} s q) l = Follows.steps {k = i + k} (Step.call_arg v s) (Like.call p q (omega arith))

inst_follows : {n : ℕ} {c d : Term} (t : Ty) → Follows n c d → Follows n (Term.Inst c t) (Term.Inst d t)
inst_follows t (Follows.stays p m) = Follows.stays (Like.inst p) m
inst_follows t (Follows.steps s p) = Follows.steps (Step.inst_function s) (Like.inst p)

fields_follow : {n : ℕ} {f g : TermRow} → RowFollows n f g → Follows n (Term.Fields f) (Term.Fields g)
fields_follow (RowFollows.stays p m) = Follows.stays (Like.fields p) m
fields_follow (RowFollows.steps s p) = Follows.steps (Step.fields s) (Like.fields p)

get_follows : {n i : ℕ} {c d : Term} (l : Label) → Follows i c d → i < n → Follows n (Term.Get c l) (Term.Get d l)
get_follows l (Follows.stays {k = k} p m) h = Follows.stays {k = suc k} (Like.get p (omega arith)) (omega arith)
get_follows l (Follows.steps {k = k} s p) h = Follows.steps {k = suc k} (Step.get_whole s) (Like.get p (omega arith))

part_follows : {n i : ℕ} {c d : Term} {l : Label} {g : TermRow} → Follows i c (Term.Fields g) → AreValues g → HasField g l d → i < n →
    Follows n (Term.Get c l) d
part_follows (Follows.stays {k = k} p m) vs x h = Follows.stays {k = suc k} (Like.part p vs x (omega arith)) (omega arith)
part_follows (Follows.steps s p) vs x h = absurd (value_step (IsValue.fields vs) s)

pack_follows : {n : ℕ} {c d : Term} (t u : Ty) → Follows n c d → Follows n (Term.Pack t c u) (Term.Pack t d u)
pack_follows t u (Follows.stays p m) = Follows.stays (Like.pack p) m
pack_follows t u (Follows.steps s p) = Follows.steps (Step.pack_body s) (Like.pack p)

unpack_follows : {n k : ℕ} {c d e b : Term} → Follows n c d → Like k e b → Follows n (Term.Unpack c e) (Term.Unpack d b)
unpack_follows (Follows.stays p m) q = Follows.stays (Like.unpack p q) m
unpack_follows (Follows.steps s p) q = Follows.steps (Step.unpack_packed s) (Like.unpack p q)

if_follows : {n j k : ℕ} {c d y z u w : Term} → Follows n c d → Like j y u → Like k z w → Follows n (Term.If c y z) (Term.If d u w)
if_follows (Follows.stays p m) q r = Follows.stays (Like.if_ p q r) m
if_follows (Follows.steps s p) q r = Follows.steps (Step.if_test s) (Like.if_ p q r)

arith_left_follows : {n i j : ℕ} {o : Op} {c d a b : Term} → Follows i c d → Like j a b → i + j ≤ n → Follows n (Term.Arith o c a) (Term.Arith o d b)
arith_left_follows {j = j} (Follows.stays {k = k} p m) q l = Follows.stays {k = k + j} (Like.arith p q (omega arith)) (omega arith)
arith_left_follows {j = j} (Follows.steps {k = k} s p) q l = Follows.steps {k = k + j} (Step.arith_left s) (Like.arith p q (omega arith))

arith_right_follows : {n i j : ℕ} {o : Op} {a b c d : Term} → IsValue b → Like i a b → Follows j c d → i + j ≤ n →
    Follows n (Term.Arith o a c) (Term.Arith o b d)
arith_right_follows {i = i} v p (Follows.stays {k = k} q m) l = Follows.stays {k = i + k} (Like.arith p q (omega arith)) (omega arith)
arith_right_follows {i = i} v p (Follows.steps {k = k} s q) l = Follows.steps {k = i + k} (Step.arith_right v s) (Like.arith p q (omega arith))

inj_follows : {n : ℕ} {c d : Term} (l : Label) (t : Ty) → Follows n c d → Follows n (Term.Inj l c t) (Term.Inj l d t)
inj_follows l t (Follows.stays p m) = Follows.stays (Like.inj p) m
inj_follows l t (Follows.steps s p) = Follows.steps (Step.inj_part s) (Like.inj p)

case_follows : {n k : ℕ} {c d : Term} {f g : TermRow} (t : Ty) → Follows n c d → AreLike k f g → Follows n (Term.Case c t f) (Term.Case d t g)
case_follows t (Follows.stays p m) q = Follows.stays (Like.case p q) m
case_follows t (Follows.steps s p) q = Follows.steps (Step.case_whole s) (Like.case p q)

roll_follows : {n : ℕ} {c d : Term} (t : Ty) → Follows n c d → Follows n (Term.Roll c t) (Term.Roll d t)
roll_follows t (Follows.stays p m) = Follows.stays (Like.roll p) m
roll_follows t (Follows.steps s p) = Follows.steps (Step.roll_part s) (Like.roll p)

unroll_follows : {n : ℕ} {c d : Term} → Follows n c d → Follows n (Term.Unroll c) (Term.Unroll d)
unroll_follows (Follows.stays p m) = Follows.stays (Like.unroll p) m
unroll_follows (Follows.steps s p) = Follows.steps (Step.unroll_whole s) (Like.unroll p)

here_follows : {n i j : ℕ} {l : Label} {c d : Term} {f g : TermRow} → Follows i c d → AreLike j f g → i + j ≤ n →
    RowFollows n (TermRow.More l c f) (TermRow.More l d g)
here_follows {j = j} (Follows.stays {k = k} p m) q l = RowFollows.stays {k = k + j} (AreLike.more p q (omega arith)) (omega arith)
here_follows {j = j} (Follows.steps {k = k} s p) q l = RowFollows.steps {k = k + j} (FieldStep.here s) (AreLike.more p q (omega arith))

there_follows : {n i j : ℕ} {l : Label} {e d : Term} {f g : TermRow} → IsValue d → Like i e d → RowFollows j f g → i + j ≤ n →
    RowFollows n (TermRow.More l e f) (TermRow.More l d g)
there_follows {i = i} v p (RowFollows.stays {k = k} q m) l = RowFollows.stays {k = i + k} (AreLike.more p q (omega arith)) (omega arith)
there_follows {i = i} v p (RowFollows.steps {k = k} s q) l = RowFollows.steps {k = i + k} (FieldStep.there v s) (AreLike.more p q (omega arith))

-- ---- calls and the like of values

lam_follows : {n i j : ℕ} {t : Ty} {e g v d : Term} → Like i (Term.Lam t e) g → IsValue v → Like j v d → Follows n (put_arg v e) (Term.Call g d)
lam_follows (Like.lam p) v q =
    Follows.steps (Step.call_lam (value_like v q)) (sub_like Ty.Var (first_term _ Term.Var) (first_term _ Term.Var) (first_like (λ k. at_any k v q)) p)

fix_follows : {n i j : ℕ} {t u : Ty} {e g v d : Term} → Like i (Term.Fix t u e) g → IsValue v → Like j v d →
    Follows n (put_fix v (Term.Fix t u e) e) (Term.Call g d)
fix_follows (Like.fix p) v q =
    Follows.steps (Step.call_fix (value_like v q))
    (sub_like Ty.Var (first_term _ (first_term _ Term.Var)) (first_term _ (first_term _ Term.Var)) (two_like (λ k. at_any k v q) (λ k. Like.fix p)) p)

ty_lam_follows : {n i : ℕ} {k : Kind} {e g : Term} (t : Ty) → Like i (Term.TyLam k e) g → Follows n (put_ty t e) (Term.Inst g t)
ty_lam_follows t (Like.ty_lam p) = Follows.steps Step.inst_ty_lam (sub_like (single t) Term.Var Term.Var same_terms p)

unpack_pack_follows : {n i j : ℕ} {t u : Ty} {v e g b : Term} → Like i (Term.Pack t v u) g → IsValue v → Like j e b →
    Follows n (put_both t v e) (Term.Unpack g b)
unpack_pack_follows {t = t} (Like.pack p) v q =
    Follows.steps (Step.unpack_pack (value_like v p)) (sub_like (single t) (first_term _ Term.Var) (first_term _ Term.Var) (first_like (λ k. at_any k v p)) q)

true_follows : {n i j : ℕ} {x y u w : Term} → Like i (Term.Bool true) x → Like j y u → Follows n y (Term.If x u w)
true_follows Like.bool q = Follows.steps Step.if_true q

false_follows : {n i j : ℕ} {x y u w : Term} → Like i (Term.Bool false) x → Like j y w → Follows n y (Term.If x u w)
false_follows Like.bool q = Follows.steps Step.if_false q

get_fields_follows : {n i : ℕ} {f : TermRow} {l : Label} {c d : Term} → Like i (Term.Fields f) d → AreValues f → HasField f l c → Follows n c (Term.Get d l)
get_fields_follows (Like.fields p) vs x = let r = field_like p x in Follows.steps (Step.get_fields (values_like vs p) r.at) r.like

-- the branch at the label, with what was injected put in
case_inj_follows : {n i k : ℕ} {l : Label} {v e g : Term} {t u : Ty} {a b : TermRow} → Like i (Term.Inj l v u) g → IsValue v → AreLike k a b →
    HasField a l e → Follows n (put_arg v e) (Term.Case g t b)
case_inj_follows (Like.inj p) v q x =
    let r = field_like q x in
    Follows.steps (Step.case_inj (value_like v p) r.at)
    (sub_like Ty.Var (first_term _ Term.Var) (first_term _ Term.Var) (first_like (λ k. at_any k v p)) r.like)

unroll_roll_follows : {n i : ℕ} {v g : Term} {t : Ty} → Like i (Term.Roll v t) g → IsValue v → Follows n v (Term.Unroll g)
unroll_roll_follows (Like.roll p) v = Follows.steps (Step.unroll_roll (value_like v p)) p

-- the value that was still to be taken out
part_taken : {n i : ℕ} {f g : TermRow} {l : Label} {c d : Term} → Like i (Term.Fields f) (Term.Fields g) → AreValues f → HasField f l c →
    HasField g l d → i < n → Follows n c d
part_taken {c = c} (Like.fields p) vs x y m =
    let r = field_like p x in
    Follows.stays {k = 0} (subst (λ z. Like 0 c z) (field_unique refl r.at y) (at_any 0 (field_value vs x) r.like)) (omega arith)

-- ---- arithmetic

arith_follows : {k i j : ℕ} {o : Op} {m n : ℤ} {x y c : Term} → Like i (Term.Int m) x → Like j (Term.Int n) y → compute o m n ≡ Answer.gives c →
    Follows k c (Term.Arith o x y)
arith_follows {c = c} Like.int Like.int e = Follows.steps (Step.arith e) (itself c).like

-- ---- the call of a flat function

drop_function_follows : {n i j : ℕ} {c a b : Term} → GivesLess i c → Like j a b → i + j < n → Follows n (Term.Call c a) b
drop_function_follows {j = j} r q l = Follows.stays {k = suc (r.weight + j)} (Like.drop r.gives q (omega arith)) (let m = r.less in omega arith)

drop_arg_follows : {n i j : ℕ} {f c b : Term} → GivesBack i f → Follows j c b → i + j < n → Follows n (Term.Call f c) b
drop_arg_follows {i = i} g (Follows.stays {k = k} q m) l = Follows.stays {k = suc (i + k)} (Like.drop g q (omega arith)) (omega arith)
drop_arg_follows {i = i} g (Follows.steps {k = k} s q) l = Follows.steps {k = suc (i + k)} s (Like.drop g q (omega arith))

drop_lam_follows : {n i j : ℕ} {t : Ty} {e v d : Term} → GivesBack i (Term.Lam t e) → IsValue v → Like j v d → IsTyped (Term.Call (Term.Lam t e) v) →
    i + j < n → Follows n (put_arg v e) d
drop_lam_follows (GivesBack.whole p) v q ty l =
    Follows.stays (sub_like Ty.Var (first_term _ Term.Var) (first_term _ Term.Var) (first_like (λ k. at_any k v q)) p) (omega arith)
drop_lam_follows {v = x} {d = d} (GivesBack.parts {k = i} {r = r} {b = b} p) v q ty l =
    let w = rebuilt (arg_typed ty) v q in
    let a : Like i (put_arg x b) (put_arg d (Term.Fields (parts_of (Term.Var zero) r))) = sub_like Ty.Var (first_term x Term.Var)
    (first_term d Term.Var) (first_like (λ k. at_any k v q)) p in
    let e : put_arg d (Term.Fields (parts_of (Term.Var zero) r)) ≡ Term.Fields (parts_of (Term.Fields w.row) r) = ap Term.Fields
    (sub_parts Ty.Var (first_term d Term.Var) (Term.Var zero) r) ∙ ap (λ y. Term.Fields (parts_of y r)) w.is in
    Follows.stays (subst (λ y. Like i (put_arg x b) y) (sym w.is) (like_record w.values w.parts a e)) (omega arith)

no_fix : {i : ℕ} {t u : Ty} {e : Term} → GivesBack i (Term.Fix t u e) → ⊥
no_fix g = elim g [ ]

-- ---- each step

mutual
  -- a step of a term is followed by what it is like
  pub follows : {n : ℕ} {e d c : Term} → Like n e d → IsTyped e → Step e c → Follows n c d
  follows Like.var h s = elim s [ ]
  follows Like.int h s = elim s [ ]
  follows Like.bool h s = elim s [ ]
  follows Like.text h s = elim s [ ]
  follows (Like.lam p) h s = elim s [ ]
  follows (Like.ty_lam p) h s = elim s [ ]
  follows (Like.fix p) h s = elim s [ ]
  follows (Like.call p q l) h (Step.call_function s) = call_function_follows (follows p (call_function_typed h) s) q l
  follows (Like.call p q l) h (Step.call_arg v s) = call_arg_follows (value_like v p) p (follows q (call_arg_typed h) s) l
  follows (Like.call p q l) h (Step.call_lam v) = lam_follows p v q
  follows (Like.call p q l) h (Step.call_fix v) = fix_follows p v q
  follows (Like.drop g q l) h (Step.call_function s) = drop_function_follows (given_step g (call_function_typed h) s) q l
  follows (Like.drop g q l) h (Step.call_arg v s) = drop_arg_follows g (follows q (call_arg_typed h) s) l
  follows (Like.drop g q l) h (Step.call_lam v) = drop_lam_follows g v q h l
  follows (Like.drop g q l) h (Step.call_fix v) = absurd (no_fix g)
  follows (Like.inst {t = t} p) h (Step.inst_function s) = inst_follows t (follows p (inst_typed h) s)
  follows (Like.inst {t = t} p) h Step.inst_ty_lam = ty_lam_follows t p
  follows (Like.fields p) h (Step.fields s) = fields_follow (row_follows p (fields_typed h) s)
  follows (Like.get {l = l} p m) h (Step.get_whole s) = get_follows l (follows p (get_typed h) s) m
  follows (Like.get p m) h (Step.get_fields vs x) = get_fields_follows p vs x
  follows (Like.part p vs x m) h (Step.get_whole s) = part_follows (follows p (get_typed h) s) vs x m
  follows (Like.part p vs x m) h (Step.get_fields us y) = part_taken p us y x m
  follows (Like.pack {t = t} {u = u} p) h (Step.pack_body s) = pack_follows t u (follows p (pack_typed h) s)
  follows (Like.unpack p q) h (Step.unpack_packed s) = unpack_follows (follows p (unpack_typed h) s) q
  follows (Like.unpack p q) h (Step.unpack_pack v) = unpack_pack_follows p v q
  follows (Like.if_ p q r) h (Step.if_test s) = if_follows (follows p (if_typed h) s) q r
  follows (Like.if_ p q r) h Step.if_true = true_follows p q
  follows (Like.if_ p q r) h Step.if_false = false_follows p r
  follows (Like.arith p q l) h (Step.arith_left s) = arith_left_follows (follows p (arith_left_typed h) s) q l
  follows (Like.arith p q l) h (Step.arith_right v s) = arith_right_follows (value_like v p) p (follows q (arith_right_typed h) s) l
  follows (Like.arith p q l) h (Step.arith e) = arith_follows p q e
  follows (Like.inj {l = l} {t = t} p) h (Step.inj_part s) = inj_follows l t (follows p (inj_typed h) s)
  follows (Like.case {t = t} p q) h (Step.case_whole s) = case_follows t (follows p (case_typed h) s) q
  follows (Like.case p q) h (Step.case_inj v x) = case_inj_follows p v q x
  follows (Like.roll {t = t} p) h (Step.roll_part s) = roll_follows t (follows p (roll_typed h) s)
  follows (Like.unroll p) h (Step.unroll_whole s) = unroll_follows (follows p (unroll_typed h) s)
  follows (Like.unroll p) h (Step.unroll_roll v) = unroll_roll_follows p v

  pub row_follows : {n : ℕ} {f g h : TermRow} → AreLike n f g → AreTyped f → FieldStep f h → RowFollows n h g
  row_follows AreLike.end t s = elim s [ ]
  row_follows (AreLike.more p q l) t (FieldStep.here s) = here_follows (follows p (here_typed t) s) q l
  row_follows (AreLike.more p q l) t (FieldStep.there v s) = there_follows (value_like v p) p (row_follows q (there_typed t) s) l
