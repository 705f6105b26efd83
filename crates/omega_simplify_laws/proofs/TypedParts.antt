-- What typing says of the terms that steps look at.
-- Main results: rebuilt, arg_typed.
use Rattle.std.proofs.Common.{◌≡◌, ◌≢◌, ℕ, refl, sym, []}
use Rattle.omega_kinds.specs.Kind.{Kind}
use Rattle.omega_kinds.specs.declared.label.Label.{Label}
use Rattle.omega_types.specs.Ty.{Ty, Row}
use Rattle.omega_types.specs.Kinding.{Fresh}
use Rattle.omega_types.specs.Conversion.{Conv, Convs}
use Rattle.omega_types.specs.Conversion.Conv.{c_sym}
use Rattle.omega_types.specs.Conversion.Convs.{c_end, c_more}
use Rattle.omega_types.proofs.Inverse.{arrow_parts, fields_parts}
use Rattle.omega_terms.specs.declared.op.Op.{Op}
use Rattle.omega_terms.specs.Term.{Term, TermRow}
use Rattle.omega_terms.specs.Typing.{HasType, FieldsHave}
use Rattle.omega_terms.specs.Steps.{IsValue, AreValues, HasField}
use Rattle.omega_terms.proofs.TypingLaws.{good-none}
use Rattle.omega_laws.proofs.Common.{Form, Canon}
use Rattle.omega_laws.proofs.Unique.{Own, invert}
use Rattle.omega_laws.proofs.Progress.{canon}
use Rattle.omega_simplify_laws.proofs.Likeness.{Like, AreLike}
use Rattle.omega_simplify_laws.proofs.Values.{values_like}
use Rattle.omega_simplify_laws.proofs.Parts.{Parts}

-- a closed term has a type
abbrev pub IsTyped : Term → Type 0
IsTyped e = (t : Ty) × HasType [] [] e t

-- the fields of a closed record have types
abbrev pub AreTyped : TermRow → Type 0
AreTyped f = (r : Row) × FieldsHave [] [] f r

abbrev IsOwn : Term → Type 0
IsOwn e = (t : Ty) × Own [] [] e t

own_of : {e : Term} → IsTyped e → IsOwn e
own_of h = let r = invert (good-none []) h.1 in (r.ty, r.own)

-- ---- the terms in which steps are looked for

call_function_own : {f a : Term} {t : Ty} → Own [] [] (Term.Call f a) t → IsTyped f
call_function_own (Own.call h i) = (_, h)

call_arg_own : {f a : Term} {t : Ty} → Own [] [] (Term.Call f a) t → IsTyped a
call_arg_own (Own.call h i) = (_, i)

inst_own : {e : Term} {a t : Ty} → Own [] [] (Term.Inst e a) t → IsTyped e
inst_own (Own.inst h k) = (_, h)

fields_own : {f : TermRow} {t : Ty} → Own [] [] (Term.Fields f) t → AreTyped f
fields_own (Own.fields h) = (_, h)

get_own : {e : Term} {l : Label} {t : Ty} → Own [] [] (Term.Get e l) t → IsTyped e
get_own (Own.get h p) = (_, h)

pack_own : {e : Term} {a u t : Ty} → Own [] [] (Term.Pack a e u) t → IsTyped e
pack_own (Own.pack c k h) = (_, h)

unpack_own : {p e : Term} {t : Ty} → Own [] [] (Term.Unpack p e) t → IsTyped p
unpack_own (Own.unpack h i) = (_, h)

if_own : {a b c : Term} {t : Ty} → Own [] [] (Term.If a b c) t → IsTyped a
if_own (Own.if_ h i j) = (_, h)

arith_left_own : {o : Op} {a b : Term} {t : Ty} → Own [] [] (Term.Arith o a b) t → IsTyped a
arith_left_own (Own.arith h i) = (_, h)

arith_right_own : {o : Op} {a b : Term} {t : Ty} → Own [] [] (Term.Arith o a b) t → IsTyped b
arith_right_own (Own.arith h i) = (_, i)

inj_own : {l : Label} {e : Term} {u t : Ty} → Own [] [] (Term.Inj l e u) t → IsTyped e
inj_own (Own.inj c p h) = (_, h)

case_own : {e : Term} {u t : Ty} {f : TermRow} → Own [] [] (Term.Case e u f) t → IsTyped e
case_own (Own.case h k b) = (_, h)

roll_own : {e : Term} {u t : Ty} → Own [] [] (Term.Roll e u) t → IsTyped e
roll_own (Own.roll c h) = (_, h)

unroll_own : {e : Term} {t : Ty} → Own [] [] (Term.Unroll e) t → IsTyped e
unroll_own (Own.unroll h) = (_, h)

-- the function of a typed call is typed
pub call_function_typed : {f a : Term} → IsTyped (Term.Call f a) → IsTyped f
call_function_typed h = call_function_own (own_of h).1

-- the argument of a typed call is typed
pub call_arg_typed : {f a : Term} → IsTyped (Term.Call f a) → IsTyped a
call_arg_typed h = call_arg_own (own_of h).1

-- what is instantiated in a typed instance is typed
pub inst_typed : {e : Term} {a : Ty} → IsTyped (Term.Inst e a) → IsTyped e
inst_typed h = inst_own (own_of h).1

-- the fields of a typed record are typed
pub fields_typed : {f : TermRow} → IsTyped (Term.Fields f) → AreTyped f
fields_typed h = fields_own (own_of h).1

-- the record of a typed selection is typed
pub get_typed : {e : Term} {l : Label} → IsTyped (Term.Get e l) → IsTyped e
get_typed h = get_own (own_of h).1

-- what is inside a typed package is typed
pub pack_typed : {e : Term} {a u : Ty} → IsTyped (Term.Pack a e u) → IsTyped e
pack_typed h = pack_own (own_of h).1

-- the package that a typed term opens is typed
pub unpack_typed : {p e : Term} → IsTyped (Term.Unpack p e) → IsTyped p
unpack_typed h = unpack_own (own_of h).1

-- the test of a typed conditional is typed
pub if_typed : {a b c : Term} → IsTyped (Term.If a b c) → IsTyped a
if_typed h = if_own (own_of h).1

-- the left operand of a typed operation is typed
pub arith_left_typed : {o : Op} {a b : Term} → IsTyped (Term.Arith o a b) → IsTyped a
arith_left_typed h = arith_left_own (own_of h).1

-- the right operand of a typed operation is typed
pub arith_right_typed : {o : Op} {a b : Term} → IsTyped (Term.Arith o a b) → IsTyped b
arith_right_typed h = arith_right_own (own_of h).1

-- the value of a typed injection is typed
pub inj_typed : {l : Label} {e : Term} {u : Ty} → IsTyped (Term.Inj l e u) → IsTyped e
inj_typed h = inj_own (own_of h).1

-- what a typed case takes apart is typed
pub case_typed : {e : Term} {u : Ty} {f : TermRow} → IsTyped (Term.Case e u f) → IsTyped e
case_typed h = case_own (own_of h).1

-- the value of a typed rolled term is typed
pub roll_typed : {e : Term} {u : Ty} → IsTyped (Term.Roll e u) → IsTyped e
roll_typed h = roll_own (own_of h).1

-- what a typed term unrolls is typed
pub unroll_typed : {e : Term} → IsTyped (Term.Unroll e) → IsTyped e
unroll_typed h = unroll_own (own_of h).1

-- the first of typed fields is typed
pub here_typed : {l : Label} {e : Term} {f : TermRow} → AreTyped (TermRow.More l e f) → IsTyped e
here_typed (r, FieldsHave.more h d i) = (_, h)

-- the fields after the first of typed ones are typed
pub there_typed : {l : Label} {e : Term} {f : TermRow} → AreTyped (TermRow.More l e f) → AreTyped f
there_typed (r, FieldsHave.more h d i) = (_, i)

-- ---- the argument of a function that is written out

lam_arg : {s t u w : Ty} {b v : Term} → Own [] [] (Term.Lam s b) t → Conv [] t (Ty.Arrow u w) Kind.Star → HasType [] [] v u → HasType [] [] v s
lam_arg (Own.lam k h) c i = HasType.conv i (c_sym (arrow_parts _ _ _ _ _ c).0)

call_arg : {s t : Ty} {b v : Term} → Own [] [] (Term.Call (Term.Lam s b) v) t → HasType [] [] v s
call_arg (Own.call h i) = let r = invert (good-none []) h in lam_arg r.own r.to i

-- the argument of a typed call of a function has the type that the function writes
pub arg_typed : {s : Ty} {b v : Term} → IsTyped (Term.Call (Term.Lam s b) v) → HasType [] [] v s
arg_typed h = call_arg (own_of h).1

-- ---- records

record_some : Form.a_record ≢ Form.no_form
record_some p = cc

-- a value of a record type is a record of values
pub record_canon : {r : Row} {v : Term} → HasType [] [] v (Ty.Fields r) → IsValue v → Canon Form.a_record v
record_canon {r} {v} h i = canon v (Ty.Fields r) h record_some i

-- a label that is fresh for a row is none of the fields that are like those of the row
not_first : {l m : Label} {n : ℕ} {q : Row} {f g : TermRow} {v : Term} → Fresh l q → FieldsHave [] [] f q → AreLike n f g → HasField g m v → m ≢ l
not_first d FieldsHave.end AreLike.end x = elim x [ ]
not_first d (FieldsHave.more h c i) (AreLike.more p ps k) HasField.here = λ e. d.0 (sym e)
not_first d (FieldsHave.more h c i) (AreLike.more p ps k) (HasField.there b x) = not_first d.1 i ps x

parts_by : {w : TermRow} {n : ℕ} {q r : Row} {f g : TermRow} → ((l : Label) (v : Term) → HasField g l v → HasField w l v) → FieldsHave [] [] f q →
    Convs [] q r → AreLike n f g → Parts w r g
parts_by i FieldsHave.end c_end AreLike.end = Parts.end
parts_by i (FieldsHave.more {l = l} h d hs) (c_more a b c cs) (AreLike.more {d = v} p ps k) =
    Parts.more (i l v HasField.here) (parts_by (λ m u x. i m u (HasField.there (not_first d hs ps x) x)) hs cs ps)

-- the record that a value of a record type is like has exactly the labels of the row, in its order
pub record Rebuilt (r : Row) (d : Term) : Type 0 where
  pub row : TermRow
  pub is : d ≡ Term.Fields row
  pub values : AreValues row
  pub parts : Parts row r row

own_record : {r : Row} {t : Ty} {n : ℕ} {f : TermRow} {d : Term} → Own [] [] (Term.Fields f) t → Conv [] t (Ty.Fields r) Kind.Star → AreValues f →
    Like n (Term.Fields f) d → Rebuilt r d
own_record (Own.fields h) c v (Like.fields {g = g} p) =
    record { row = g; is = refl; values = values_like v p; parts = parts_by (λ l u x. x) h (fields_parts _ _ _ c) p }

canon_record : {r : Row} {n : ℕ} {v d : Term} → Canon Form.a_record v → HasType [] [] v (Ty.Fields r) → Like n v d → Rebuilt r d
canon_record (Canon.fields vs) h p = let i = invert (good-none []) h in own_record i.own i.to vs p

-- what a value of a record type is like is a record of exactly the labels of the type, in their order
pub rebuilt : {r : Row} {n : ℕ} {v d : Term} → HasType [] [] v (Ty.Fields r) → IsValue v → Like n v d → Rebuilt r d
rebuilt h i p = canon_record (record_canon h i) h p
