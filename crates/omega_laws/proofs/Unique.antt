-- Inversion: each typing is one by the form's own rule, and a conversion. Types are unique up to conversion.
-- Main results: invert, unique.
use Rattle.std.proofs.Common.{◌≡◌, ℕ, refl, sym, subst, List, ◌∷◌, ℤ, Bool as Truth}
use Rattle.omega_kinds.specs.Kind.{Kind}
use Rattle.omega_kinds.specs.declared.label.Label.{Label}
use Rattle.omega_types.specs.Ty.{Ty, Row}
use Rattle.omega_types.specs.Kinding.{HasKind}
use Rattle.omega_types.specs.Kinding.HasKind.{k_int, k_bool, k_text, k_arrow}
use Rattle.omega_types.specs.Conversion.{Conv, Convs}
use Rattle.omega_types.specs.Conversion.Conv.{c_refl, c_sym, c_trans, c_arrow, c_fields, c_all}
use Rattle.omega_types.specs.Conversion.Convs.{c_end, c_more}
use Rattle.omega_types.proofs.Preservation.{conv-kinds}
use Rattle.omega_types.proofs.Inverse.{arrow_parts, all_parts, ex_parts, fields_parts, mu_parts, ex-kinds}
use Rattle.omega_terms.proofs.TypingLaws.{good-more, good-shift, type-kind, result-kind, revars, conv-more, conv-same}
use Rattle.omega_laws.proofs.Common.{shift, put, put_conv, unrolled, unrolled_conv, unshift_conv}
use Rattle.omega_terms.specs.declared.op.Op.{Op}
use Rattle.omega_terms.specs.Term.{Term, TermRow}
use Rattle.omega_terms.specs.Typing.{At, HasType, FieldsHave, BranchesHave, HasPart, shift_all, result_type, GoodVars}

-- typed by the form's own rule
pub data Own : List Kind → List Ty → Term → Ty → Type 0 where
  var : {ctx : List Kind} {vars : List Ty} {n : ℕ} {t : Ty} → At vars n t → Own ctx vars (Term.Var n) t
  int : {ctx : List Kind} {vars : List Ty} {z : ℤ} → Own ctx vars (Term.Int z) Ty.Int
  bool : {ctx : List Kind} {vars : List Ty} {b : Truth} → Own ctx vars (Term.Bool b) Ty.Bool
  text : {ctx : List Kind} {vars : List Ty} {s : List ℕ} → Own ctx vars (Term.Text s) Ty.Text
  lam : {ctx : List Kind} {vars : List Ty} {t u : Ty} {e : Term} → HasKind ctx t Kind.Star → HasType ctx (t ∷ vars) e u → Own ctx vars (Term.Lam t e) (Ty.Arrow t u)
  call : {ctx : List Kind} {vars : List Ty} {t u : Ty} {f a : Term} → HasType ctx vars f (Ty.Arrow t u) → HasType ctx vars a t → Own ctx vars (Term.Call f a) u
  ty_lam : {ctx : List Kind} {vars : List Ty} {k : Kind} {e : Term} {t : Ty} → HasType (k ∷ ctx) (shift_all vars) e t → Own ctx vars (Term.TyLam k e) (Ty.All k t)
  inst : {ctx : List Kind} {vars : List Ty} {k : Kind} {e : Term} {t body : Ty} → HasType ctx vars e (Ty.All k body) → HasKind ctx t k → Own ctx vars (Term.Inst e t) (put t body)
  fields : {ctx : List Kind} {vars : List Ty} {f : TermRow} {r : Row} → FieldsHave ctx vars f r → Own ctx vars (Term.Fields f) (Ty.Fields r)
  get : {ctx : List Kind} {vars : List Ty} {e : Term} {r : Row} {l : Label} {t : Ty} → HasType ctx vars e (Ty.Fields r) → HasPart r l t → Own ctx vars (Term.Get e l) t
  pack : {ctx : List Kind} {vars : List Ty} {k : Kind} {e : Term} {t u body : Ty} → Conv ctx u (Ty.Ex k body) Kind.Star → HasKind ctx t k → HasType ctx vars e (put t body) → Own ctx vars (Term.Pack t e u) u
  unpack : {ctx : List Kind} {vars : List Ty} {k : Kind} {p e : Term} {t body : Ty} → HasType ctx vars p (Ty.Ex k body) → HasType (k ∷ ctx) (body ∷ shift_all vars) e (shift t) → Own ctx vars (Term.Unpack p e) t
  if_ : {ctx : List Kind} {vars : List Ty} {a b c : Term} {t : Ty} → HasType ctx vars a Ty.Bool → HasType ctx vars b t → HasType ctx vars c t → Own ctx vars (Term.If a b c) t
  arith : {ctx : List Kind} {vars : List Ty} {o : Op} {a b : Term} → HasType ctx vars a Ty.Int → HasType ctx vars b Ty.Int → Own ctx vars (Term.Arith o a b) (result_type o)
  fix : {ctx : List Kind} {vars : List Ty} {t u : Ty} {e : Term} → HasKind ctx t Kind.Star → HasKind ctx u Kind.Star → HasType ctx (t ∷ (Ty.Arrow t u ∷ vars)) e u → Own ctx vars (Term.Fix t u e) (Ty.Arrow t u)
  inj : {ctx : List Kind} {vars : List Ty} {l : Label} {e : Term} {t u : Ty} {r : Row} → Conv ctx t (Ty.Sum r) Kind.Star → HasPart r l u → HasType ctx vars e u → Own ctx vars (Term.Inj l e t) t
  case : {ctx : List Kind} {vars : List Ty} {e : Term} {t : Ty} {r : Row} {f : TermRow} → HasType ctx vars e (Ty.Sum r) → HasKind ctx t Kind.Star → BranchesHave ctx vars f r t → Own ctx vars (Term.Case e t f) t
  roll : {ctx : List Kind} {vars : List Ty} {e : Term} {t body : Ty} → Conv ctx t (Ty.Mu body) Kind.Star → HasType ctx vars e (unrolled body) → Own ctx vars (Term.Roll e t) t
  unroll : {ctx : List Kind} {vars : List Ty} {e : Term} {body : Ty} → HasType ctx vars e (Ty.Mu body) → Own ctx vars (Term.Unroll e) (unrolled body)

pub own_type : {ctx : List Kind} {vars : List Ty} {e : Term} {t : Ty} → Own ctx vars e t → HasType ctx vars e t
own_type (Own.var h) = HasType.var h
own_type Own.int = HasType.int
own_type Own.bool = HasType.bool
own_type Own.text = HasType.text
own_type (Own.lam k h) = HasType.lam k h
own_type (Own.call h i) = HasType.call h i
own_type (Own.ty_lam h) = HasType.ty_lam h
own_type (Own.inst h k) = HasType.inst h k
own_type (Own.fields h) = HasType.fields h
own_type (Own.get h p) = HasType.get h p
own_type (Own.pack c k h) = HasType.pack c k h
own_type (Own.unpack h i) = HasType.unpack h i
own_type (Own.if_ h i j) = HasType.if_ h i j
own_type (Own.arith h i) = HasType.arith h i
own_type (Own.fix k j h) = HasType.fix k j h
own_type (Own.inj c p h) = HasType.inj c p h
own_type (Own.case h k b) = HasType.case h k b
own_type (Own.roll c h) = HasType.roll c h
own_type (Own.unroll h) = HasType.unroll h

-- the type by the form's own rule, and the conversion
pub record Inverted (ctx : List Kind) (vars : List Ty) (e : Term) (t : Ty) : Type 0 where
  pub ty : Ty
  pub own : Own ctx vars e ty
  pub to : Conv ctx ty t Kind.Star

pub at_unique : {A : Type 0} {xs : List A} {n : ℕ} {x y : A} → At xs n x → At xs n y → x ≡ y
at_unique At.here At.here = refl
at_unique (At.there h) (At.there i) = at_unique h i

-- at one label, given as two, since the match at one would need axiom K
pub part_conv : {ctx : List Kind} {r q : Row} {l m : Label} {t u : Ty} → Convs ctx r q → l ≡ m → HasPart r l t → HasPart q m u → Conv ctx t u Kind.Star
part_conv c_end p x y = elim x [ ]
part_conv (c_more f g c h) p HasPart.here HasPart.here = c
part_conv (c_more f g c h) p HasPart.here (HasPart.there d y) = absurd (d (sym p))
part_conv (c_more f g c h) p (HasPart.there d x) HasPart.here = absurd (d p)
part_conv (c_more f g c h) p (HasPart.there d x) (HasPart.there e y) = part_conv h p x y

by_own : {ctx : List Kind} {vars : List Ty} {e : Term} {t : Ty} → GoodVars ctx vars → Own ctx vars e t → Inverted ctx vars e t
by_own {t = t} g o = record { ty = t; own = o; to = c_refl (type-kind g (own_type o)) }

-- a typed term has a type by its form's own rule, convertible to the type
pub invert : {ctx : List Kind} {vars : List Ty} {e : Term} {t : Ty} → GoodVars ctx vars → HasType ctx vars e t → Inverted ctx vars e t
invert g (HasType.var h) = by_own g (Own.var h)
invert g HasType.int = by_own g Own.int
invert g HasType.bool = by_own g Own.bool
invert g HasType.text = by_own g Own.text
invert g (HasType.lam k h) = by_own g (Own.lam k h)
invert g (HasType.call h i) = by_own g (Own.call h i)
invert g (HasType.ty_lam h) = by_own g (Own.ty_lam h)
invert g (HasType.inst h k) = by_own g (Own.inst h k)
invert g (HasType.fields h) = by_own g (Own.fields h)
invert g (HasType.get h p) = by_own g (Own.get h p)
invert g (HasType.pack c k h) = by_own g (Own.pack c k h)
invert g (HasType.unpack h i) = by_own g (Own.unpack h i)
invert g (HasType.if_ h i j) = by_own g (Own.if_ h i j)
invert g (HasType.arith h i) = by_own g (Own.arith h i)
invert g (HasType.fix k j h) = by_own g (Own.fix k j h)
invert g (HasType.inj c p h) = by_own g (Own.inj c p h)
invert g (HasType.case h k b) = by_own g (Own.case h k b)
invert g (HasType.roll c h) = by_own g (Own.roll c h)
invert g (HasType.unroll h) = by_own g (Own.unroll h)
invert g (HasType.conv h c) = let r = invert g h in record { ty = r.ty; own = r.own; to = c_trans r.to c }

-- the term's types are convertible, and so are those that it has by its own rule
abbrev pub Unique : Term → Type 0
Unique e = (ctx : List Kind) (vars : List Ty) (t u : Ty) → GoodVars ctx vars → HasType ctx vars e t → HasType ctx vars e u → Conv ctx t u Kind.Star

abbrev OwnUnique : Term → Type 0
OwnUnique e = (ctx : List Kind) (vars : List Ty) (t u : Ty) → GoodVars ctx vars → Own ctx vars e t → Own ctx vars e u → Conv ctx t u Kind.Star

by_rule : (e : Term) → OwnUnique e → Unique e
by_rule e f ctx vars t u g h i =
    let a = invert g h in
    let b = invert g i in
    c_trans (c_sym a.to) (c_trans (f ctx vars a.ty b.ty g a.own b.own) b.to)

var_unique : (n : ℕ) → OwnUnique (Term.Var n)
var_unique n ctx vars t u g (Own.var h) (Own.var i) = subst (λ x. Conv ctx t x Kind.Star) (at_unique h i) (c_refl (g n t h))

int_unique : (z : ℤ) → OwnUnique (Term.Int z)
int_unique z ctx vars t u g Own.int Own.int = c_refl k_int

bool_unique : (b : Truth) → OwnUnique (Term.Bool b)
bool_unique b ctx vars t u g Own.bool Own.bool = c_refl k_bool

text_unique : (s : List ℕ) → OwnUnique (Term.Text s)
text_unique s ctx vars t u g Own.text Own.text = c_refl k_text

lam_unique : (t : Ty) (e : Term) → Unique e → OwnUnique (Term.Lam t e)
lam_unique a e f ctx vars t u g (Own.lam {u = x} k h) (Own.lam {u = y} j i) = c_arrow (c_refl k) (f ctx (a ∷ vars) x y (good-more k g) h i)

call_unique : (e a : Term) → Unique e → OwnUnique (Term.Call e a)
call_unique e a f ctx vars t u g (Own.call {t = x} h m) (Own.call {t = y} i n) = (arrow_parts _ _ _ _ _ (f ctx vars (Ty.Arrow x t) (Ty.Arrow y u) g h i)).1

ty_lam_unique : (k : Kind) (e : Term) → Unique e → OwnUnique (Term.TyLam k e)
ty_lam_unique k e f ctx vars t u g (Own.ty_lam {t = x} h) (Own.ty_lam {t = y} i) = c_all (f (k ∷ ctx) (shift_all vars) x y (good-shift vars k g) h i)

inst_unique : (e : Term) (a : Ty) → Unique e → OwnUnique (Term.Inst e a)
inst_unique e a f ctx vars t u g (Own.inst {k = k} {body = b} h m) (Own.inst {k = j} {body = c} i n) = put_conv m (all_parts _ _ _ _ _ (f ctx vars (Ty.All k b) (Ty.All j c) g h i)).1

get_unique : (e : Term) (l : Label) → Unique e → OwnUnique (Term.Get e l)
get_unique e l f ctx vars t u g (Own.get {r = r} h p) (Own.get {r = q} i o) = part_conv (fields_parts _ _ _ (f ctx vars (Ty.Fields r) (Ty.Fields q) g h i)) refl p o

pack_unique : (a : Ty) (e : Term) (b : Ty) → OwnUnique (Term.Pack a e b)
pack_unique a e b ctx vars t u g (Own.pack c k h) (Own.pack d j i) = c_refl (conv-kinds c).0

unpack_same : (e : Term) {ctx : List Kind} {vars : List Ty} {t u b c : Ty} {j k : Kind} → Unique e → GoodVars ctx vars → HasKind (k ∷ ctx) b Kind.Star → HasType (k ∷ ctx) (b ∷ shift_all vars) e (shift t) → HasType (j ∷ ctx) (c ∷ shift_all vars) e (shift u) → k ≡ j → Conv (k ∷ ctx) b c Kind.Star → Conv ctx t u Kind.Star
unpack_same e {ctx} {vars} {t} {u} {b} {c} {j} {k} f g m h i p v =
    let i' : HasType (k ∷ ctx) (c ∷ shift_all vars) e (shift u) = subst (λ x. HasType (x ∷ ctx) (c ∷ shift_all vars) e (shift u)) (sym p) i in
    unshift_conv t u (f (k ∷ ctx) (b ∷ shift_all vars) (shift t) (shift u) (good-more m (good-shift vars k g)) h (revars (good-more (conv-kinds v).1 (good-shift vars k g)) (conv-more v (conv-same (k ∷ ctx) (shift_all vars))) i'))

unpack_unique : (q e : Term) → Unique q → Unique e → OwnUnique (Term.Unpack q e)
unpack_unique q e f f' ctx vars t u g (Own.unpack {k = k} {body = b} h m) (Own.unpack {k = j} {body = c} i n) =
    let r : (k ≡ j) × Conv (k ∷ ctx) b c Kind.Star = ex_parts _ _ _ _ _ (f ctx vars (Ty.Ex k b) (Ty.Ex j c) g h i) in
    unpack_same e f' g (ex-kinds (type-kind g h)) m n r.0 r.1

if_unique : (a b c : Term) → Unique b → OwnUnique (Term.If a b c)
if_unique a b c f ctx vars t u g (Own.if_ h i j) (Own.if_ k l m) = f ctx vars t u g i l

arith_unique : (o : Op) (a b : Term) → OwnUnique (Term.Arith o a b)
arith_unique o a b ctx vars t u g (Own.arith h i) (Own.arith j k) = c_refl (result-kind o)

fix_unique : (a b : Ty) (e : Term) → OwnUnique (Term.Fix a b e)
fix_unique a b e ctx vars t u g (Own.fix k j h) (Own.fix l m i) = c_refl (k_arrow k j)

inj_unique : (l : Label) (e : Term) (a : Ty) → OwnUnique (Term.Inj l e a)
inj_unique l e a ctx vars t u g (Own.inj c p h) (Own.inj d q i) = c_refl (conv-kinds c).0

case_unique : (e : Term) (a : Ty) (f : TermRow) → OwnUnique (Term.Case e a f)
case_unique e a f ctx vars t u g (Own.case h k b) (Own.case i j d) = c_refl k

roll_unique : (e : Term) (a : Ty) → OwnUnique (Term.Roll e a)
roll_unique e a ctx vars t u g (Own.roll c h) (Own.roll d i) = c_refl (conv-kinds c).0

unroll_unique : (e : Term) → Unique e → OwnUnique (Term.Unroll e)
unroll_unique e f ctx vars t u g (Own.unroll {body = b} h) (Own.unroll {body = c} i) = unrolled_conv (mu_parts _ _ _ (f ctx vars (Ty.Mu b) (Ty.Mu c) g h i))

abbrev UniqueFields : TermRow → Type 0
UniqueFields f = (ctx : List Kind) (vars : List Ty) (r q : Row) → GoodVars ctx vars → FieldsHave ctx vars f r → FieldsHave ctx vars f q → Convs ctx r q

fields_unique : (f : TermRow) → UniqueFields f → OwnUnique (Term.Fields f)
fields_unique f x ctx vars t u g (Own.fields {r = r} h) (Own.fields {r = q} i) = c_fields (x ctx vars r q g h i)

end_unique : UniqueFields TermRow.End
end_unique ctx vars r q g FieldsHave.end FieldsHave.end = c_end

more_unique : (l : Label) (e : Term) (f : TermRow) → Unique e → UniqueFields f → UniqueFields (TermRow.More l e f)
more_unique l e f x y ctx vars r q g (FieldsHave.more {t = t} {r = r'} h d i) (FieldsHave.more {t = u} {r = q'} j c k) =
    c_more d c (x ctx vars t u g h j) (y ctx vars r' q' g i k)

mutual
  -- uniqueness of types up to conversion
  pub unique : (e : Term) → Unique e
  unique (Term.Var n) = by_rule (Term.Var n) (var_unique n)
  unique (Term.Int z) = by_rule (Term.Int z) (int_unique z)
  unique (Term.Bool b) = by_rule (Term.Bool b) (bool_unique b)
  unique (Term.Text s) = by_rule (Term.Text s) (text_unique s)
  unique (Term.Lam t e) = by_rule (Term.Lam t e) (lam_unique t e (unique e))
  unique (Term.Call e a) = by_rule (Term.Call e a) (call_unique e a (unique e))
  unique (Term.TyLam k e) = by_rule (Term.TyLam k e) (ty_lam_unique k e (unique e))
  unique (Term.Inst e t) = by_rule (Term.Inst e t) (inst_unique e t (unique e))
  unique (Term.Fields f) = by_rule (Term.Fields f) (fields_unique f (uniques f))
  unique (Term.Get e l) = by_rule (Term.Get e l) (get_unique e l (unique e))
  unique (Term.Pack t e u) = by_rule (Term.Pack t e u) (pack_unique t e u)
  unique (Term.Unpack p e) = by_rule (Term.Unpack p e) (unpack_unique p e (unique p) (unique e))
  unique (Term.If a b c) = by_rule (Term.If a b c) (if_unique a b c (unique b))
  unique (Term.Arith o a b) = by_rule (Term.Arith o a b) (arith_unique o a b)
  unique (Term.Fix t u e) = by_rule (Term.Fix t u e) (fix_unique t u e)
  unique (Term.Inj l e t) = by_rule (Term.Inj l e t) (inj_unique l e t)
  unique (Term.Case e t f) = by_rule (Term.Case e t f) (case_unique e t f)
  unique (Term.Roll e t) = by_rule (Term.Roll e t) (roll_unique e t)
  unique (Term.Unroll e) = by_rule (Term.Unroll e) (unroll_unique e (unique e))

  uniques : (f : TermRow) → UniqueFields f
  uniques TermRow.End = end_unique
  uniques (TermRow.More l e f) = more_unique l e f (unique e) (uniques f)
