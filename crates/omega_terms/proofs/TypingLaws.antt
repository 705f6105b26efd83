-- Laws of typing itself, with its rule of conversion: renaming and substitution of both kinds of variables, the kind of
-- a type, term variables retyped at convertible types, and annotations replaced by convertible ones.
-- Main results: type-kind, revars, replaced-typed.
use Rattle.std.specs.Prelude.{ℕ, zero, suc, List, [], ◌∷◌, Bool, ℤ, ◌≡◌}
use Rattle.std.proofs.Math.Path.{refl, sym, ◌∙◌, ap, subst}
use Rattle.omega_kinds.specs.Kind.{Kind}
use Rattle.omega_kinds.specs.declared.label.Label.{Label}
use Rattle.omega_types.specs.Ty.{Ty, Row, lift}
use Rattle.omega_types.specs.Substitution.{rename, rename_row, substitute, substitute_row, under, single, instantiate}
use Rattle.omega_types.specs.Kinding.{HasKind, HasKinds, Fresh}
use Rattle.omega_types.specs.Kinding.HasKind.{k_int, k_bool, k_text, k_arrow, k_fields, k_all, k_lam}
use Rattle.omega_types.specs.Kinding.HasKinds.{k_end, k_more}
use Rattle.omega_types.specs.Conversion.{Conv}
use Rattle.omega_types.specs.Conversion.Conv.{c_refl, c_sym, c_trans, c_arrow}
use Rattle.omega_types.specs.Normalises.{Maps}
use Rattle.omega_types.proofs.Algebra.{rename-instantiate, substitute-instantiate, rename-weaken, substitute-weaken, rename-id, single-rename}
use Rattle.omega_types.proofs.Preservation.{Substitutes, maps-suc, lift-maps, kind-rename, fresh-rename, conv-rename, under-substitutes, single-substitutes, kind-substitute, fresh-substitute, conv-substitute, conv-kinds}
use Rattle.omega_types.proofs.Inverse.{arrow-kinds, all-kinds, ex-kinds, fields-kinds, sum-kinds, mu-kinds}
use Rattle.omega_terms.specs.declared.op.Op.{Op}
use Rattle.omega_terms.specs.Term.{Term, TermRow}
use Rattle.omega_terms.specs.TermSubst.{ren_term, ren_fields, sub_term, sub_fields, up_term, under_type, same_index}
use Rattle.omega_terms.specs.Typing.{At, HasPart, HasType, FieldsHave, BranchesHave, shift_all, result_type, GoodVars, RenVars, SubVars}
use Rattle.omega_terms.proofs.NormalTyping.{at-shift, shift-at, lift-vars, under-vars, rename-part, rename-result}
use Rattle.omega_terms.proofs.NormalInstance.{conv-instantiate}

-- a term has also a type that is equal to its type
pub cast-type : {ctx : List Kind} {vars : List Ty} {e : Term} {t u : Ty} → t ≡ u → HasType ctx vars e t → HasType ctx vars e u
cast-type {ctx} {vars} {e} p h = subst (λ x. HasType ctx vars e x) p h

-- renaming

mutual
  -- renaming of both kinds of variables keeps typing
  pub rename-type : {ctx other : List Kind} {vars others : List Ty} {e : Term} {t : Ty} (q r : ℕ → ℕ) → Maps ctx other q → RenVars vars others q r → HasType ctx vars e t → HasType other others (ren_term q r e) (rename q t)
  rename-type q r f g (HasType.var {n = n} {t = t} h) = HasType.var (g n t h)
  rename-type q r f g HasType.int = HasType.int
  rename-type q r f g HasType.bool = HasType.bool
  rename-type q r f g HasType.text = HasType.text
  rename-type q r f g (HasType.lam k h) = HasType.lam (kind-rename q f k) (rename-type q (lift r) f (lift-vars g) h)
  rename-type q r f g (HasType.call h i) = HasType.call (rename-type q r f g h) (rename-type q r f g i)
  rename-type {vars = vars} {others = others} q r f g (HasType.ty_lam {k = k} h) = HasType.ty_lam (rename-type (lift q) r (lift-maps k f) (under-vars vars others g) h)
  rename-type q r f g (HasType.inst {t = t} {body = body} h k) = cast-type (sym (rename-instantiate q body t)) (HasType.inst (rename-type q r f g h) (kind-rename q f k))
  rename-type q r f g (HasType.fields h) = HasType.fields (rename-types q r f g h)
  rename-type q r f g (HasType.get h p) = HasType.get (rename-type q r f g h) (rename-part q p)
  rename-type q r f g (HasType.pack {t = t} {body = body} c k h) = HasType.pack (conv-rename q f c) (kind-rename q f k) (cast-type (rename-instantiate q body t) (rename-type q r f g h))
  rename-type {vars = vars} {others = others} q r f g (HasType.unpack {k = k} {t = t} h i) =
      HasType.unpack (rename-type q r f g h) (cast-type (rename-weaken q t) (rename-type (lift q) (lift r) (lift-maps k f) (lift-vars (under-vars vars others g)) i))
  rename-type q r f g (HasType.if_ h i j) = HasType.if_ (rename-type q r f g h) (rename-type q r f g i) (rename-type q r f g j)
  rename-type q r f g (HasType.arith {o = o} h i) = cast-type (rename-result q o) (HasType.arith (rename-type q r f g h) (rename-type q r f g i))
  rename-type q r f g (HasType.fix k j h) = HasType.fix (kind-rename q f k) (kind-rename q f j) (rename-type q (lift (lift r)) f (lift-vars (lift-vars g)) h)
  rename-type q r f g (HasType.inj c p h) = HasType.inj (conv-rename q f c) (rename-part q p) (rename-type q r f g h)
  rename-type q r f g (HasType.case h k i) = HasType.case (rename-type q r f g h) (kind-rename q f k) (rename-branches q r f g i)
  rename-type q r f g (HasType.roll {body = body} c h) = HasType.roll (conv-rename q f c) (cast-type (rename-instantiate q body (Ty.Mu body)) (rename-type q r f g h))
  rename-type q r f g (HasType.unroll {body = body} h) = cast-type (sym (rename-instantiate q body (Ty.Mu body))) (HasType.unroll (rename-type q r f g h))
  rename-type q r f g (HasType.conv h c) = HasType.conv (rename-type q r f g h) (conv-rename q f c)

  pub rename-types : {ctx other : List Kind} {vars others : List Ty} {e : TermRow} {t : Row} (q r : ℕ → ℕ) → Maps ctx other q → RenVars vars others q r → FieldsHave ctx vars e t → FieldsHave other others (ren_fields q r e) (rename_row q t)
  rename-types q r f g FieldsHave.end = FieldsHave.end
  rename-types q r f g (FieldsHave.more {l = l} {r = p} h d i) = FieldsHave.more (rename-type q r f g h) (fresh-rename q l p d) (rename-types q r f g i)

  -- each branch stands under one more term variable
  pub rename-branches : {ctx other : List Kind} {vars others : List Ty} {e : TermRow} {t : Row} {u : Ty} (q r : ℕ → ℕ) → Maps ctx other q → RenVars vars others q r → BranchesHave ctx vars e t u → BranchesHave other others (ren_fields q (lift r) e) (rename_row q t) (rename q u)
  rename-branches q r f g BranchesHave.none = BranchesHave.none
  rename-branches q r f g (BranchesHave.branch h i) = BranchesHave.branch (rename-type q (lift r) f (lift-vars g) h) (rename-branches q r f g i)

pub shift-types : {ctx : List Kind} {vars : List Ty} {e : Term} {t : Ty} (k : Kind) → HasType ctx vars e t → HasType (k ∷ ctx) (shift_all vars) (ren_term suc same_index e) (rename suc t)
shift-types {ctx} k h = rename-type suc same_index (maps-suc k ctx) (λ n u a. at-shift a) h

pub shift-vars : {ctx : List Kind} {vars : List Ty} {e : Term} {t : Ty} (u : Ty) → HasType ctx vars e t → HasType ctx (u ∷ vars) (ren_term same_index suc e) t
shift-vars {ctx} {vars} {t = t} u h = cast-type (rename-id t) (rename-type same_index suc (λ i k x. x) (λ n v a. At.there (subst (λ x. At vars n x) (sym (rename-id v)) a)) h)

-- substitution

up-vars : {from : List Ty} {ctx : List Kind} {to : List Ty} {t : Ty} {s : ℕ → Ty} {w : ℕ → Term} → SubVars from ctx to s w → SubVars (t ∷ from) ctx (substitute s t ∷ to) s (up_term w)
up-vars f zero t At.here = HasType.var At.here
up-vars {t = u} {s = s} f (suc n) t (At.there h) = shift-vars (substitute s u) (f n t h)

under-sub-vars : (from : List Ty) {ctx : List Kind} {to : List Ty} {s : ℕ → Ty} {w : ℕ → Term} (k : Kind) → SubVars from ctx to s w → SubVars (shift_all from) (k ∷ ctx) (shift_all to) (under s) (under_type w)
under-sub-vars from {ctx} {to} {s} {w} k f n t h =
    let a = shift-at from h in
    cast-type (sym (substitute-weaken s a.ty) ∙ ap (substitute (under s)) a.is) (shift-types k (f n a.ty a.at))

substitute-part : {r : Row} {l : Label} {t : Ty} (s : ℕ → Ty) → HasPart r l t → HasPart (substitute_row s r) l (substitute s t)
substitute-part s HasPart.here = HasPart.here
substitute-part s (HasPart.there d h) = HasPart.there d (substitute-part s h)

substitute-result : (s : ℕ → Ty) (o : Op) → result_type o ≡ substitute s (result_type o)
substitute-result s Op.Less = refl
substitute-result s Op.Equal = refl
substitute-result s _ = refl

mutual
  -- substitution for both kinds of variables keeps typing
  pub substitute-type : {ctx other : List Kind} {vars others : List Ty} {e : Term} {t : Ty} (s : ℕ → Ty) (w : ℕ → Term) → Substitutes ctx other s → SubVars vars other others s w → HasType ctx vars e t → HasType other others (sub_term s w e) (substitute s t)
  substitute-type s w f g (HasType.var {n = n} {t = t} h) = g n t h
  substitute-type s w f g HasType.int = HasType.int
  substitute-type s w f g HasType.bool = HasType.bool
  substitute-type s w f g HasType.text = HasType.text
  substitute-type s w f g (HasType.lam k h) = HasType.lam (kind-substitute s f k) (substitute-type s (up_term w) f (up-vars g) h)
  substitute-type s w f g (HasType.call h i) = HasType.call (substitute-type s w f g h) (substitute-type s w f g i)
  substitute-type {vars = vars} s w f g (HasType.ty_lam {k = k} h) = HasType.ty_lam (substitute-type (under s) (under_type w) (under-substitutes k f) (under-sub-vars vars k g) h)
  substitute-type s w f g (HasType.inst {t = t} {body = body} h k) = cast-type (sym (substitute-instantiate s body t)) (HasType.inst (substitute-type s w f g h) (kind-substitute s f k))
  substitute-type s w f g (HasType.fields h) = HasType.fields (substitute-types s w f g h)
  substitute-type s w f g (HasType.get h p) = HasType.get (substitute-type s w f g h) (substitute-part s p)
  substitute-type s w f g (HasType.pack {t = t} {body = body} c k h) = HasType.pack (conv-substitute s f c) (kind-substitute s f k) (cast-type (substitute-instantiate s body t) (substitute-type s w f g h))
  substitute-type {vars = vars} s w f g (HasType.unpack {k = k} {t = t} h i) =
      HasType.unpack (substitute-type s w f g h) (cast-type (substitute-weaken s t) (substitute-type (under s) (up_term (under_type w)) (under-substitutes k f) (up-vars (under-sub-vars vars k g)) i))
  substitute-type s w f g (HasType.if_ h i j) = HasType.if_ (substitute-type s w f g h) (substitute-type s w f g i) (substitute-type s w f g j)
  substitute-type s w f g (HasType.arith {o = o} h i) = cast-type (substitute-result s o) (HasType.arith (substitute-type s w f g h) (substitute-type s w f g i))
  substitute-type s w f g (HasType.fix k j h) = HasType.fix (kind-substitute s f k) (kind-substitute s f j) (substitute-type s (up_term (up_term w)) f (up-vars (up-vars g)) h)
  substitute-type s w f g (HasType.inj c p h) = HasType.inj (conv-substitute s f c) (substitute-part s p) (substitute-type s w f g h)
  substitute-type s w f g (HasType.case h k i) = HasType.case (substitute-type s w f g h) (kind-substitute s f k) (substitute-branches s w f g i)
  substitute-type s w f g (HasType.roll {body = body} c h) = HasType.roll (conv-substitute s f c) (cast-type (substitute-instantiate s body (Ty.Mu body)) (substitute-type s w f g h))
  substitute-type s w f g (HasType.unroll {body = body} h) = cast-type (sym (substitute-instantiate s body (Ty.Mu body))) (HasType.unroll (substitute-type s w f g h))
  substitute-type s w f g (HasType.conv h c) = HasType.conv (substitute-type s w f g h) (conv-substitute s f c)

  pub substitute-types : {ctx other : List Kind} {vars others : List Ty} {e : TermRow} {t : Row} (s : ℕ → Ty) (w : ℕ → Term) → Substitutes ctx other s → SubVars vars other others s w → FieldsHave ctx vars e t → FieldsHave other others (sub_fields s w e) (substitute_row s t)
  substitute-types s w f g FieldsHave.end = FieldsHave.end
  substitute-types s w f g (FieldsHave.more {l = l} {r = p} h d i) = FieldsHave.more (substitute-type s w f g h) (fresh-substitute s l p d) (substitute-types s w f g i)

  -- each branch stands under one more term variable
  pub substitute-branches : {ctx other : List Kind} {vars others : List Ty} {e : TermRow} {t : Row} {u : Ty} (s : ℕ → Ty) (w : ℕ → Term) → Substitutes ctx other s → SubVars vars other others s w → BranchesHave ctx vars e t u → BranchesHave other others (sub_fields s (up_term w) e) (substitute_row s t) (substitute s u)
  substitute-branches s w f g BranchesHave.none = BranchesHave.none
  substitute-branches s w f g (BranchesHave.branch h i) = BranchesHave.branch (substitute-type s (up_term w) f (up-vars g) h) (substitute-branches s w f g i)

-- a type of a term has kind *

-- an empty list of term variables has types of kind *
pub good-none : (ctx : List Kind) → GoodVars ctx []
good-none ctx n t h = elim h [ ]

-- one more term variable of a type of kind * keeps those types of kind *
pub good-more : {ctx : List Kind} {vars : List Ty} {t : Ty} → HasKind ctx t Kind.Star → GoodVars ctx vars → GoodVars ctx (t ∷ vars)
good-more k g zero t At.here = k
good-more k g (suc n) t (At.there h) = g n t h

-- types of term variables stay of kind * below one more type binder
pub good-shift : {ctx : List Kind} (vars : List Ty) (k : Kind) → GoodVars ctx vars → GoodVars (k ∷ ctx) (shift_all vars)
good-shift {ctx} vars k g n t h =
    let a = shift-at vars h in
    subst (λ x. HasKind (k ∷ ctx) x Kind.Star) a.is (kind-rename suc (maps-suc k ctx) (g n a.ty a.at))

-- a part of a record or a sum type has kind *
pub part-kind : {ctx : List Kind} {r : Row} {l : Label} {t : Ty} → HasKinds ctx r → HasPart r l t → HasKind ctx t Kind.Star
part-kind k_end x = elim x [ ]
part-kind (k_more f k ks) HasPart.here = k
part-kind (k_more f k ks) (HasPart.there e p) = part-kind ks p

-- the result type of an operation has kind *
pub result-kind : {ctx : List Kind} (o : Op) → HasKind ctx (result_type o) Kind.Star
result-kind Op.Less = k_bool
result-kind Op.Equal = k_bool
result-kind _ = k_int

-- a closed type chosen for each kind
abbrev pub some_type : Kind → Ty
some_type Kind.Star = Ty.Int
some_type (Kind.Arrow j l) = Ty.Lam j (some_type l)

-- the closed type chosen for a kind has the kind
pub some-kind : (ctx : List Kind) (k : Kind) → HasKind ctx (some_type k) k
some-kind ctx Kind.Star = k_int
some-kind ctx (Kind.Arrow j l) = k_lam (some-kind (j ∷ ctx) l)

-- a type whose weakening has a kind has it outside
pub kind-unshift : {ctx : List Kind} {t : Ty} {k j : Kind} → HasKind (j ∷ ctx) (rename suc t) k → HasKind ctx t k
kind-unshift {ctx} {t} {k} {j} h = subst (λ u. HasKind ctx u k) (single-rename t (some_type j)) (kind-substitute (single (some_type j)) (single-substitutes (some-kind ctx j)) h)

mutual
  -- the type of a term has kind *
  pub type-kind : {ctx : List Kind} {vars : List Ty} {e : Term} {t : Ty} → GoodVars ctx vars → HasType ctx vars e t → HasKind ctx t Kind.Star
  type-kind g (HasType.var {n = n} {t = t} h) = g n t h
  type-kind g HasType.int = k_int
  type-kind g HasType.bool = k_bool
  type-kind g HasType.text = k_text
  type-kind g (HasType.lam k h) = k_arrow k (type-kind (good-more k g) h)
  type-kind g (HasType.call h i) = (arrow-kinds (type-kind g h)).1
  type-kind {vars = vars} g (HasType.ty_lam {k = k} h) = k_all (type-kind (good-shift vars k g) h)
  type-kind g (HasType.inst {t = t} h k) = kind-substitute (single t) (single-substitutes k) (all-kinds (type-kind g h))
  type-kind g (HasType.fields h) = k_fields (types-kind g h)
  type-kind g (HasType.get h p) = part-kind (fields-kinds (type-kind g h)) p
  type-kind g (HasType.pack c k h) = (conv-kinds c).0
  type-kind {vars = vars} g (HasType.unpack {k = k} h i) = kind-unshift {j = k} (type-kind (good-more (ex-kinds (type-kind g h)) (good-shift vars k g)) i)
  type-kind g (HasType.if_ h i j) = type-kind g i
  type-kind g (HasType.arith {o = o} h i) = result-kind o
  type-kind g (HasType.fix k j h) = k_arrow k j
  type-kind g (HasType.inj c p h) = (conv-kinds c).0
  type-kind g (HasType.case h k i) = k
  type-kind g (HasType.roll c h) = (conv-kinds c).0
  type-kind g (HasType.unroll {body = body} h) = let k = type-kind g h in kind-substitute (single (Ty.Mu body)) (single-substitutes k) (mu-kinds k)
  type-kind g (HasType.conv h c) = (conv-kinds c).1

  -- the types of fields have kind *, at distinct labels
  pub types-kind : {ctx : List Kind} {vars : List Ty} {f : TermRow} {r : Row} → GoodVars ctx vars → FieldsHave ctx vars f r → HasKinds ctx r
  types-kind g FieldsHave.end = k_end
  types-kind g (FieldsHave.more h d i) = k_more d (type-kind g h) (types-kind g i)

-- term variables retyped at convertible types

abbrev pub ConvVars : List Kind → List Ty → List Ty → Type 0
ConvVars ctx vars others = (n : ℕ) (t : Ty) → At vars n t → HasType ctx others (Term.Var n) t

-- term variables at convertible types, with one more such variable
pub conv-more : {ctx : List Kind} {vars others : List Ty} {t u : Ty} → Conv ctx u t Kind.Star → ConvVars ctx vars others → ConvVars ctx (t ∷ vars) (u ∷ others)
conv-more c g zero t At.here = HasType.conv (HasType.var At.here) c
conv-more {u = u} c g (suc n) t (At.there h) = shift-vars u (g n t h)

conv-shift : {ctx : List Kind} (vars : List Ty) {others : List Ty} (k : Kind) → ConvVars ctx vars others → ConvVars (k ∷ ctx) (shift_all vars) (shift_all others)
conv-shift vars k g n t h = let a = shift-at vars h in cast-type a.is (shift-types k (g n a.ty a.at))

-- term variables at the same types have their types
pub conv-same : (ctx : List Kind) (vars : List Ty) → ConvVars ctx vars vars
conv-same ctx vars n t h = HasType.var h

mutual
  -- term variables may be given convertible types
  pub revars : {ctx : List Kind} {vars others : List Ty} {e : Term} {t : Ty} → GoodVars ctx vars → ConvVars ctx vars others → HasType ctx vars e t → HasType ctx others e t
  revars v g (HasType.var {n = n} {t = t} h) = g n t h
  revars v g HasType.int = HasType.int
  revars v g HasType.bool = HasType.bool
  revars v g HasType.text = HasType.text
  revars v g (HasType.lam k h) = HasType.lam k (revars (good-more k v) (conv-more (c_refl k) g) h)
  revars v g (HasType.call h i) = HasType.call (revars v g h) (revars v g i)
  revars {vars = vars} v g (HasType.ty_lam {k = k} h) = HasType.ty_lam (revars (good-shift vars k v) (conv-shift vars k g) h)
  revars v g (HasType.inst h k) = HasType.inst (revars v g h) k
  revars v g (HasType.fields h) = HasType.fields (revars-fields v g h)
  revars v g (HasType.get h p) = HasType.get (revars v g h) p
  revars v g (HasType.pack c k h) = HasType.pack c k (revars v g h)
  revars {vars = vars} v g (HasType.unpack {k = k} h i) =
      let b = ex-kinds (type-kind v h) in
      HasType.unpack (revars v g h) (revars (good-more b (good-shift vars k v)) (conv-more (c_refl b) (conv-shift vars k g)) i)
  revars v g (HasType.if_ h i j) = HasType.if_ (revars v g h) (revars v g i) (revars v g j)
  revars v g (HasType.arith h i) = HasType.arith (revars v g h) (revars v g i)
  revars v g (HasType.fix k j h) = HasType.fix k j (revars (good-more k (good-more (k_arrow k j) v)) (conv-more (c_refl k) (conv-more (c_refl (k_arrow k j)) g)) h)
  revars v g (HasType.inj c p h) = HasType.inj c p (revars v g h)
  revars v g (HasType.case h k i) = HasType.case (revars v g h) k (revars-branches v g (sum-kinds (type-kind v h)) i)
  revars v g (HasType.roll c h) = HasType.roll c (revars v g h)
  revars v g (HasType.unroll h) = HasType.unroll (revars v g h)
  revars v g (HasType.conv h c) = HasType.conv (revars v g h) c

  pub revars-fields : {ctx : List Kind} {vars others : List Ty} {f : TermRow} {r : Row} → GoodVars ctx vars → ConvVars ctx vars others → FieldsHave ctx vars f r → FieldsHave ctx others f r
  revars-fields v g FieldsHave.end = FieldsHave.end
  revars-fields v g (FieldsHave.more h d i) = FieldsHave.more (revars v g h) d (revars-fields v g i)

  pub revars-branches : {ctx : List Kind} {vars others : List Ty} {f : TermRow} {r : Row} {t : Ty} → GoodVars ctx vars → ConvVars ctx vars others → HasKinds ctx r → BranchesHave ctx vars f r t → BranchesHave ctx others f r t
  revars-branches v g k_end BranchesHave.none = BranchesHave.none
  revars-branches v g (k_more d k ks) (BranchesHave.branch h i) = BranchesHave.branch (revars (good-more k v) (conv-more (c_refl k) g) h) (revars-branches v g ks i)

-- annotations replaced by convertible ones, along a typing: the kind that an open binds is not written in the term

mutual
  pub data Replaced : List Kind → List Ty → Term → Term → Ty → Type 0 where
    var : {ctx : List Kind} {vars : List Ty} {n : ℕ} {t : Ty} → At vars n t → Replaced ctx vars (Term.Var n) (Term.Var n) t
    int : {ctx : List Kind} {vars : List Ty} {z : ℤ} → Replaced ctx vars (Term.Int z) (Term.Int z) Ty.Int
    bool : {ctx : List Kind} {vars : List Ty} {b : Bool} → Replaced ctx vars (Term.Bool b) (Term.Bool b) Ty.Bool
    text : {ctx : List Kind} {vars : List Ty} {s : List ℕ} → Replaced ctx vars (Term.Text s) (Term.Text s) Ty.Text
    lam : {ctx : List Kind} {vars : List Ty} {t t' u : Ty} {e d : Term} → Conv ctx t t' Kind.Star → Replaced ctx (t ∷ vars) e d u → Replaced ctx vars (Term.Lam t e) (Term.Lam t' d) (Ty.Arrow t u)
    call : {ctx : List Kind} {vars : List Ty} {t u : Ty} {f g a b : Term} → Replaced ctx vars f g (Ty.Arrow t u) → Replaced ctx vars a b t → Replaced ctx vars (Term.Call f a) (Term.Call g b) u
    ty_lam : {ctx : List Kind} {vars : List Ty} {k : Kind} {e d : Term} {t : Ty} → Replaced (k ∷ ctx) (shift_all vars) e d t → Replaced ctx vars (Term.TyLam k e) (Term.TyLam k d) (Ty.All k t)
    inst : {ctx : List Kind} {vars : List Ty} {k : Kind} {e d : Term} {t t' body : Ty} → Replaced ctx vars e d (Ty.All k body) → Conv ctx t t' k → Replaced ctx vars (Term.Inst e t) (Term.Inst d t') (instantiate body t)
    fields : {ctx : List Kind} {vars : List Ty} {f g : TermRow} {r : Row} → ReplacedFields ctx vars f g r → Replaced ctx vars (Term.Fields f) (Term.Fields g) (Ty.Fields r)
    get : {ctx : List Kind} {vars : List Ty} {e d : Term} {r : Row} {l : Label} {t : Ty} → Replaced ctx vars e d (Ty.Fields r) → HasPart r l t → Replaced ctx vars (Term.Get e l) (Term.Get d l) t
    pack : {ctx : List Kind} {vars : List Ty} {k : Kind} {e d : Term} {t t' u u' body : Ty} → Conv ctx u (Ty.Ex k body) Kind.Star → Conv ctx u u' Kind.Star → Conv ctx t t' k → Replaced ctx vars e d (instantiate body t) → Replaced ctx vars (Term.Pack t e u) (Term.Pack t' d u') u
    unpack : {ctx : List Kind} {vars : List Ty} {k : Kind} {p q e d : Term} {t body : Ty} → Replaced ctx vars p q (Ty.Ex k body) → Replaced (k ∷ ctx) (body ∷ shift_all vars) e d (rename suc t) → Replaced ctx vars (Term.Unpack p e) (Term.Unpack q d) t
    if_ : {ctx : List Kind} {vars : List Ty} {a b c x y z : Term} {t : Ty} → Replaced ctx vars a x Ty.Bool → Replaced ctx vars b y t → Replaced ctx vars c z t → Replaced ctx vars (Term.If a b c) (Term.If x y z) t
    arith : {ctx : List Kind} {vars : List Ty} {o : Op} {a b x y : Term} → Replaced ctx vars a x Ty.Int → Replaced ctx vars b y Ty.Int → Replaced ctx vars (Term.Arith o a b) (Term.Arith o x y) (result_type o)
    fix : {ctx : List Kind} {vars : List Ty} {t t' u u' : Ty} {e d : Term} → Conv ctx t t' Kind.Star → Conv ctx u u' Kind.Star → Replaced ctx (t ∷ (Ty.Arrow t u ∷ vars)) e d u → Replaced ctx vars (Term.Fix t u e) (Term.Fix t' u' d) (Ty.Arrow t u)
    inj : {ctx : List Kind} {vars : List Ty} {l : Label} {e d : Term} {t t' u : Ty} {r : Row} → Conv ctx t (Ty.Sum r) Kind.Star → Conv ctx t t' Kind.Star → HasPart r l u → Replaced ctx vars e d u → Replaced ctx vars (Term.Inj l e t) (Term.Inj l d t') t
    case : {ctx : List Kind} {vars : List Ty} {e d : Term} {t t' : Ty} {r : Row} {f g : TermRow} → Replaced ctx vars e d (Ty.Sum r) → Conv ctx t t' Kind.Star → ReplacedBranches ctx vars f g r t → Replaced ctx vars (Term.Case e t f) (Term.Case d t' g) t
    roll : {ctx : List Kind} {vars : List Ty} {e d : Term} {t t' body : Ty} → Conv ctx t (Ty.Mu body) Kind.Star → Conv ctx t t' Kind.Star → Replaced ctx vars e d (instantiate body (Ty.Mu body)) → Replaced ctx vars (Term.Roll e t) (Term.Roll d t') t
    unroll : {ctx : List Kind} {vars : List Ty} {e d : Term} {body : Ty} → Replaced ctx vars e d (Ty.Mu body) → Replaced ctx vars (Term.Unroll e) (Term.Unroll d) (instantiate body (Ty.Mu body))
    conv : {ctx : List Kind} {vars : List Ty} {e d : Term} {t u : Ty} → Replaced ctx vars e d t → Conv ctx t u Kind.Star → Replaced ctx vars e d u

  pub data ReplacedFields : List Kind → List Ty → TermRow → TermRow → Row → Type 0 where
    end : {ctx : List Kind} {vars : List Ty} → ReplacedFields ctx vars TermRow.End TermRow.End Row.End
    more : {ctx : List Kind} {vars : List Ty} {l : Label} {e d : Term} {t : Ty} {f g : TermRow} {r : Row} → Replaced ctx vars e d t → Fresh l r → ReplacedFields ctx vars f g r → ReplacedFields ctx vars (TermRow.More l e f) (TermRow.More l d g) (Row.More l t r)

  pub data ReplacedBranches : List Kind → List Ty → TermRow → TermRow → Row → Ty → Type 0 where
    none : {ctx : List Kind} {vars : List Ty} {t : Ty} → ReplacedBranches ctx vars TermRow.End TermRow.End Row.End t
    branch : {ctx : List Kind} {vars : List Ty} {l : Label} {e d : Term} {t u : Ty} {f g : TermRow} {r : Row} → Replaced ctx (u ∷ vars) e d t → ReplacedBranches ctx vars f g r t → ReplacedBranches ctx vars (TermRow.More l e f) (TermRow.More l d g) (Row.More l u r) t

-- branches of a type have each convertible type
branches-conv : {ctx : List Kind} {vars : List Ty} {f : TermRow} {r : Row} {t u : Ty} → Conv ctx t u Kind.Star → BranchesHave ctx vars f r t → BranchesHave ctx vars f r u
branches-conv c BranchesHave.none = BranchesHave.none
branches-conv c (BranchesHave.branch h i) = BranchesHave.branch (HasType.conv h c) (branches-conv c i)

-- the term with the replaced annotations has the type, and so has the given one
mutual
  pub replaced-typed : {ctx : List Kind} {vars : List Ty} {e d : Term} {t : Ty} → GoodVars ctx vars → Replaced ctx vars e d t → HasType ctx vars e t × HasType ctx vars d t
  replaced-typed v (Replaced.var h) = (HasType.var h, HasType.var h)
  replaced-typed v Replaced.int = (HasType.int, HasType.int)
  replaced-typed v Replaced.bool = (HasType.bool, HasType.bool)
  replaced-typed v Replaced.text = (HasType.text, HasType.text)
  replaced-typed {ctx} {vars} v (Replaced.lam c h) =
      let k = conv-kinds c in
      let w = good-more k.0 v in
      let r = replaced-typed w h in
      (HasType.lam k.0 r.0, HasType.conv (HasType.lam k.1 (revars w (conv-more (c_sym c) (conv-same ctx vars)) r.1)) (c_arrow (c_sym c) (c_refl (type-kind w r.1))))
  replaced-typed v (Replaced.call h i) = let p = replaced-typed v h in let q = replaced-typed v i in (HasType.call p.0 q.0, HasType.call p.1 q.1)
  replaced-typed {vars = vars} v (Replaced.ty_lam {k = k} h) = let r = replaced-typed (good-shift vars k v) h in (HasType.ty_lam r.0, HasType.ty_lam r.1)
  replaced-typed v (Replaced.inst {t = t} h c) =
      let r = replaced-typed v h in
      let k = conv-kinds c in
      (HasType.inst r.0 k.0, HasType.conv (HasType.inst r.1 k.1) (conv-instantiate (c_sym c) (c_refl (all-kinds (type-kind v r.1)))))
  replaced-typed v (Replaced.fields h) = let r = replaced_fields-typed v h in (HasType.fields r.0, HasType.fields r.1)
  replaced-typed v (Replaced.get h p) = let r = replaced-typed v h in (HasType.get r.0 p, HasType.get r.1 p)
  replaced-typed v (Replaced.pack c u t h) =
      let r = replaced-typed v h in
      let k = conv-kinds t in
      let b = ex-kinds (conv-kinds c).1 in
      (HasType.pack c k.0 r.0, HasType.conv (HasType.pack (c_trans (c_sym u) c) k.1 (HasType.conv r.1 (conv-instantiate t (c_refl b)))) (c_sym u))
  replaced-typed {vars = vars} v (Replaced.unpack {k = k} h i) =
      let p = replaced-typed v h in
      let q = replaced-typed (good-more (ex-kinds (type-kind v p.0)) (good-shift vars k v)) i in
      (HasType.unpack p.0 q.0, HasType.unpack p.1 q.1)
  replaced-typed v (Replaced.if_ h i j) = let p = replaced-typed v h in let q = replaced-typed v i in let r = replaced-typed v j in (HasType.if_ p.0 q.0 r.0, HasType.if_ p.1 q.1 r.1)
  replaced-typed v (Replaced.arith h i) = let p = replaced-typed v h in let q = replaced-typed v i in (HasType.arith p.0 q.0, HasType.arith p.1 q.1)
  replaced-typed {ctx} {vars} v (Replaced.fix c b h) =
      let k = conv-kinds c in
      let j = conv-kinds b in
      let w = good-more k.0 (good-more (k_arrow k.0 j.0) v) in
      let r = replaced-typed w h in
      let g = conv-more (c_sym c) (conv-more (c_arrow (c_sym c) (c_sym b)) (conv-same ctx vars)) in
      (HasType.fix k.0 j.0 r.0, HasType.conv (HasType.fix k.1 j.1 (HasType.conv (revars w g r.1) b)) (c_arrow (c_sym c) (c_sym b)))
  replaced-typed v (Replaced.inj c t p h) = let r = replaced-typed v h in (HasType.inj c p r.0, HasType.conv (HasType.inj (c_trans (c_sym t) c) p r.1) (c_sym t))
  replaced-typed v (Replaced.case h c i) =
      let p = replaced-typed v h in
      let k = conv-kinds c in
      let q = replaced_branches-typed v (sum-kinds (type-kind v p.0)) i in
      (HasType.case p.0 k.0 q.0, HasType.conv (HasType.case p.1 k.1 (branches-conv c q.1)) (c_sym c))
  replaced-typed v (Replaced.roll c t h) = let r = replaced-typed v h in (HasType.roll c r.0, HasType.conv (HasType.roll (c_trans (c_sym t) c) r.1) (c_sym t))
  replaced-typed v (Replaced.unroll h) = let r = replaced-typed v h in (HasType.unroll r.0, HasType.unroll r.1)
  replaced-typed v (Replaced.conv h c) = let r = replaced-typed v h in (HasType.conv r.0 c, HasType.conv r.1 c)

  pub replaced_fields-typed : {ctx : List Kind} {vars : List Ty} {f g : TermRow} {r : Row} → GoodVars ctx vars → ReplacedFields ctx vars f g r → FieldsHave ctx vars f r × FieldsHave ctx vars g r
  replaced_fields-typed v ReplacedFields.end = (FieldsHave.end, FieldsHave.end)
  replaced_fields-typed v (ReplacedFields.more h d i) = let p = replaced-typed v h in let q = replaced_fields-typed v i in (FieldsHave.more p.0 d q.0, FieldsHave.more p.1 d q.1)

  pub replaced_branches-typed : {ctx : List Kind} {vars : List Ty} {f g : TermRow} {r : Row} {t : Ty} → GoodVars ctx vars → HasKinds ctx r → ReplacedBranches ctx vars f g r t → BranchesHave ctx vars f r t × BranchesHave ctx vars g r t
  replaced_branches-typed v k_end ReplacedBranches.none = (BranchesHave.none, BranchesHave.none)
  replaced_branches-typed v (k_more d k ks) (ReplacedBranches.branch h i) = let p = replaced-typed (good-more k v) h in let q = replaced_branches-typed v ks i in (BranchesHave.branch p.0 q.0, BranchesHave.branch p.1 q.1)
