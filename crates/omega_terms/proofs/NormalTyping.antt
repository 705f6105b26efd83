-- Normal typing implies typing. It is kept by renaming and by more term variables outside, and its types are normal.
-- Main results: typed-sound, typed-rename, typed-normal.
use Rattle.std.specs.Prelude.{ℕ, zero, suc, List, [], ◌∷◌, ◌++◌, ◌≡◌}
use Rattle.std.proofs.Math.Path.{refl, sym, ap, subst}
use Rattle.omega_kinds.specs.Kind.{Kind}
use Rattle.omega_kinds.specs.declared.label.Label.{Label}
use Rattle.omega_types.specs.Ty.{Ty, Row, lift}
use Rattle.omega_types.specs.Substitution.{rename, rename_row, instantiate}
use Rattle.omega_types.specs.Conversion.{Conv}
use Rattle.omega_types.specs.Conversion.Conv.{c_refl, c_sym}
use Rattle.omega_types.specs.Normality.{Normal, Normals}
use Rattle.omega_types.specs.Normality.Normal.{n_int, n_bool, n_text, n_arrow, n_fields, n_sum, n_all, n_ex, n_mu, n_neutral}
use Rattle.omega_types.specs.Normality.Normals.{n_end, n_more}
use Rattle.omega_types.specs.Normalises.{Maps, NormalForm}
use Rattle.omega_types.proofs.Algebra.{rename-instantiate, rename-weaken, rename-id}
use Rattle.omega_types.proofs.Preservation.{maps-suc, lift-maps, fresh-rename, normal-rename, conv-rename, normal-kind}
use Rattle.omega_terms.specs.declared.op.Op.{Op}
use Rattle.omega_terms.specs.Term.{Term, TermRow}
use Rattle.omega_terms.specs.TermSubst.{ren_term, ren_fields, same_index}
pub use Rattle.omega_terms.specs.NormalTyping.{Typed, TypedFields, TypedBranches, AllNormal}
use Rattle.omega_terms.specs.Typing.{At, HasPart, HasType, FieldsHave, BranchesHave, shift_all, result_type, RenVars}

-- a term has also a type that is equal to its type
pub cast : {ctx : List Kind} {vars : List Ty} {e : Term} {t u : Ty} → t ≡ u → Typed ctx vars e t → Typed ctx vars e u
cast {ctx} {vars} {e} p h = subst (λ x. Typed ctx vars e x) p h

-- term variables of equal types type the same terms
pub recast : {ctx : List Kind} {vars us : List Ty} {e : Term} {t : Ty} → vars ≡ us → Typed ctx vars e t → Typed ctx us e t
recast {ctx} {e = e} {t = t} p h = subst (λ x. Typed ctx x e t) p h

-- it implies typing

mutual
  -- normal typing implies typing
  pub typed-sound : {ctx : List Kind} {vars : List Ty} {e : Term} {t : Ty} → Typed ctx vars e t → HasType ctx vars e t
  typed-sound (Typed.var h) = HasType.var h
  typed-sound Typed.int = HasType.int
  typed-sound Typed.bool = HasType.bool
  typed-sound Typed.text = HasType.text
  typed-sound (Typed.lam n h) = HasType.lam (normal-kind n) (typed-sound h)
  typed-sound (Typed.call f a) = HasType.call (typed-sound f) (typed-sound a)
  typed-sound (Typed.ty_lam h) = HasType.ty_lam (typed-sound h)
  typed-sound (Typed.inst h n f) = HasType.conv (HasType.inst (typed-sound h) (normal-kind n)) f.1
  typed-sound (Typed.fields h) = HasType.fields (typed-fields-sound h)
  typed-sound (Typed.get h p) = HasType.get (typed-sound h) p
  typed-sound (Typed.pack u n f h) = HasType.pack (c_refl (normal-kind u)) (normal-kind n) (HasType.conv (typed-sound h) (c_sym f.1))
  typed-sound (Typed.unpack p n h) = HasType.unpack (typed-sound p) (typed-sound h)
  typed-sound (Typed.if_ a b c) = HasType.if_ (typed-sound a) (typed-sound b) (typed-sound c)
  typed-sound (Typed.arith a b) = HasType.arith (typed-sound a) (typed-sound b)
  typed-sound (Typed.fix n m h) = HasType.fix (normal-kind n) (normal-kind m) (typed-sound h)
  typed-sound (Typed.inj n p h) = HasType.inj (c_refl (normal-kind n)) p (typed-sound h)
  typed-sound (Typed.case h n hs) = HasType.case (typed-sound h) (normal-kind n) (typed-branches-sound hs)
  typed-sound (Typed.roll n f h) = HasType.roll (c_refl (normal-kind n)) (HasType.conv (typed-sound h) (c_sym f.1))
  typed-sound (Typed.unroll h f) = HasType.conv (HasType.unroll (typed-sound h)) f.1

  pub typed-fields-sound : {ctx : List Kind} {vars : List Ty} {f : TermRow} {r : Row} → TypedFields ctx vars f r → FieldsHave ctx vars f r
  typed-fields-sound TypedFields.end = FieldsHave.end
  typed-fields-sound (TypedFields.more h d hs) = FieldsHave.more (typed-sound h) d (typed-fields-sound hs)

  pub typed-branches-sound : {ctx : List Kind} {vars : List Ty} {f : TermRow} {r : Row} {t : Ty} → TypedBranches ctx vars f r t → BranchesHave ctx vars f r t
  typed-branches-sound TypedBranches.none = BranchesHave.none
  typed-branches-sound (TypedBranches.branch h hs) = BranchesHave.branch (typed-sound h) (typed-branches-sound hs)

-- looking up in a list of shifted types

-- a term variable keeps its type, weakened, below a type binder
pub at-shift : {vars : List Ty} {n : ℕ} {t : Ty} → At vars n t → At (shift_all vars) n (rename suc t)
at-shift At.here = At.here
at-shift (At.there h) = At.there (at-shift h)

pub record ShiftedAt (vars : List Ty) (n : ℕ) (u : Ty) : Type 0 where
  pub ty : Ty
  pub at : At vars n ty
  pub is : rename suc ty ≡ u

-- the type of a term variable below a type binder is a weakened one from outside
pub shift-at : (vars : List Ty) {n : ℕ} {u : Ty} → At (shift_all vars) n u → ShiftedAt vars n u
shift-at [] x = elim x [ ]
shift-at (t ∷ vars) At.here = record { ty = t; at = At.here; is = refl }
shift-at (t ∷ vars) (At.there h) = let r = shift-at vars h in record { ty = r.ty; at = At.there r.at; is = r.is }

-- renaming

-- a renaming of variables that keeps types keeps them below one more term variable
pub lift-vars : {from to : List Ty} {t : Ty} {q r : ℕ → ℕ} → RenVars from to q r → RenVars (t ∷ from) (rename q t ∷ to) q (lift r)
lift-vars f zero t At.here = At.here
lift-vars f (suc n) t (At.there h) = At.there (f n t h)

-- a renaming of variables that keeps types keeps them below one more type variable
pub under-vars : (from to : List Ty) {q r : ℕ → ℕ} → RenVars from to q r → RenVars (shift_all from) (shift_all to) (lift q) r
under-vars from to {q} {r} f n t h =
    let s = shift-at from h in
    subst (λ x. At (shift_all to) (r n) (rename (lift q) x)) s.is
    (subst (λ x. At (shift_all to) (r n) x) (sym (rename-weaken q s.ty)) (at-shift (f n s.ty s.at)))

-- the part at a label of a renamed row is the renamed part
pub rename-part : {r : Row} {l : Label} {t : Ty} (q : ℕ → ℕ) → HasPart r l t → HasPart (rename_row q r) l (rename q t)
rename-part q HasPart.here = HasPart.here
rename-part q (HasPart.there d h) = HasPart.there d (rename-part q h)

-- renaming leaves the result type of an operation as it is
pub rename-result : (q : ℕ → ℕ) (o : Op) → result_type o ≡ rename q (result_type o)
rename-result q Op.Less = refl
rename-result q Op.Equal = refl
rename-result q _ = refl

form-rename : {ctx other : List Kind} {n : Ty} (body t : Ty) (q : ℕ → ℕ) → Maps ctx other q → NormalForm ctx (instantiate body t) Kind.Star n → NormalForm other (instantiate (rename (lift q) body) (rename q t)) Kind.Star (rename q n)
form-rename {other = other} {n = n} body t q f h = (normal-rename q f h.0, subst (λ u. Conv other u (rename q n) Kind.Star) (rename-instantiate q body t) (conv-rename q f h.1))

mutual
  pub typed-rename : {ctx other : List Kind} {vars others : List Ty} {e : Term} {t : Ty} (q r : ℕ → ℕ) → Maps ctx other q → RenVars vars others q r → Typed ctx vars e t → Typed other others (ren_term q r e) (rename q t)
  typed-rename q r f g (Typed.var {n = n} {t = t} h) = Typed.var (g n t h)
  typed-rename q r f g Typed.int = Typed.int
  typed-rename q r f g Typed.bool = Typed.bool
  typed-rename q r f g Typed.text = Typed.text
  typed-rename q r f g (Typed.lam n h) = Typed.lam (normal-rename q f n) (typed-rename q (lift r) f (lift-vars g) h)
  typed-rename q r f g (Typed.call h i) = Typed.call (typed-rename q r f g h) (typed-rename q r f g i)
  typed-rename {vars = vars} {others = others} q r f g (Typed.ty_lam {k = k} h) = Typed.ty_lam (typed-rename (lift q) r (lift-maps k f) (under-vars vars others g) h)
  typed-rename q r f g (Typed.inst {t = t} {body = body} h n m) = Typed.inst (typed-rename q r f g h) (normal-rename q f n) (form-rename body t q f m)
  typed-rename q r f g (Typed.fields h) = Typed.fields (typed-fields-rename q r f g h)
  typed-rename q r f g (Typed.get h p) = Typed.get (typed-rename q r f g h) (rename-part q p)
  typed-rename q r f g (Typed.pack {t = t} {body = body} u n m h) = Typed.pack (normal-rename q f u) (normal-rename q f n) (form-rename body t q f m) (typed-rename q r f g h)
  typed-rename {vars = vars} {others = others} q r f g (Typed.unpack {k = k} {t = t} p n h) = Typed.unpack (typed-rename q r f g p) (normal-rename q f n) (cast (rename-weaken q t) (typed-rename (lift q) (lift r) (lift-maps k f) (lift-vars (under-vars vars others g)) h))
  typed-rename q r f g (Typed.if_ a b c) = Typed.if_ (typed-rename q r f g a) (typed-rename q r f g b) (typed-rename q r f g c)
  typed-rename q r f g (Typed.arith {o = o} a b) = cast (rename-result q o) (Typed.arith (typed-rename q r f g a) (typed-rename q r f g b))
  typed-rename q r f g (Typed.fix n m h) = Typed.fix (normal-rename q f n) (normal-rename q f m) (typed-rename q (lift (lift r)) f (lift-vars (lift-vars g)) h)
  typed-rename q r f g (Typed.inj n p h) = Typed.inj (normal-rename q f n) (rename-part q p) (typed-rename q r f g h)
  typed-rename q r f g (Typed.case h n hs) = Typed.case (typed-rename q r f g h) (normal-rename q f n) (typed-branches-rename q r f g hs)
  typed-rename q r f g (Typed.roll {body = body} u m h) = Typed.roll (normal-rename q f u) (form-rename body (Ty.Mu body) q f m) (typed-rename q r f g h)
  typed-rename q r f g (Typed.unroll {body = body} h m) = Typed.unroll (typed-rename q r f g h) (form-rename body (Ty.Mu body) q f m)

  pub typed-fields-rename : {ctx other : List Kind} {vars others : List Ty} {e : TermRow} {t : Row} (q r : ℕ → ℕ) → Maps ctx other q → RenVars vars others q r → TypedFields ctx vars e t → TypedFields other others (ren_fields q r e) (rename_row q t)
  typed-fields-rename q r f g TypedFields.end = TypedFields.end
  typed-fields-rename q r f g (TypedFields.more {l = l} {r = p} h d hs) = TypedFields.more (typed-rename q r f g h) (fresh-rename q l p d) (typed-fields-rename q r f g hs)

  -- each branch stands under one more term variable
  pub typed-branches-rename : {ctx other : List Kind} {vars others : List Ty} {e : TermRow} {t : Row} {u : Ty} (q r : ℕ → ℕ) → Maps ctx other q → RenVars vars others q r → TypedBranches ctx vars e t u → TypedBranches other others (ren_fields q (lift r) e) (rename_row q t) (rename q u)
  typed-branches-rename q r f g TypedBranches.none = TypedBranches.none
  typed-branches-rename q r f g (TypedBranches.branch h hs) = TypedBranches.branch (typed-rename q (lift r) f (lift-vars g) h) (typed-branches-rename q r f g hs)

-- under one more type variable
pub typed-under : {ctx : List Kind} {vars : List Ty} {e : Term} {t : Ty} (k : Kind) → Typed ctx vars e t → Typed (k ∷ ctx) (shift_all vars) (ren_term suc same_index e) (rename suc t)
typed-under {ctx} k h = typed-rename suc same_index (maps-suc k ctx) (λ n u a. at-shift a) h

-- a term with its variables renamed to such of the same types keeps its type
pub typed-vars : {ctx : List Kind} {vars others : List Ty} {e : Term} {t : Ty} (r : ℕ → ℕ) → ((n : ℕ) (u : Ty) → At vars n u → At others (r n) u) → Typed ctx vars e t → Typed ctx others (ren_term same_index r e) t
typed-vars {ctx} {vars} {others} {t = t} r g h = cast (rename-id t) (typed-rename same_index r (λ i k x. x) (λ n u a. subst (λ x. At others (r n) x) (sym (rename-id u)) (g n u a)) h)

-- the types of typed terms are normal

pub all-at : {ctx : List Kind} {vars : List Ty} {n : ℕ} {t : Ty} → AllNormal ctx vars → At vars n t → Normal ctx t Kind.Star
all-at h At.here = h.0
all-at h (At.there a) = all-at h.1 a

-- normal types of term variables stay normal below one more type binder
pub all-shift : (ctx : List Kind) (k : Kind) (vars : List Ty) → AllNormal ctx vars → AllNormal (k ∷ ctx) (shift_all vars)
all-shift ctx k [] h = tt
all-shift ctx k (t ∷ vars) h = (normal-rename suc (maps-suc k ctx) h.0, all-shift ctx k vars h.1)

normal-to : {ctx : List Kind} {a b : Ty} → Normal ctx (Ty.Arrow a b) Kind.Star → Normal ctx b Kind.Star
normal-to (n_arrow a b) = b
normal-to (n_neutral n) = elim n [ ]

normal-row : {ctx : List Kind} {r : Row} → Normal ctx (Ty.Fields r) Kind.Star → Normals ctx r
normal-row (n_fields r) = r
normal-row (n_neutral n) = elim n [ ]

-- the row of a normal sum type is normal
pub normal-sum : {ctx : List Kind} {r : Row} → Normal ctx (Ty.Sum r) Kind.Star → Normals ctx r
normal-sum (n_sum r) = r
normal-sum (n_neutral n) = elim n [ ]

-- the body of a normal universally quantified type is normal
pub normal-all : {ctx : List Kind} {k : Kind} {b : Ty} → Normal ctx (Ty.All k b) Kind.Star → Normal (k ∷ ctx) b Kind.Star
normal-all (n_all b) = b
normal-all (n_neutral n) = elim n [ ]

-- the body of a normal existentially quantified type is normal
pub normal-ex : {ctx : List Kind} {k : Kind} {b : Ty} → Normal ctx (Ty.Ex k b) Kind.Star → Normal (k ∷ ctx) b Kind.Star
normal-ex (n_ex b) = b
normal-ex (n_neutral n) = elim n [ ]

-- the body of a normal recursive type is normal
pub normal-mu : {ctx : List Kind} {b : Ty} → Normal ctx (Ty.Mu b) Kind.Star → Normal (Kind.Star ∷ ctx) b Kind.Star
normal-mu (n_mu b) = b
normal-mu (n_neutral n) = elim n [ ]

normal-part : {ctx : List Kind} {r : Row} {l : Label} {t : Ty} → Normals ctx r → HasPart r l t → Normal ctx t Kind.Star
normal-part n_end p = elim p [ ]
normal-part (n_more f t ts) HasPart.here = t
normal-part (n_more f t ts) (HasPart.there d p) = normal-part ts p

normal-result : {ctx : List Kind} (o : Op) → Normal ctx (result_type o) Kind.Star
normal-result Op.Less = n_bool
normal-result Op.Equal = n_bool
normal-result _ = n_int

mutual
  -- normal typing gives normal types
  pub typed-normal : {ctx : List Kind} {vars : List Ty} {e : Term} {t : Ty} → AllNormal ctx vars → Typed ctx vars e t → Normal ctx t Kind.Star
  typed-normal v (Typed.var h) = all-at v h
  typed-normal v Typed.int = n_int
  typed-normal v Typed.bool = n_bool
  typed-normal v Typed.text = n_text
  typed-normal v (Typed.lam n h) = n_arrow n (typed-normal (n, v) h)
  typed-normal v (Typed.call f a) = normal-to (typed-normal v f)
  typed-normal {vars = vars} v (Typed.ty_lam {ctx = ctx} {k = k} h) = n_all (typed-normal (all-shift ctx k vars v) h)
  typed-normal v (Typed.inst h n f) = f.0
  typed-normal v (Typed.fields h) = n_fields (typed-fields-normal v h)
  typed-normal v (Typed.get h p) = normal-part (normal-row (typed-normal v h)) p
  typed-normal v (Typed.pack u n f h) = u
  typed-normal v (Typed.unpack p n h) = n
  typed-normal v (Typed.if_ a b c) = typed-normal v b
  typed-normal v (Typed.arith {o = o} a b) = normal-result o
  typed-normal v (Typed.fix n m h) = n_arrow n m
  typed-normal v (Typed.inj n p h) = n
  typed-normal v (Typed.case h n hs) = n
  typed-normal v (Typed.roll n f h) = n
  typed-normal v (Typed.unroll h f) = f.0

  pub typed-fields-normal : {ctx : List Kind} {vars : List Ty} {f : TermRow} {r : Row} → AllNormal ctx vars → TypedFields ctx vars f r → Normals ctx r
  typed-fields-normal v TypedFields.end = n_end
  typed-fields-normal v (TypedFields.more h d hs) = n_more d (typed-normal v h) (typed-fields-normal v hs)

-- more term variables outside

at-more : {vars : List Ty} {n : ℕ} {t : Ty} (others : List Ty) → At vars n t → At (vars ++ others) n t
at-more others At.here = At.here
at-more others (At.there h) = At.there (at-more others h)

shift-append : (vars others : List Ty) → shift_all (vars ++ others) ≡ shift_all vars ++ shift_all others
shift-append [] others = refl
shift-append (t ∷ vars) others = ap (λ x. rename suc t ∷ x) (shift-append vars others)

mutual
  -- a typed term stays so with more term variables outside
  pub typed-more : {ctx : List Kind} {vars : List Ty} {e : Term} {t : Ty} (others : List Ty) → Typed ctx vars e t → Typed ctx (vars ++ others) e t
  typed-more others (Typed.var h) = Typed.var (at-more others h)
  typed-more others Typed.int = Typed.int
  typed-more others Typed.bool = Typed.bool
  typed-more others Typed.text = Typed.text
  typed-more others (Typed.lam n h) = Typed.lam n (typed-more others h)
  typed-more others (Typed.call f a) = Typed.call (typed-more others f) (typed-more others a)
  typed-more {vars = vars} others (Typed.ty_lam h) = Typed.ty_lam (recast (sym (shift-append vars others)) (typed-more (shift_all others) h))
  typed-more others (Typed.inst h n f) = Typed.inst (typed-more others h) n f
  typed-more others (Typed.fields h) = Typed.fields (typed-fields-more others h)
  typed-more others (Typed.get h p) = Typed.get (typed-more others h) p
  typed-more others (Typed.pack u n f h) = Typed.pack u n f (typed-more others h)
  typed-more {vars = vars} others (Typed.unpack {body = body} p n h) = Typed.unpack (typed-more others p) n (recast (ap (λ x. body ∷ x) (sym (shift-append vars others))) (typed-more (shift_all others) h))
  typed-more others (Typed.if_ a b c) = Typed.if_ (typed-more others a) (typed-more others b) (typed-more others c)
  typed-more others (Typed.arith a b) = Typed.arith (typed-more others a) (typed-more others b)
  typed-more others (Typed.fix n m h) = Typed.fix n m (typed-more others h)
  typed-more others (Typed.inj n p h) = Typed.inj n p (typed-more others h)
  typed-more others (Typed.case h n hs) = Typed.case (typed-more others h) n (typed-branches-more others hs)
  typed-more others (Typed.roll n f h) = Typed.roll n f (typed-more others h)
  typed-more others (Typed.unroll h f) = Typed.unroll (typed-more others h) f

  pub typed-fields-more : {ctx : List Kind} {vars : List Ty} {f : TermRow} {r : Row} (others : List Ty) → TypedFields ctx vars f r → TypedFields ctx (vars ++ others) f r
  typed-fields-more others TypedFields.end = TypedFields.end
  typed-fields-more others (TypedFields.more h d hs) = TypedFields.more (typed-more others h) d (typed-fields-more others hs)

  pub typed-branches-more : {ctx : List Kind} {vars : List Ty} {f : TermRow} {r : Row} {t : Ty} (others : List Ty) → TypedBranches ctx vars f r t → TypedBranches ctx (vars ++ others) f r t
  typed-branches-more others TypedBranches.none = TypedBranches.none
  typed-branches-more others (TypedBranches.branch h hs) = TypedBranches.branch (typed-more others h) (typed-branches-more others hs)
