-- Normal types put into a term keep its normal typing.
-- Main results: typed-instance, all-shifts, forms-puts.
use Rattle.std.specs.Prelude.{ℕ, suc, List, [], ◌∷◌, map, ◌≡◌}
use Rattle.std.proofs.Math.Path.{refl, sym, ◌∙◌, ap, ap₂, subst}
use Rattle.omega_kinds.specs.Kind.{Kind}
use Rattle.omega_kinds.specs.declared.label.Label.{Label}
use Rattle.omega_types.specs.Ty.{Ty, Row}
use Rattle.omega_types.specs.Substitution.{rename, substitute, substitute_row, under, instantiate}
use Rattle.omega_types.specs.Kinding.{Lookup, HasKind, Fresh, here, there}
use Rattle.omega_types.specs.Kinding.HasKind.{k_var}
use Rattle.omega_types.specs.Conversion.{Conv}
use Rattle.omega_types.specs.Conversion.Conv.{c_sym, c_trans, c_beta, c_lam, c_apply}
use Rattle.omega_types.specs.Normality.{Normal, Normals, Neutral}
use Rattle.omega_types.specs.Normality.Normal.{n_lam, n_int, n_bool, n_text, n_arrow, n_fields, n_sum, n_all, n_ex, n_mu, n_neutral}
use Rattle.omega_types.specs.Normality.Normals.{n_end, n_more}
use Rattle.omega_types.specs.Normality.Neutral.{n_var, n_apply}
use Rattle.omega_types.specs.Normalises.{NormalForm}
use Rattle.omega_types.specs.Normaliser.{normal, normal_row, beta}
use Rattle.omega_types.specs.Binders.{extend, past, raise, puts, front}
use Rattle.omega_types.proofs.Algebra.{rename-rename, rename-id, substitute-instantiate, substitute-weaken, substitute-rename, substitute-id}
use Rattle.omega_types.proofs.Preservation.{Substitutes, maps-suc, kind-rename, under-substitutes, kind-substitute, conv-kinds, conv-substitute, normal-kind}
use Rattle.omega_types.proofs.Hereditary.{normal-gives}
use Rattle.omega_types.proofs.LawProofs.{normal_of_normal, normal_of_rename}
use Rattle.omega_types.proofs.BinderPuts.{form-is, Fits}
use Rattle.omega_terms.specs.declared.op.Op.{Op}
use Rattle.omega_terms.specs.Term.{Term, TermRow}
use Rattle.omega_terms.specs.Typing.{At, HasPart, shift_all, result_type}
use Rattle.omega_terms.specs.Instance.{TyInstance, Instance, Instances}
use Rattle.omega_terms.proofs.NormalTyping.{Typed, TypedFields, TypedBranches, cast, recast, AllNormal, all-shift, typed-normal, normal-sum, normal-all, normal-ex, normal-mu}

-- the normal form of a type with types put in
abbrev pub form_at : List Kind → (ℕ → Ty) → Ty → Ty
form_at ctx s t = normal ctx (substitute s t)

-- The kind of a variable that an open binds is not written in a term. So a term is read in two contexts, and what is
-- put in for a variable has the same normal form in both where the variable has the same kind in both.
abbrev pub Tied : (from from' to to' : List Kind) → (ℕ → Ty) → Type 0
Tied from from' to to' s = (i : ℕ) (k : Kind) → Lookup from i k → Lookup from' i k → HasKind to (s i) k × HasKind to' (s i) k × (normal to (s i) ≡ normal to' (s i))

-- substitutions with the same normal forms in two contexts have them below one more binder
pub tied-under : {from from' to to' : List Kind} {s : ℕ → Ty} (j j' : Kind) → Tied from from' to to' s → Tied (j ∷ from) (j' ∷ from') (j ∷ to) (j' ∷ to') (under s)
tied-under j j' h _ _ here here = (k_var here, k_var here, refl)
tied-under {to = to} {to' = to'} {s = s} j j' h _ _ (there {k = k} {i = i} x) (there y) =
    let g = h i k x y in
    (kind-rename suc (maps-suc j to) g.0, kind-rename suc (maps-suc j' to') g.1, normal_of_rename to (j ∷ to) suc (s i) k (maps-suc j to) g.0 ∙ (ap (rename suc) g.2 ∙ sym (normal_of_rename to' (j' ∷ to') suc (s i) k (maps-suc j' to') g.1)))

-- a type that is normal in both contexts has one kind and one normal form with the types put in

mutual
  -- a type that is normal in two contexts, with substitutions tied, has one normal form in both
  pub coinc : {from from' to to' : List Kind} {s : ℕ → Ty} {t : Ty} {k l : Kind} → Tied from from' to to' s → Normal from t k → Normal from' t l → (k ≡ l) × (form_at to s t ≡ form_at to' s t)
  coinc h (n_lam {k = k} b) (n_lam c) = let r = coinc (tied-under k k h) b c in (ap (Kind.Arrow k) r.0, ap (Ty.Lam k) r.1)
  coinc h (n_lam b) (n_neutral c) = elim c [ ]
  coinc h n_int n_int = (refl, refl)
  coinc h n_int (n_neutral c) = elim c [ ]
  coinc h n_bool n_bool = (refl, refl)
  coinc h n_bool (n_neutral c) = elim c [ ]
  coinc h n_text n_text = (refl, refl)
  coinc h n_text (n_neutral c) = elim c [ ]
  coinc h (n_arrow a b) (n_arrow c d) = (refl, ap₂ Ty.Arrow (coinc h a c).1 (coinc h b d).1)
  coinc h (n_arrow a b) (n_neutral c) = elim c [ ]
  coinc h (n_fields r) (n_fields q) = (refl, ap Ty.Fields (coinc-row h r q))
  coinc h (n_fields r) (n_neutral c) = elim c [ ]
  coinc h (n_sum r) (n_sum q) = (refl, ap Ty.Sum (coinc-row h r q))
  coinc h (n_sum r) (n_neutral c) = elim c [ ]
  coinc h (n_all {k = k} b) (n_all c) = (refl, ap (Ty.All k) (coinc (tied-under k k h) b c).1)
  coinc h (n_all b) (n_neutral c) = elim c [ ]
  coinc h (n_ex {k = k} b) (n_ex c) = (refl, ap (Ty.Ex k) (coinc (tied-under k k h) b c).1)
  coinc h (n_ex b) (n_neutral c) = elim c [ ]
  coinc h (n_mu b) (n_mu c) = (refl, ap Ty.Mu (coinc (tied-under Kind.Star Kind.Star h) b c).1)
  coinc h (n_mu b) (n_neutral c) = elim c [ ]
  coinc h (n_neutral n) (n_neutral m) = (refl, coinc-neutral h n m)
  coinc h (n_neutral n) (n_lam c) = elim n [ ]
  coinc h (n_neutral n) n_int = elim n [ ]
  coinc h (n_neutral n) n_bool = elim n [ ]
  coinc h (n_neutral n) n_text = elim n [ ]
  coinc h (n_neutral n) (n_arrow c d) = elim n [ ]
  coinc h (n_neutral n) (n_fields q) = elim n [ ]
  coinc h (n_neutral n) (n_sum q) = elim n [ ]
  coinc h (n_neutral n) (n_all c) = elim n [ ]
  coinc h (n_neutral n) (n_ex c) = elim n [ ]
  coinc h (n_neutral n) (n_mu c) = elim n [ ]

  coinc-row : {from from' to to' : List Kind} {s : ℕ → Ty} {r : Row} → Tied from from' to to' s → Normals from r → Normals from' r → normal_row to (substitute_row s r) ≡ normal_row to' (substitute_row s r)
  coinc-row h n_end n_end = refl
  coinc-row h (n_more {l = l} f t ts) (n_more g u us) = ap₂ (Row.More l) (coinc h t u).1 (coinc-row h ts us)

  coinc-neutral : {from from' to to' : List Kind} {s : ℕ → Ty} {t : Ty} {k : Kind} → Tied from from' to to' s → Neutral from t k → Neutral from' t k → form_at to s t ≡ form_at to' s t
  coinc-neutral h (n_var {i = i} {k = k} x) (n_var y) = (h i k x y).2
  coinc-neutral {from' = from'} h (n_apply {k = k} {l = l} {f = f} n a) (n_apply m b) =
      let r = coinc h a b in
      ap₂ beta (coinc-neutral h n (subst (λ j. Neutral from' f (Kind.Arrow j l)) (sym r.0) m)) r.1

tied-form : {from from' to to' : List Kind} {s : ℕ → Ty} {t n : Ty} {k l : Kind} → Tied from from' to to' s → Normal from t k → TyInstance from' to' s t l n → n ≡ form_at to s t
tied-form h a (TyInstance.made b f) = form-is f ∙ sym (coinc h a b).1

-- normal forms of substitutions

pub form-normal : {from to : List Kind} {s : ℕ → Ty} {t : Ty} {k : Kind} → Substitutes from to s → HasKind from t k → NormalForm to (substitute s t) k (form_at to s t)
form-normal {s = s} h g = normal-gives (kind-substitute s h g)

-- putting convertible arguments into convertible bodies gives convertible types
pub conv-instantiate : {ctx : List Kind} {a b s t : Ty} {k l : Kind} → Conv ctx a b k → Conv (k ∷ ctx) s t l → Conv ctx (instantiate s a) (instantiate t b) l
conv-instantiate c d =
    let p = conv-kinds c in
    let q = conv-kinds d in
    c_trans (c_sym (c_beta q.0 p.0)) (c_trans (c_apply (c_lam d) c) (c_beta q.1 p.1))

form-instantiate : {from to : List Kind} {n : Ty} (s : ℕ → Ty) (body t : Ty) (k : Kind) → Substitutes from to s → Normal (k ∷ from) body Kind.Star → Normal from t k → NormalForm from (instantiate body t) Kind.Star n → NormalForm to (instantiate (form_at (k ∷ to) (under s) body) (form_at to s t)) Kind.Star (form_at to s n)
form-instantiate {to = to} {n = n} s body t k h b a f =
    let p = form-normal h (normal-kind a) in
    let q = form-normal (under-substitutes k h) (normal-kind b) in
    let r = form-normal h (normal-kind f.0) in
    let c : Conv to (instantiate (substitute (under s) body) (substitute s t)) (substitute s n) Kind.Star = subst (λ u. Conv to u (substitute s n) Kind.Star) (substitute-instantiate s body t) (conv-substitute s h f.1) in
    (r.0, c_trans (c_sym (conv-instantiate p.1 q.1)) (c_trans c r.1))

pub form-shift : {from to : List Kind} {s : ℕ → Ty} {t : Ty} {l : Kind} (k : Kind) → Substitutes from to s → HasKind from t l → form_at (k ∷ to) (under s) (rename suc t) ≡ rename suc (form_at to s t)
form-shift {from} {to} {s} {t} {l} k h g = ap (normal (k ∷ to)) (substitute-weaken s t) ∙ normal_of_rename to (k ∷ to) suc (substitute s t) l (maps-suc k to) (kind-substitute s h g)

pub forms-shift : {from to : List Kind} {s : ℕ → Ty} (k : Kind) (vars : List Ty) → Substitutes from to s → AllNormal from vars → map (form_at (k ∷ to) (under s)) (shift_all vars) ≡ shift_all (map (form_at to s) vars)
forms-shift k [] h v = refl
forms-shift k (t ∷ vars) h v = ap₂ ◌∷◌ (form-shift k h (normal-kind v.0)) (forms-shift k vars h v.1)

at-map : {vars : List Ty} {n : ℕ} {t : Ty} (f : Ty → Ty) → At vars n t → At (map f vars) n (f t)
at-map f At.here = At.here
at-map f (At.there h) = At.there (at-map f h)

-- the part at a label of a record type whose parts are substituted and normalised
pub form-part : {r : Row} {l : Label} {t : Ty} (to : List Kind) (s : ℕ → Ty) → HasPart r l t → HasPart (normal_row to (substitute_row s r)) l (form_at to s t)
form-part to s HasPart.here = HasPart.here
form-part to s (HasPart.there d h) = HasPart.there d (form-part to s h)

form-fresh : (to : List Kind) (s : ℕ → Ty) (l : Label) (r : Row) → Fresh l r → Fresh l (normal_row to (substitute_row s r))
form-fresh to s l Row.End f = tt
form-fresh to s l (Row.More m t r) f = (f.0, form-fresh to s l r f.1)

form-result : (to : List Kind) (s : ℕ → Ty) (o : Op) → result_type o ≡ form_at to s (result_type o)
form-result to s Op.Less = refl
form-result to s Op.Equal = refl
form-result to s _ = refl

mutual
  -- a typed term at types, each in normal form, has the normal form of its type at them
  pub typed-instance : {from to from' to' : List Kind} {vars : List Ty} {s : ℕ → Ty} {e d : Term} {t : Ty} → Tied from from' to to' s → Substitutes from to s → AllNormal from vars → Typed from vars e t → Instance from' to' s e d → Typed to (map (form_at to s) vars) d (form_at to s t)
  typed-instance {to = to} {s = s} h g v (Typed.var a) Instance.var = Typed.var (at-map (form_at to s) a)
  typed-instance h g v Typed.int Instance.int = Typed.int
  typed-instance h g v Typed.bool Instance.bool = Typed.bool
  typed-instance h g v Typed.text Instance.text = Typed.text
  typed-instance {to = to} {vars = vars} {s = s} h g v (Typed.lam {t = t} {u = u} n a) (Instance.lam {d = d} i b) = subst (λ x. Typed to (map (form_at to s) vars) (Term.Lam x d) (Ty.Arrow (form_at to s t) (form_at to s u))) (sym (tied-form h n i)) (Typed.lam (form-normal g (normal-kind n)).0 (typed-instance h g (n, v) a b))
  typed-instance h g v (Typed.call f a) (Instance.call b c) = Typed.call (typed-instance h g v f b) (typed-instance h g v a c)
  typed-instance {from = from} {vars = vars} h g v (Typed.ty_lam {k = k} a) (Instance.ty_lam b) = Typed.ty_lam (recast (forms-shift k vars g v) (typed-instance (tied-under k k h) (under-substitutes k g) (all-shift from k vars v) a b))
  typed-instance {to = to} {vars = vars} {s = s} h g v (Typed.inst {k = k} {t = t} {n = n} {body = body} a m f) (Instance.inst {d = d} b i) = subst (λ x. Typed to (map (form_at to s) vars) (Term.Inst d x) (form_at to s n)) (sym (tied-form h m i)) (Typed.inst (typed-instance h g v a b) (form-normal g (normal-kind m)).0 (form-instantiate s body t k g (normal-all (typed-normal v a)) m f))
  typed-instance h g v (Typed.fields a) (Instance.fields b) = Typed.fields (typed-instances h g v a b)
  typed-instance {to = to} {s = s} h g v (Typed.get a p) (Instance.get b) = Typed.get (typed-instance h g v a b) (form-part to s p)
  typed-instance {to = to} {vars = vars} {s = s} h g v (Typed.pack {k = k} {t = t} {n = n} {body = body} u m f a) (Instance.pack {n = n'} {d = d} i b j) =
      let U = form_at to s (Ty.Ex k body) in
      let p : Typed to (map (form_at to s) vars) (Term.Pack (form_at to s t) d U) U = Typed.pack (form-normal g (normal-kind u)).0 (form-normal g (normal-kind m)).0 (form-instantiate s body t k g (normal-ex u) m f) (typed-instance h g v a b) in
      subst (λ x. Typed to (map (form_at to s) vars) (Term.Pack n' d x) U) (sym (tied-form h u j))
      (subst (λ x. Typed to (map (form_at to s) vars) (Term.Pack x d U) U) (sym (tied-form h m i)) p)
  typed-instance {from = from} {to = to} {vars = vars} {s = s} h g v (Typed.unpack {k = k} {t = t} {body = body} p n a) (Instance.unpack k' q b) =
      let r = typed-instance (tied-under k k' h) (under-substitutes k g) (normal-ex (typed-normal v p), all-shift from k vars v) a b in
      Typed.unpack (typed-instance h g v p q) (form-normal g (normal-kind n)).0 (cast (form-shift k g (normal-kind n)) (recast (ap (λ x. form_at (k ∷ to) (under s) body ∷ x) (forms-shift k vars g v)) r))
  typed-instance h g v (Typed.if_ a b c) (Instance.if_ x y z) = Typed.if_ (typed-instance h g v a x) (typed-instance h g v b y) (typed-instance h g v c z)
  typed-instance {to = to} {s = s} h g v (Typed.arith {o = o} a b) (Instance.arith x y) = cast (form-result to s o) (Typed.arith (typed-instance h g v a x) (typed-instance h g v b y))
  typed-instance {to = to} {vars = vars} {s = s} h g v (Typed.fix {t = t} {u = u} n m a) (Instance.fix {n = n'} {d = d} i j b) =
      let T = Ty.Arrow (form_at to s t) (form_at to s u) in
      let p : Typed to (map (form_at to s) vars) (Term.Fix (form_at to s t) (form_at to s u) d) T = Typed.fix (form-normal g (normal-kind n)).0 (form-normal g (normal-kind m)).0 (typed-instance h g (n, (n_arrow n m, v)) a b) in
      subst (λ x. Typed to (map (form_at to s) vars) (Term.Fix n' x d) T) (sym (tied-form h m j))
      (subst (λ x. Typed to (map (form_at to s) vars) (Term.Fix x (form_at to s u) d) T) (sym (tied-form h n i)) p)
  typed-instance {to = to} {vars = vars} {s = s} h g v (Typed.inj {r = r} n p a) (Instance.inj {l = l} {d = d} b i) =
      let U = form_at to s (Ty.Sum r) in
      subst (λ x. Typed to (map (form_at to s) vars) (Term.Inj l d x) U) (sym (tied-form h n i))
      (Typed.inj (form-normal g (normal-kind n)).0 (form-part to s p) (typed-instance h g v a b))
  typed-instance {to = to} {vars = vars} {s = s} h g v (Typed.case {t = t} a n cs) (Instance.case {d = d} {g = q} b i bs) =
      subst (λ x. Typed to (map (form_at to s) vars) (Term.Case d x q) (form_at to s t)) (sym (tied-form h n i))
      (Typed.case (typed-instance h g v a b) (form-normal g (normal-kind n)).0 (typed-branch-instances h g v (normal-sum (typed-normal v a)) cs bs))
  typed-instance {to = to} {vars = vars} {s = s} h g v (Typed.roll {body = body} u f a) (Instance.roll {d = d} b i) =
      let U = form_at to s (Ty.Mu body) in
      subst (λ x. Typed to (map (form_at to s) vars) (Term.Roll d x) U) (sym (tied-form h u i))
      (Typed.roll (form-normal g (normal-kind u)).0 (form-instantiate s body (Ty.Mu body) Kind.Star g (normal-mu u) u f) (typed-instance h g v a b))
  typed-instance {s = s} h g v (Typed.unroll {body = body} a f) (Instance.unroll b) =
      let u = typed-normal v a in
      Typed.unroll (typed-instance h g v a b) (form-instantiate s body (Ty.Mu body) Kind.Star g (normal-mu u) u f)

  pub typed-instances : {from to from' to' : List Kind} {vars : List Ty} {s : ℕ → Ty} {f q : TermRow} {r : Row} → Tied from from' to to' s → Substitutes from to s → AllNormal from vars → TypedFields from vars f r → Instances from' to' s f q → TypedFields to (map (form_at to s) vars) q (normal_row to (substitute_row s r))
  typed-instances h g v TypedFields.end Instances.end = TypedFields.end
  typed-instances {to = to} {s = s} h g v (TypedFields.more {l = l} {r = r} a d others) (Instances.more b bs) = TypedFields.more (typed-instance h g v a b) (form-fresh to s l r d) (typed-instances h g v others bs)

  -- each branch stands under one more term variable, whose type is normal
  pub typed-branch-instances : {from to from' to' : List Kind} {vars : List Ty} {s : ℕ → Ty} {f q : TermRow} {r : Row} {t : Ty} → Tied from from' to to' s → Substitutes from to s → AllNormal from vars → Normals from r → TypedBranches from vars f r t → Instances from' to' s f q → TypedBranches to (map (form_at to s) vars) q (normal_row to (substitute_row s r)) (form_at to s t)
  typed-branch-instances h g v n_end TypedBranches.none Instances.end = TypedBranches.none
  typed-branch-instances h g v (n_more d n ns) (TypedBranches.branch a others) (Instances.more b bs) = TypedBranches.branch (typed-instance h g (n, v) a b) (typed-branch-instances h g v ns others bs)

-- a substitution of types of the right kinds has the same normal forms as itself
pub tied-self : {from to : List Kind} {s : ℕ → Ty} → Substitutes from to s → Tied from from to to s
tied-self h i k x y = (h i k x, h i k x, refl)

-- the types of term variables under binders

-- the types of term variables, shifted past each of a list of binders
abbrev pub shifts : List Kind → List Ty → List Ty
shifts [] vars = vars
shifts (k ∷ ks) vars = shifts ks (shift_all vars)

-- normal types of term variables stay normal when they are shifted past binders
pub all-shifts : (ctx ks : List Kind) (vars : List Ty) → AllNormal ctx vars → AllNormal (extend ctx ks) (shifts ks vars)
all-shifts ctx [] vars h = h
all-shifts ctx (k ∷ ks) vars h = all-shifts (k ∷ ctx) ks (shift_all vars) (all-shift ctx k vars h)

forms-front : (to : List Kind) (t : Ty) (s : ℕ → Ty) (vars : List Ty) → map (form_at to (front t s)) (shift_all vars) ≡ map (form_at to s) vars
forms-front to t s [] = refl
forms-front to t s (u ∷ vars) = ap₂ ◌∷◌ (ap (normal to) (substitute-rename (front t s) suc u)) (forms-front to t s vars)

-- types of term variables from outside binders do not change where types are put in for the binders' variables
pub forms-puts : {ts : List Ty} {ks : List Kind} (to : List Kind) (s : ℕ → Ty) (vars : List Ty) → Fits ts ks → map (form_at to (puts ts s)) (shifts ks vars) ≡ map (form_at to s) vars
forms-puts to s vars Fits.none = refl
forms-puts to s vars (Fits.next {t = t} f) = forms-puts to (front t s) (shift_all vars) f ∙ forms-front to t s vars

-- normal types do not change under the identity substitution, normalised
pub forms-stay : (ctx : List Kind) (vars : List Ty) → AllNormal ctx vars → map (form_at ctx Ty.Var) vars ≡ vars
forms-stay ctx [] h = refl
forms-stay ctx (t ∷ vars) h = ap₂ ◌∷◌ (ap (normal ctx) (substitute-id t) ∙ normal_of_normal ctx t Kind.Star h.0) (forms-stay ctx vars h.1)

-- shifting the types of term variables past binders, one after the other, raises each
pub shifts-raise : (ks : List Kind) (vars : List Ty) → shifts ks vars ≡ map (raise ks) vars
shifts-raise [] [] = refl
shifts-raise [] (t ∷ vars) = ap₂ ◌∷◌ (sym (rename-id t)) (shifts-raise [] vars)
shifts-raise (k ∷ ks) vars = shifts-raise ks (shift_all vars) ∙ go vars
  where
    go : (vars : List Ty) → map (raise ks) (shift_all vars) ≡ map (raise (k ∷ ks)) vars
    go [] = refl
    go (t ∷ vars) = ap₂ ◌∷◌ (rename-rename (past ks) suc t) (go vars)
