-- Instances compose.
-- Main results: instances_compose, types_compose.
use Rattle.std.specs.Prelude.{ℕ, List, ◌∷◌, ◌++◌, ◌≡◌, map}
use Rattle.std.proofs.Math.Path.{refl, sym, ap, subst, subst₂, ◌∙◌}
use Rattle.omega_kinds.specs.Kind.{Kind}
use Rattle.omega_types.specs.Ty.{Ty}
use Rattle.omega_types.specs.Substitution.{substitute, under}
use Rattle.omega_types.specs.Conversion.{Conv}
use Rattle.omega_types.specs.Conversion.Conv.{c_refl, c_sym, c_trans}
use Rattle.omega_types.specs.Normalises.{NormalForm}
use Rattle.omega_types.specs.Normaliser.{normal}
use Rattle.omega_types.specs.Binders.{extend, puts, NormalForms}
use Rattle.omega_types.proofs.Algebra.{substitute-substitute, under-under}
use Rattle.omega_types.proofs.Preservation.{Substitutes, Convertible, under-substitutes, under-convertible, kind-substitute, conv-substitute, substitute-convertible, normal-kind}
use Rattle.omega_types.proofs.Hereditary.{normal-gives}
use Rattle.omega_types.proofs.BinderPuts.{forms-kinds, puts-convertible, puts-append, substitute-puts}
use Rattle.omega_terms.specs.Term.{Term, TermRow}
use Rattle.omega_terms.specs.Instance.{TyInstance, Instance, Instances}
use Rattle.omega_terms.proofs.InstanceLaws.{instance-one}
use Rattle.sig_laws.proofs.Algebra.BinderLaws.{extend-append}
use Rattle.sig_laws.proofs.Algebra.Instances.{at-substitutes}
use Rattle.sig_premise_laws.proofs.Terms.{instance-total}
use Rattle.module_laws.specs.Together.{InstancesCompose, TypesCompose}

-- convertible substitutions have the same instances

type-conv : {from to : List Kind} {s : ℕ → Ty} {t n : Ty} {k : Kind} (q : ℕ → Ty) → Convertible from to s q → TyInstance from to s t k n → TyInstance from to q t k n
type-conv {s = s} q h (TyInstance.made a f) = TyInstance.made a (f.0, c_trans (c_sym (substitute-convertible s q h (normal-kind a))) f.1)

mutual
  pub instance-conv : {from to : List Kind} {s : ℕ → Ty} {e c : Term} (q : ℕ → Ty) → Convertible from to s q → Instance from to s e c → Instance from to q e c
  instance-conv q h Instance.var = Instance.var
  instance-conv q h Instance.int = Instance.int
  instance-conv q h Instance.bool = Instance.bool
  instance-conv q h Instance.text = Instance.text
  instance-conv q h (Instance.lam t a) = Instance.lam (type-conv q h t) (instance-conv q h a)
  instance-conv q h (Instance.call a b) = Instance.call (instance-conv q h a) (instance-conv q h b)
  instance-conv q h (Instance.ty_lam {k = k} a) = Instance.ty_lam (instance-conv (under q) (under-convertible k h) a)
  instance-conv q h (Instance.inst a t) = Instance.inst (instance-conv q h a) (type-conv q h t)
  instance-conv q h (Instance.fields a) = Instance.fields (instances-conv q h a)
  instance-conv q h (Instance.get a) = Instance.get (instance-conv q h a)
  instance-conv q h (Instance.pack t a u) = Instance.pack (type-conv q h t) (instance-conv q h a) (type-conv q h u)
  instance-conv q h (Instance.unpack k a b) = Instance.unpack k (instance-conv q h a) (instance-conv (under q) (under-convertible k h) b)
  instance-conv q h (Instance.if_ a b c) = Instance.if_ (instance-conv q h a) (instance-conv q h b) (instance-conv q h c)
  instance-conv q h (Instance.arith a b) = Instance.arith (instance-conv q h a) (instance-conv q h b)
  instance-conv q h (Instance.fix t u a) = Instance.fix (type-conv q h t) (type-conv q h u) (instance-conv q h a)
  instance-conv q h (Instance.inj a t) = Instance.inj (instance-conv q h a) (type-conv q h t)
  instance-conv q h (Instance.case a t b) = Instance.case (instance-conv q h a) (type-conv q h t) (instances-conv q h b)
  instance-conv q h (Instance.roll a t) = Instance.roll (instance-conv q h a) (type-conv q h t)
  instance-conv q h (Instance.unroll a) = Instance.unroll (instance-conv q h a)

  instances-conv : {from to : List Kind} {s : ℕ → Ty} {f g : TermRow} (q : ℕ → Ty) → Convertible from to s q → Instances from to s f g → Instances from to q f g
  instances-conv q h Instances.end = Instances.end
  instances-conv q h (Instances.more a b) = Instances.more (instance-conv q h a) (instances-conv q h b)

-- an instance at a composed substitution goes through one at the first

-- a normal form of the whole is one of the normal form of the inner part
pub form-after : {mid to : List Kind} {m n : Ty} {k : Kind} (s g : ℕ → Ty) (t : Ty) → Substitutes mid to g → NormalForm mid (substitute s t) k m → NormalForm to (substitute (λ i. substitute g (s i)) t) k n → NormalForm to (substitute g m) k n
form-after {to = to} {n = n} {k = k} s g t h f q = (q.0, c_trans (c_sym (conv-substitute g h f.1)) (subst (λ u. Conv to u n k) (sym (substitute-substitute g s t)) q.1))

-- q is g after s
abbrev pub After : (s g q : ℕ → Ty) → Type 0
After s g q = Path (ℕ → Ty) q (λ i. substitute g (s i))

under-after : (s g q : ℕ → Ty) → After s g q → After (under s) (under g) (under q)
under-after s g q e = ap under e ∙ sym (under-under g s)

type-through : {from to : List Kind} {q : ℕ → Ty} {t n : Ty} {k : Kind} (mid : List Kind) (s g : ℕ → Ty) → After s g q → Substitutes from mid s → Substitutes mid to g → TyInstance from to q t k n → (m : Ty) × TyInstance from mid s t k m × TyInstance mid to g m k n
type-through {to = to} {q = q} {t = t} {n = n} {k = k} mid s g e hs hg (TyInstance.made a r) =
    let f = normal-gives (kind-substitute s hs (normal-kind a)) in
    (normal mid (substitute s t), TyInstance.made a f, TyInstance.made f.0 (form-after s g t hg f (subst (λ p. NormalForm to (substitute p t) k n) e r)))

mutual
  through : {from to : List Kind} {q : ℕ → Ty} {e c : Term} (mid : List Kind) (s g : ℕ → Ty) → After s g q → Substitutes from mid s → Substitutes mid to g → Instance from to q e c → (d : Term) × Instance from mid s e d × Instance mid to g d c
  through mid s g p hs hg (Instance.var {n = n}) = (Term.Var n, Instance.var, Instance.var)
  through mid s g p hs hg (Instance.int {z = z}) = (Term.Int z, Instance.int, Instance.int)
  through mid s g p hs hg (Instance.bool {b = b}) = (Term.Bool b, Instance.bool, Instance.bool)
  through mid s g p hs hg (Instance.text {x = x}) = (Term.Text x, Instance.text, Instance.text)
  through mid s g p hs hg (Instance.lam t a) =
      let u = type-through mid s g p hs hg t in
      let d = through mid s g p hs hg a in
      (Term.Lam u.0 d.0, Instance.lam u.1 d.1, Instance.lam u.2 d.2)
  through mid s g p hs hg (Instance.call a b) =
      let u = through mid s g p hs hg a in
      let d = through mid s g p hs hg b in
      (Term.Call u.0 d.0, Instance.call u.1 d.1, Instance.call u.2 d.2)
  through mid s g p hs hg (Instance.ty_lam {s = q} {k = k} a) =
      let d = through (k ∷ mid) (under s) (under g) (under-after s g q p) (under-substitutes k hs) (under-substitutes k hg) a in
      (Term.TyLam k d.0, Instance.ty_lam d.1, Instance.ty_lam d.2)
  through mid s g p hs hg (Instance.inst a t) =
      let d = through mid s g p hs hg a in
      let u = type-through mid s g p hs hg t in
      (Term.Inst d.0 u.0, Instance.inst d.1 u.1, Instance.inst d.2 u.2)
  through mid s g p hs hg (Instance.fields a) = let d = throughs mid s g p hs hg a in (Term.Fields d.0, Instance.fields d.1, Instance.fields d.2)
  through mid s g p hs hg (Instance.get {l = l} a) = let d = through mid s g p hs hg a in (Term.Get d.0 l, Instance.get d.1, Instance.get d.2)
  through mid s g p hs hg (Instance.pack t a u) =
      let v = type-through mid s g p hs hg t in
      let d = through mid s g p hs hg a in
      let w = type-through mid s g p hs hg u in
      (Term.Pack v.0 d.0 w.0, Instance.pack v.1 d.1 w.1, Instance.pack v.2 d.2 w.2)
  through mid s g p hs hg (Instance.unpack {s = q} k a b) =
      let u = through mid s g p hs hg a in
      let d = through (k ∷ mid) (under s) (under g) (under-after s g q p) (under-substitutes k hs) (under-substitutes k hg) b in
      (Term.Unpack u.0 d.0, Instance.unpack k u.1 d.1, Instance.unpack k u.2 d.2)
  through mid s g p hs hg (Instance.if_ a b c) =
      let x = through mid s g p hs hg a in
      let y = through mid s g p hs hg b in
      let z = through mid s g p hs hg c in
      (Term.If x.0 y.0 z.0, Instance.if_ x.1 y.1 z.1, Instance.if_ x.2 y.2 z.2)
  through mid s g p hs hg (Instance.arith {o = o} a b) =
      let x = through mid s g p hs hg a in
      let y = through mid s g p hs hg b in
      (Term.Arith o x.0 y.0, Instance.arith x.1 y.1, Instance.arith x.2 y.2)
  through mid s g p hs hg (Instance.fix t u a) =
      let v = type-through mid s g p hs hg t in
      let w = type-through mid s g p hs hg u in
      let d = through mid s g p hs hg a in
      (Term.Fix v.0 w.0 d.0, Instance.fix v.1 w.1 d.1, Instance.fix v.2 w.2 d.2)
  through mid s g p hs hg (Instance.inj {l = l} a t) =
      let d = through mid s g p hs hg a in
      let u = type-through mid s g p hs hg t in
      (Term.Inj l d.0 u.0, Instance.inj d.1 u.1, Instance.inj d.2 u.2)
  through mid s g p hs hg (Instance.case a t b) =
      let d = through mid s g p hs hg a in
      let u = type-through mid s g p hs hg t in
      let r = throughs mid s g p hs hg b in
      (Term.Case d.0 u.0 r.0, Instance.case d.1 u.1 r.1, Instance.case d.2 u.2 r.2)
  through mid s g p hs hg (Instance.roll a t) =
      let d = through mid s g p hs hg a in
      let u = type-through mid s g p hs hg t in
      (Term.Roll d.0 u.0, Instance.roll d.1 u.1, Instance.roll d.2 u.2)
  through mid s g p hs hg (Instance.unroll a) = let d = through mid s g p hs hg a in (Term.Unroll d.0, Instance.unroll d.1, Instance.unroll d.2)

  throughs : {from to : List Kind} {q : ℕ → Ty} {e c : TermRow} (mid : List Kind) (s g : ℕ → Ty) → After s g q → Substitutes from mid s → Substitutes mid to g → Instances from to q e c → (d : TermRow) × Instances from mid s e d × Instances mid to g d c
  throughs mid s g p hs hg Instances.end = (TermRow.End, Instances.end, Instances.end)
  throughs mid s g p hs hg (Instances.more {l = l} a b) =
      let d = through mid s g p hs hg a in
      let r = throughs mid s g p hs hg b in
      (TermRow.More l d.0 r.0, Instances.more d.1 r.1, Instances.more d.2 r.2)

pub instance-through : {from to : List Kind} {e c : Term} (mid : List Kind) (s g : ℕ → Ty) → Substitutes from mid s → Substitutes mid to g → Instance from to (λ i. substitute g (s i)) e c → (d : Term) × Instance from mid s e d × Instance mid to g d c
instance-through mid s g hs hg a = through mid s g refl hs hg a

-- so one after the other is at once
pub instance-composed : {from mid to : List Kind} {s g : ℕ → Ty} {e d c : Term} → Substitutes from mid s → Substitutes mid to g → Instance from mid s e d → Instance mid to g d c → Instance from to (λ i. substitute g (s i)) e c
instance-composed {from} {mid} {to} {s} {g} {e} {d} {c} hs hg a b =
    let w = instance-total to (λ i. substitute g (s i)) a (λ i k x. kind-substitute g hg (hs i k x)) in
    let v = instance-through mid s g hs hg w.1 in
    let p : v.0 ≡ d = instance-one hs v.1 a in
    let q : w.0 ≡ c = instance-one hg (subst (λ x. Instance mid to g x w.0) p v.2) b in
    subst (Instance from to (λ i. substitute g (s i)) e) q w.1

-- an instance at the second substitution of an instance at the first is an instance at both composed, and the other way round
pub instances_compose : InstancesCompose
instances_compose from mid to s g e c hs hg = (λ o. instance-composed hs hg o.1 o.2, λ a. instance-through mid s g hs hg a)

-- types for variables under those of other variables

-- to put types in, and then f, is convertible to putting in, beside f, the normal forms that these types have under f
pub puts-through : {inner ctx js : List Kind} {ns : List Ty} (f : ℕ → Ty) (ts : List Ty) → Substitutes inner ctx f → NormalForms ctx (map (substitute f) ts) js ns → Convertible (extend inner js) ctx (λ i. substitute f (puts ts Ty.Var i)) (puts ns f)
puts-through {inner} {ctx} {js} {ns} f ts h n = subst (λ q. Convertible (extend inner js) ctx q (puts ns f)) (sym (substitute-puts f ts Ty.Var)) (puts-convertible n (λ i k x. c_refl (h i k x)))

conv-back : {from to : List Kind} {s q : ℕ → Ty} → Convertible from to s q → Convertible from to q s
conv-back h i k x = c_sym (h i k x)

-- so an instance at f and these normal forms is an instance at f of an instance at the types themselves
pub types-through : {inner ctx js : List Kind} {f : ℕ → Ty} {ts ns : List Ty} {e c : Term} → Substitutes inner ctx f → NormalForms inner ts js ts → NormalForms ctx (map (substitute f) ts) js ns
    → Instance (extend inner js) ctx (puts ns f) e c
    → (d : Term) × Instance (extend inner js) inner (puts ts Ty.Var) e d × Instance inner ctx f d c
types-through {inner} {f = f} {ts = ts} h t n a = instance-through inner (puts ts Ty.Var) f (at-substitutes (forms-kinds t)) h (instance-conv (λ i. substitute f (puts ts Ty.Var i)) (conv-back (puts-through f ts h n)) a)

pub types-composed : {inner ctx js : List Kind} {f : ℕ → Ty} {ts ns : List Ty} {e d c : Term} → Substitutes inner ctx f → NormalForms inner ts js ts → NormalForms ctx (map (substitute f) ts) js ns
    → Instance (extend inner js) inner (puts ts Ty.Var) e d → Instance inner ctx f d c
    → Instance (extend inner js) ctx (puts ns f) e c
types-composed {f = f} {ts = ts} {ns = ns} h t n a b = instance-conv (puts ns f) (puts-through f ts h n) (instance-composed (at-substitutes (forms-kinds t)) h a b)

-- types put in one after the other come to the same as all of them put in at once
pub types_compose : TypesCompose
types_compose ctx ks js ws ts ns e c w t n = (to-whole, to-parts)
  where
    put : Substitutes (extend ctx ks) ctx (puts ws Ty.Var)
    put = at-substitutes (forms-kinds w)

    to-whole : ((d : Term) × Instance (extend (extend ctx ks) js) (extend ctx ks) (puts ts Ty.Var) e d × Instance (extend ctx ks) ctx (puts ws Ty.Var) d c) → Instance (extend ctx (ks ++ js)) ctx (puts (ws ++ ns) Ty.Var) e c
    to-whole o = subst₂ (λ from q. Instance from ctx q e c) (sym (extend-append ks js ctx)) (sym (puts-append ws ns Ty.Var)) (types-composed put t n o.1 o.2)

    to-parts : Instance (extend ctx (ks ++ js)) ctx (puts (ws ++ ns) Ty.Var) e c → (d : Term) × Instance (extend (extend ctx ks) js) (extend ctx ks) (puts ts Ty.Var) e d × Instance (extend ctx ks) ctx (puts ws Ty.Var) d c
    to-parts a = types-through put t n (subst₂ (λ from q. Instance from ctx q e c) (extend-append ks js ctx) (puts-append ws ns Ty.Var) a)
