-- Instances of terms, packs and what is made of them exist and are determined.
-- Main results: packs-one.
use Rattle.omega_types.proofs.BinderPuts.{forms-kinds, vars-kinds, rename-ex_over, normal-ex_over}
use Rattle.std.specs.Prelude.{ℕ, List, [], ◌∷◌, ◌≡◌}
use Rattle.std.proofs.Math.Path.{refl, sym, subst, ap, ◌∙◌}
use Rattle.omega_kinds.specs.Kind.{Kind}
use Rattle.omega_types.specs.Ty.{Ty}
use Rattle.omega_types.specs.Kinding.{HasKind}
use Rattle.omega_types.specs.Kinding.HasKind.{k_ex}
use Rattle.omega_types.specs.Normality.{Normal}
use Rattle.omega_types.specs.Conversion.Conv.{c_sym, c_trans}
use Rattle.omega_types.specs.Substitution.{rename, substitute, under, single, instantiate}
use Rattle.omega_types.specs.Normaliser.{normal}
use Rattle.omega_types.specs.Normalises.{NormalForm}
use Rattle.omega_types.specs.Binders.{extend, past, lifts, unders, raise, vars, ex_over, OfKinds, NormalForms}
use Rattle.omega_types.proofs.Preservation.{Substitutes, under-substitutes, single-substitutes, kind-substitute, normal-kind, normal-rename}
use Rattle.omega_types.proofs.Hereditary.{normal-gives}
use Rattle.omega_types.proofs.Readback.{unique_normal_forms}
use Rattle.omega_terms.specs.Term.{Term, TermRow}
use Rattle.omega_terms.specs.Shorthands.{Packs}
use Rattle.omega_terms.specs.Instance.{TyInstance, Instance, Instances}
use Rattle.omega_terms.proofs.InstanceLaws.{packs-same}
use Rattle.sig_definitions.specs.Verdict.{One}
use Rattle.omega_types.proofs.BinderLaws.{past-maps, ex_over-substitute}

-- instances

ty-total : {from mid : List Kind} {q : ℕ → Ty} {t n : Ty} {k : Kind} (to : List Kind) (s : ℕ → Ty) → TyInstance from mid q t k n → Substitutes from to s → (m : Ty) × TyInstance from to s t k m
ty-total {t = t} to s (TyInstance.made n f) h = (normal to (substitute s t), TyInstance.made n (normal-gives (kind-substitute s h (normal-kind n))))

mutual
  -- a term that has an instance has one at each substitution of types of the right kinds
  pub instance-total : {from mid : List Kind} {q : ℕ → Ty} {e d : Term} (to : List Kind) (s : ℕ → Ty) → Instance from mid q e d → Substitutes from to s → (c : Term) × Instance from to s e c
  instance-total to s (Instance.var {n = n}) h = (Term.Var n, Instance.var)
  instance-total to s (Instance.int {z = z}) h = (Term.Int z, Instance.int)
  instance-total to s (Instance.bool {b = b}) h = (Term.Bool b, Instance.bool)
  instance-total to s (Instance.text {x = x}) h = (Term.Text x, Instance.text)
  instance-total to s (Instance.lam t e) h = let u = ty-total to s t h in let d = instance-total to s e h in (Term.Lam u.0 d.0, Instance.lam u.1 d.1)
  instance-total to s (Instance.call f a) h = let u = instance-total to s f h in let d = instance-total to s a h in (Term.Call u.0 d.0, Instance.call u.1 d.1)
  instance-total to s (Instance.ty_lam {k = k} e) h = let d = instance-total (k ∷ to) (under s) e (under-substitutes k h) in (Term.TyLam k d.0, Instance.ty_lam d.1)
  instance-total to s (Instance.inst e t) h = let u = ty-total to s t h in let d = instance-total to s e h in (Term.Inst d.0 u.0, Instance.inst d.1 u.1)
  instance-total to s (Instance.fields f) h = let d = instances-total to s f h in (Term.Fields d.0, Instance.fields d.1)
  instance-total to s (Instance.get {l = l} e) h = let d = instance-total to s e h in (Term.Get d.0 l, Instance.get d.1)
  instance-total to s (Instance.pack t e u) h = let v = ty-total to s t h in let d = instance-total to s e h in let w = ty-total to s u h in (Term.Pack v.0 d.0 w.0, Instance.pack v.1 d.1 w.1)
  instance-total to s (Instance.unpack k p e) h = let u = instance-total to s p h in let d = instance-total (k ∷ to) (under s) e (under-substitutes k h) in (Term.Unpack u.0 d.0, Instance.unpack k u.1 d.1)
  instance-total to s (Instance.if_ a b c) h = let x = instance-total to s a h in let y = instance-total to s b h in let z = instance-total to s c h in (Term.If x.0 y.0 z.0, Instance.if_ x.1 y.1 z.1)
  instance-total to s (Instance.arith {o = o} a b) h = let x = instance-total to s a h in let y = instance-total to s b h in (Term.Arith o x.0 y.0, Instance.arith x.1 y.1)
  instance-total to s (Instance.fix t u e) h = let v = ty-total to s t h in let w = ty-total to s u h in let d = instance-total to s e h in (Term.Fix v.0 w.0 d.0, Instance.fix v.1 w.1 d.1)
  instance-total to s (Instance.inj {l = l} e t) h = let d = instance-total to s e h in let u = ty-total to s t h in (Term.Inj l d.0 u.0, Instance.inj d.1 u.1)
  instance-total to s (Instance.case e t f) h = let d = instance-total to s e h in let u = ty-total to s t h in let g = instances-total to s f h in (Term.Case d.0 u.0 g.0, Instance.case d.1 u.1 g.1)
  instance-total to s (Instance.roll e t) h = let d = instance-total to s e h in let u = ty-total to s t h in (Term.Roll d.0 u.0, Instance.roll d.1 u.1)
  instance-total to s (Instance.unroll e) h = let d = instance-total to s e h in (Term.Unroll d.0, Instance.unroll d.1)

  instances-total : {from mid : List Kind} {q : ℕ → Ty} {f g : TermRow} (to : List Kind) (s : ℕ → Ty) → Instances from mid q f g → Substitutes from to s → (c : TermRow) × Instances from to s f c
  instances-total to s Instances.end h = (TermRow.End, Instances.end)
  instances-total to s (Instances.more {l = l} e f) h = let d = instance-total to s e h in let u = instances-total to s f h in (TermRow.More l d.0 u.0, Instances.more d.1 u.1)

-- lists of types

forms-view-more : {ctx : List Kind} {t : Ty} {ts : List Ty} {k : Kind} {ks : List Kind} {ms : List Ty} → NormalForms ctx (t ∷ ts) (k ∷ ks) ms → (n : Ty) × (ns : List Ty) × NormalForm ctx t k n × NormalForms ctx ts ks ns × (ms ≡ n ∷ ns)
forms-view-more (NormalForms.next {n = n} {ns = ns} f fs) = (n, ns, f, fs, refl)

forms-view-none : {ctx : List Kind} {ts : List Ty} → NormalForms ctx [] [] ts → ts ≡ []
forms-view-none NormalForms.none = refl

-- types have at most one list of normal forms
pub forms-unique : {ctx : List Kind} {ts ns : List Ty} {ks : List Kind} → NormalForms ctx ts ks ns → (ms : List Ty) → NormalForms ctx ts ks ms → ms ≡ ns
forms-unique {ctx} NormalForms.none ms g = forms-view-none g
forms-unique {ctx} (NormalForms.next {n = n} {k = k} f fs) ms g =
    let w = forms-view-more g in
    let a : w.0 ≡ n = unique_normal_forms ctx w.0 n k w.2.0 f.0 (c_trans (c_sym w.2.1) f.1) in
    let b = forms-unique fs w.1 w.3 in
    w.4 ∙ (λ i. a i ∷ b i)

-- packs: types of the kinds of a type's quantifiers are packed one after the other, and the rest keeps its quantifiers

ex-body : {ctx : List Kind} {k : Kind} {b : Ty} → HasKind ctx (Ty.Ex k b) Kind.Star → HasKind (k ∷ ctx) b Kind.Star
ex-body (k_ex h) = h

packs-total : {ctx : List Kind} {ts : List Ty} {ks : List Kind} (e : Term) → OfKinds ctx ts ks → (v : Ty) → HasKind ctx (ex_over ks v) Kind.Star → (d : Term) × Packs ctx ts e (ex_over ks v) d
packs-total e OfKinds.none v w = (e, Packs.none)
packs-total {ctx} e (OfKinds.next {t = t} {ts = ts} {k = k} {ks = ks} h hs) v w =
    let f = normal-gives (kind-substitute (single t) (single-substitutes h) (ex-body w)) in
    let u = normal (extend ctx ks) (substitute (unders ks (single t)) v) in
    let same : normal ctx (instantiate (ex_over ks v) t) ≡ ex_over ks u = ap (normal ctx) (ex_over-substitute ks (single t) v) ∙ normal-ex_over ctx ks (substitute (unders ks (single t)) v) in
    let n : NormalForm ctx (instantiate (ex_over ks v) t) Kind.Star (ex_over ks u) = subst (λ n. NormalForm ctx (instantiate (ex_over ks v) t) Kind.Star n) same f in
    let r = packs-total e hs u (normal-kind n.0) in
    (Term.Pack t r.0 (Ty.Ex k (ex_over ks v)), Packs.next n r.1)

-- types of the right kinds are packed into a term in exactly one way
pub packs-one : {ctx : List Kind} {ts : List Ty} {ks : List Kind} (e : Term) (v : Ty) → OfKinds ctx ts ks → Normal ctx (ex_over ks v) Kind.Star → One (λ d. Packs ctx ts e (ex_over ks v) d)
packs-one e v h n = let p = packs-total e h v (normal-kind n) in (p.0, p.1, λ c q. sym (packs-same p.1 q))

-- the hidden types packed again under their own binders
pub repack-one : (ctx ks : List Kind) (e : Term) (v : Ty) → Normal ctx (ex_over ks v) Kind.Star → One (λ d. Packs (extend ctx ks) (vars ks) e (raise ks (ex_over ks v)) d)
repack-one ctx ks e v n =
    let same = rename-ex_over (past ks) ks v in
    subst (λ u. One (λ d. Packs (extend ctx ks) (vars ks) e u d)) (sym same)
    (packs-one e (rename (lifts ks (past ks)) v) (forms-kinds (vars-kinds ctx ks)) (subst (λ u. Normal (extend ctx ks) u Kind.Star) same (normal-rename (past ks) (past-maps ks ctx) n)))
