-- A sequence of good modules is good, and so is the end of a structure.
-- Main results: seq-ok.
use Rattle.std.specs.Prelude.{ℕ, List, [], ◌∷◌, ◌++◌}
use Rattle.std.proofs.Math.Path.{refl, sym, ◌∙◌, subst}
use Rattle.omega_kinds.specs.Kind.{Kind}
use Rattle.omega_kinds.specs.declared.effect.Effect.{Effect}
use Rattle.omega_kinds.specs.declared.effect.Effect.TheVariants.{Pure, Impure}
use Rattle.omega_types.specs.Ty.{Ty, lift}
use Rattle.omega_types.specs.Substitution.{rename, under}
use Rattle.omega_types.specs.Normality.{Normal}
use Rattle.omega_types.specs.Normalises.{Maps}
use Rattle.omega_types.specs.Binders.{extend, past, puts}
use Rattle.omega_types.proofs.Algebra.{lift-id, under-vars}
use Rattle.omega_types.proofs.Preservation.{lift-maps, normal-rename}
use Rattle.omega_types.proofs.BinderPuts.{past-maps, vars-kinds, NormalTypes, forms-types, types-forms, types-append, forms-kinds}
use Rattle.omega_terms.specs.Term.{Term, TermRow}
use Rattle.omega_terms.specs.TermSubst.{ren_term, ren_fields, same_index}
use Rattle.omega_terms.specs.Shorthands.{Packs, opens, opens_after, past_opened}
use Rattle.omega_terms.specs.Instance.{TyInstance, Instance, Instances}
use Rattle.omega_terms.proofs.InstanceLaws.{type-self}
use Rattle.sig_definitions.specs.Signatures.Sig.{Sig, Abs, Module, made}
use Rattle.sig_definitions.specs.Signatures.Alike.{NormalSig}
use Rattle.sig_definitions.specs.Explicit.WellFormed.{WellFormed, abs}
use Rattle.sig_definitions.specs.Packing.{Packed}
use Rattle.sig_laws.specs.Good.{NormalTerm, OkAbs, OkModule}
use Rattle.sig_laws.proofs.Algebra.AlikeLaws.{form-conv_sig, form_sig-normal}
use Rattle.sig_laws.proofs.Algebra.BinderLaws.{extend-append}
use Rattle.sig_laws.proofs.Algebra.Instances.{at-substitutes}
use Rattle.sig_laws.proofs.Formed.Conditions.{abs-body}
use Rattle.sig_laws.proofs.Formed.WellFormedLaws.{well_formed-substitute, well_formed-conv}
use Rattle.sig_laws.proofs.Encoded.EncodingLaws.{enc-normal, enc_well_formed-normal}
use Rattle.module_judgments.specs.Sequence.{Seq, past_opens}

under-self : {ctx : List Kind} (k : Kind) {e : Term} → NormalTerm (k ∷ ctx) e → Instance (k ∷ ctx) (k ∷ ctx) (under Ty.Var) e e
under-self {ctx} k {e} h = subst (λ s. Instance (k ∷ ctx) (k ∷ ctx) s e e) (sym (under-vars (λ i. i) ∙ (λ j i. Ty.Var (lift-id j i)))) h

-- the types in an instance are normal

ty-given : {from to : List Kind} {s : ℕ → Ty} {t n : Ty} {k : Kind} → TyInstance from to s t k n → TyInstance to to Ty.Var n k n
ty-given (TyInstance.made a f) = type-self f.0

mutual
  instance-given : {from to : List Kind} {s : ℕ → Ty} {e c : Term} → Instance from to s e c → NormalTerm to c
  instance-given Instance.var = Instance.var
  instance-given Instance.int = Instance.int
  instance-given Instance.bool = Instance.bool
  instance-given Instance.text = Instance.text
  instance-given (Instance.lam t e) = Instance.lam (ty-given t) (instance-given e)
  instance-given (Instance.call f a) = Instance.call (instance-given f) (instance-given a)
  instance-given (Instance.ty_lam {k = k} e) = Instance.ty_lam (under-self k (instance-given e))
  instance-given (Instance.inst e t) = Instance.inst (instance-given e) (ty-given t)
  instance-given (Instance.fields f) = Instance.fields (instances-given f)
  instance-given (Instance.get e) = Instance.get (instance-given e)
  instance-given (Instance.pack t e u) = Instance.pack (ty-given t) (instance-given e) (ty-given u)
  instance-given (Instance.unpack k p e) = Instance.unpack k (instance-given p) (under-self k (instance-given e))
  instance-given (Instance.if_ a b c) = Instance.if_ (instance-given a) (instance-given b) (instance-given c)
  instance-given (Instance.arith a b) = Instance.arith (instance-given a) (instance-given b)
  instance-given (Instance.fix t u e) = Instance.fix (ty-given t) (ty-given u) (instance-given e)
  instance-given (Instance.inj e t) = Instance.inj (instance-given e) (ty-given t)
  instance-given (Instance.case e t f) = Instance.case (instance-given e) (ty-given t) (instances-given f)
  instance-given (Instance.roll e t) = Instance.roll (instance-given e) (ty-given t)
  instance-given (Instance.unroll e) = Instance.unroll (instance-given e)

  instances-given : {from to : List Kind} {s : ℕ → Ty} {f g : TermRow} → Instances from to s f g → Instances to to Ty.Var g g
  instances-given Instances.end = Instances.end
  instances-given (Instances.more e f) = Instances.more (instance-given e) (instances-given f)

-- the types in a renamed term are normal

ty-renamed : {from to mid : List Kind} {s : ℕ → Ty} {t n : Ty} {k : Kind} (q : ℕ → ℕ) → Maps from to q → TyInstance from mid s t k n → TyInstance to to Ty.Var (rename q t) k (rename q t)
ty-renamed q m (TyInstance.made a f) = type-self (normal-rename q m a)

mutual
  term-renamed : {from to mid : List Kind} {s : ℕ → Ty} {e d : Term} (q r : ℕ → ℕ) → Maps from to q → Instance from mid s e d → NormalTerm to (ren_term q r e)
  term-renamed q r m Instance.var = Instance.var
  term-renamed q r m Instance.int = Instance.int
  term-renamed q r m Instance.bool = Instance.bool
  term-renamed q r m Instance.text = Instance.text
  term-renamed q r m (Instance.lam t e) = Instance.lam (ty-renamed q m t) (term-renamed q (lift r) m e)
  term-renamed q r m (Instance.call f a) = Instance.call (term-renamed q r m f) (term-renamed q r m a)
  term-renamed q r m (Instance.ty_lam {k = k} e) = Instance.ty_lam (under-self k (term-renamed (lift q) r (lift-maps k m) e))
  term-renamed q r m (Instance.inst e t) = Instance.inst (term-renamed q r m e) (ty-renamed q m t)
  term-renamed q r m (Instance.fields f) = Instance.fields (fields-renamed q r m f)
  term-renamed q r m (Instance.get e) = Instance.get (term-renamed q r m e)
  term-renamed q r m (Instance.pack t e u) = Instance.pack (ty-renamed q m t) (term-renamed q r m e) (ty-renamed q m u)
  term-renamed q r m (Instance.unpack k p e) = Instance.unpack k (term-renamed q r m p) (under-self k (term-renamed (lift q) (lift r) (lift-maps k m) e))
  term-renamed q r m (Instance.if_ a b c) = Instance.if_ (term-renamed q r m a) (term-renamed q r m b) (term-renamed q r m c)
  term-renamed q r m (Instance.arith a b) = Instance.arith (term-renamed q r m a) (term-renamed q r m b)
  term-renamed q r m (Instance.fix t u e) = Instance.fix (ty-renamed q m t) (ty-renamed q m u) (term-renamed q (lift (lift r)) m e)
  term-renamed q r m (Instance.inj e t) = Instance.inj (term-renamed q r m e) (ty-renamed q m t)
  term-renamed q r m (Instance.case e t f) = Instance.case (term-renamed q r m e) (ty-renamed q m t) (fields-renamed q (lift r) m f)
  term-renamed q r m (Instance.roll e t) = Instance.roll (term-renamed q r m e) (ty-renamed q m t)
  term-renamed q r m (Instance.unroll e) = Instance.unroll (term-renamed q r m e)

  fields-renamed : {from to mid : List Kind} {s : ℕ → Ty} {f g : TermRow} (q r : ℕ → ℕ) → Maps from to q → Instances from mid s f g → Instances to to Ty.Var (ren_fields q r f) (ren_fields q r f)
  fields-renamed q r m Instances.end = Instances.end
  fields-renamed q r m (Instances.more e f) = Instances.more (term-renamed q r m e) (fields-renamed q r m f)

-- packs and opens

packs-given : {ctx ks : List Kind} {ts : List Ty} {e d : Term} {u : Ty} → NormalTypes ctx ts ks → NormalTerm ctx e → Normal ctx u Kind.Star → Packs ctx ts e u d → NormalTerm ctx d
packs-given n h v Packs.none = h
packs-given (NormalTypes.next m n) h v (Packs.next f p) = Instance.pack (type-self m) (packs-given n h f.0 p) (type-self v)

packed-given : {ctx : List Kind} (f : Effect) (ks : List Kind) (s : Sig) (ts : List Ty) {e p : Term} → OkModule ctx (made f (Abs.Ex ks s) ts e) → Packed ctx (made f (Abs.Ex ks s) ts e) p → NormalTerm ctx p
packed-given Pure ks s ts h (Packed.pure p) = packs-given (forms-types h.1) h.2 (enc_well_formed-normal h.0.0 h.0.1) p
packed-given Impure ks s _ h Packed.impure = h.2

opened-after : {ctx : List Kind} (ks : List Kind) {e : Term} → NormalTerm (extend ctx ks) e → NormalTerm ctx (opens_after ks e)
opened-after [] h = h
opened-after (k ∷ ks) h = Instance.unpack k Instance.var (under-self k (opened-after ks h))

opened-given : {ctx : List Kind} (ks : List Kind) {p e : Term} {u : Ty} → NormalTerm ctx p → Normal ctx u Kind.Star → NormalTerm (extend ctx ks) e → NormalTerm ctx (opens ks p u e)
opened-given [] h v i = Instance.call (Instance.lam (type-self v) i) h
opened-given (k ∷ ks) h v i = Instance.unpack k h (under-self k (opened-after ks i))

-- sequences

joined-ok : (ctx ks js : List Kind) (t : Sig) → OkAbs (extend ctx ks) (Abs.Ex js t) → OkAbs ctx (Abs.Ex (ks ++ js) t)
joined-ok ctx ks js t h =
    let e = sym (extend-append ks js ctx) in
    (abs (subst (λ c. WellFormed c t) e (abs-body h.0)), subst (λ c. NormalSig c t) e h.1)

-- a good binding before a good rest makes a good module
pub seq-ok : (ctx ks : List Kind) (f : Effect) (s : Sig) (ts : List Ty) (e : Term) {rest whole : Module} → OkModule ctx (made f (Abs.Ex ks s) ts e) → OkModule (extend ctx ks) rest → Seq ctx (made f (Abs.Ex ks s) ts e) rest whole → OkModule ctx whole
seq-ok ctx ks f s ts e a b (Seq.both_pure {js = js} {t = t} {n = n} x y i) =
    let w = well_formed-substitute (puts ts Ty.Var) (at-substitutes (forms-kinds a.1)) (abs-body a.0.0) in
    let v = enc-normal (well_formed-conv w (form-conv_sig x)) (form_sig-normal x) in
    (joined-ok ctx ks js t b.0, types-forms (types-append (forms-types a.1) (forms-types y)), Instance.call (Instance.lam (type-self v) (instance-given i)) a.2)
seq-ok ctx ks f s ts e a b (Seq.some_impure {h = h} {js = js} {t = t} {us = us} {d = d} {q = q} j x y z) =
    let o = joined-ok ctx ks js t b.0 in
    let v = normal-rename (past ks) (past-maps ctx ks) (enc_well_formed-normal o.0 o.1) in
    let rest : NormalTerm (extend ctx ks) (past_opens ks q) = term-renamed same_index (lift (past_opened ks)) (λ i k l. l) (packed-given h js t us b y) in
    let body = packs-given (forms-types (vars-kinds ctx ks)) rest v z in
    (o, refl, opened-given ks (packed-given f ks s ts a x) (enc_well_formed-normal a.0.0 a.0.1) body)
