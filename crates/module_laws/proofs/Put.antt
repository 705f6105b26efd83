-- Types put into what the rule of a sequence makes of a pure binding and a pure rest.
-- Main results: sequence_put_in, pure-seq.
use Rattle.std.specs.Prelude.{ℕ, List, ◌++◌, ◌≡◌, map}
use Rattle.std.proofs.Math.Path.{refl, sym, subst}
use Rattle.std.proofs.lemmas.List.{map-append}
use Rattle.omega_kinds.specs.Kind.{Kind}
use Rattle.omega_kinds.specs.declared.effect.Effect.TheVariants.{Pure, Impure}
use Rattle.omega_types.specs.Ty.{Ty}
use Rattle.omega_types.specs.Substitution.{substitute}
use Rattle.omega_types.specs.Conversion.{Conv}
use Rattle.omega_types.specs.Conversion.Conv.{c_sym, c_trans}
use Rattle.omega_types.specs.Normality.{Normal}
use Rattle.omega_types.specs.Normalises.{NormalForm}
use Rattle.omega_types.specs.Binders.{extend, puts, NormalForms}
use Rattle.omega_types.proofs.Algebra.{substitute-substitute}
use Rattle.omega_types.proofs.Preservation.{Substitutes, conv-substitute, substitute-convertible, normal-kind}
use Rattle.omega_types.proofs.BinderPuts.{NormalTypes, forms-types, forms-kinds}
use Rattle.omega_terms.specs.Term.{Term}
use Rattle.omega_terms.specs.Shorthands.{let_in}
use Rattle.omega_terms.specs.Instance.{TyInstance, Instance}
use Rattle.omega_terms.proofs.InstanceLaws.{instance-one}
use Rattle.sig_definitions.specs.Signatures.Sig.{Sig, Abs, Module, made}
use Rattle.sig_definitions.specs.Signatures.SigSubst.{substitute_sig, sig_at}
use Rattle.sig_definitions.specs.Signatures.Alike.{ConvSig, NormalSigForm, NormalSig}
use Rattle.sig_definitions.specs.Signatures.Encoding.{enc}
use Rattle.sig_laws.specs.Good.{OkModule}
use Rattle.sig_laws.proofs.Algebra.SigAlgebra.{substitute-substitute_sig}
use Rattle.sig_laws.proofs.Algebra.AlikeLaws.{conv_sig-sym, conv_sig-trans, conv_sig-substitute, conv-form_sig, form-conv_sig, form_sig-normal, normal_sig-form, substitutes-convertible}
use Rattle.sig_laws.proofs.Algebra.Instances.{at-substitutes}
use Rattle.sig_laws.proofs.Encoded.EncodingLaws.{enc-substitute}
use Rattle.sig_laws.proofs.Encoded.EncodingTyping.{Shape, enc-normal, enc-form, shape-substitute, shape-alike}
use Rattle.sig_laws.proofs.Formed.WellFormedShape.{well_formed_abs-shape}
use Rattle.module_judgments.specs.Sequence.{Seq}
use Rattle.module_judgments.proofs.Determined.{seq-one}
use Rattle.module_laws.specs.PutIn.{IsPut, SequencePutIn}
use Rattle.module_laws.proofs.Composed.{puts-through, types-through}

-- an encoding is put in as its signature is
enc-instance : {mid ctx : List Kind} {n : Sig} (q : ℕ → Ty) (s : Sig) → Shape s → NormalSig mid s → NormalSigForm ctx (substitute_sig q s) n → TyInstance mid ctx q (enc s) Kind.Star (enc n)
enc-instance {ctx = ctx} {n = n} q s h m f = TyInstance.made (enc-normal s m h) (subst (λ u. NormalForm ctx u Kind.Star (enc n)) (enc-substitute q s) (enc-form f (shape-substitute q s h)))

-- what is normal at the types of a binding, with types put in, is normal at all of them
module _ {mid ctx js : List Kind} {ns : List Ty} (f : ℕ → Ty) (ts : List Ty) (h : Substitutes mid ctx f) (t : NormalForms mid ts js ts) (n : NormalForms ctx (map (substitute f) ts) js ns) where
  conv-at : {u : Ty} {k : Kind} → Normal (extend mid js) u k → Conv ctx (substitute f (substitute (puts ts Ty.Var) u)) (substitute (puts ns f) u) k
  conv-at {u} {k} m =
      let a = substitute-convertible (λ i. substitute f (puts ts Ty.Var i)) (puts ns f) (puts-through f ts h n) (normal-kind m) in
      subst (λ v. Conv ctx v (substitute (puts ns f) u) k) (sym (substitute-substitute f (puts ts Ty.Var) u)) a

  type-after : {u v m : Ty} {k : Kind} → Normal (extend mid js) u k → NormalForm mid (substitute (puts ts Ty.Var) u) k v → NormalForm ctx (substitute (puts ns f) u) k m → NormalForm ctx (substitute f v) k m
  type-after o a b = (b.0, c_trans (c_sym (conv-substitute f h a.1)) (c_trans (conv-at o) b.1))

  types-after : {us vs ms : List Ty} {hs : List Kind} → NormalTypes (extend mid js) us hs → NormalForms mid (map (substitute (puts ts Ty.Var)) us) hs vs → NormalForms ctx (map (substitute (puts ns f)) us) hs ms → NormalForms ctx (map (substitute f) vs) hs ms
  types-after NormalTypes.none NormalForms.none NormalForms.none = NormalForms.none
  types-after (NormalTypes.next o more) (NormalForms.next a rest) (NormalForms.next b others) = NormalForms.next (type-after o a b) (types-after more rest others)

  sig-after : {v m : Sig} (s : Sig) → NormalSig (extend mid js) s → NormalSigForm mid (sig_at ts s) v → NormalSigForm ctx (substitute_sig (puts ns f) s) m → NormalSigForm ctx (substitute_sig f v) m
  sig-after {v} {m} s w a b =
      let c = conv_sig-substitute (λ i. substitute f (puts ts Ty.Var i)) (puts ns f) (puts-through f ts h n) (form-conv_sig (normal_sig-form (extend mid js) s w)) in
      let d = subst (λ x. ConvSig ctx x (substitute_sig (puts ns f) s)) (sym (substitute-substitute_sig f (puts ts Ty.Var) s)) c in
      let e = conv_sig-substitute f f (substitutes-convertible h) (form-conv_sig a) in
      conv-form_sig (conv_sig-trans (conv_sig-sym e) d) b

-- lists of normal forms
pub forms-append : {ctx ks js : List Kind} {ts us ns ms : List Ty} → NormalForms ctx ts ks ns → NormalForms ctx us js ms → NormalForms ctx (ts ++ us) (ks ++ js) (ns ++ ms)
forms-append NormalForms.none g = g
forms-append (NormalForms.next a f) g = NormalForms.next a (forms-append f g)

-- both together, by their parts
parts-put : (mid ctx ks js : List Kind) (f : ℕ → Ty) (s t n v : Sig) (ts us ns more ms : List Ty) (e d c i o : Term)
    → Substitutes mid ctx f
    → OkModule mid (made Pure (Abs.Ex ks s) ts e)
    → OkModule (extend mid ks) (made Pure (Abs.Ex js t) us d)
    → NormalSigForm mid (sig_at ts s) v → NormalForms mid (map (substitute (puts ts Ty.Var)) us) js ms → Instance (extend mid ks) mid (puts ts Ty.Var) d o
    → IsPut mid ctx f ks ts e ns c
    → NormalSigForm ctx (substitute_sig (puts ns f) s) n
    → IsPut (extend mid ks) ctx (puts ns f) js us d more i
    → IsPut mid ctx f (ks ++ js) (ts ++ ms) (let_in (enc v) e o) (ns ++ more) (let_in (enc n) c i)
parts-put mid ctx ks js f s t n v ts us ns more ms e d c i o h first rest a b p own sig put = record { types = types; term = Instance.call (Instance.lam encoded inner) own.term }
  where
    types : NormalForms ctx (map (substitute f) (ts ++ ms)) (ks ++ js) (ns ++ more)
    types = subst (λ us. NormalForms ctx us (ks ++ js) (ns ++ more)) (sym (map-append (substitute f) ts ms)) (forms-append own.types (types-after f ts h first.1 own.types (forms-types rest.1) b put.types))

    shape : Shape v
    shape = shape-alike a (shape-substitute (puts ts Ty.Var) s (well_formed_abs-shape first.0.0))

    encoded : TyInstance mid ctx f (enc v) Kind.Star (enc n)
    encoded = enc-instance f v shape (form_sig-normal a) (sig-after f ts h first.1 own.types s first.0.1 a sig)

    inner : Instance mid ctx f o i
    inner =
        let w = types-through h first.1 own.types put.term in
        subst (λ x. Instance mid ctx f x i) (instance-one (at-substitutes (forms-kinds first.1)) w.1 p) w.2

-- the parts of a sequence of two pure ones

abbrev pub SeqView : List Kind → Module → Module → Module → Type 0
SeqView ctx (made Pure (Abs.Ex ks s) ts e) (made Pure (Abs.Ex js t) us d) w = (n : Sig) × (ns : List Ty) × (c : Term) × NormalSigForm ctx (sig_at ts s) n × NormalForms ctx (map (substitute (puts ts Ty.Var)) us) js ns × Instance (extend ctx ks) ctx (puts ts Ty.Var) d c × (w ≡ made Pure (Abs.Ex (ks ++ js) t) (ts ++ ns) (let_in (enc n) e c))
SeqView ctx first rest w = Unit {0}

-- what the rule of a sequence makes of two pure modules has these parts
pub seq-view : {ctx : List Kind} {first rest w : Module} → Seq ctx first rest w → SeqView ctx first rest w
seq-view (Seq.both_pure {n = n} {ns = ns} {c = c} a b i) = (n, ns, c, a, b, i, refl)
seq-view (Seq.some_impure {f = Pure} {h = Pure} j p q r) = absurd (not_impure j)
  where
    not_impure : Pure ≡ Impure → ⊥
    not_impure e = cc
seq-view (Seq.some_impure {f = Pure} {h = Impure} j p q r) = tt
seq-view (Seq.some_impure {f = Impure} j p q r) = tt

abbrev ModulePut : (mid ctx : List Kind) → (ℕ → Ty) → Module → List Ty → Term → Type 0
ModulePut mid ctx f (made e (Abs.Ex hs r) vs w) ns d = IsPut mid ctx f hs vs w ns d

-- types are put into a sequence of two pure modules by putting them into the first, and them and what comes of it into the second
pub sequence_put_in : SequencePutIn
sequence_put_in mid ctx ks js hs f s t r n ts us vs ns more e d w c i h first rest q own sig put =
    let v = seq-view q in
    subst (λ m. ModulePut mid ctx f m (ns ++ more) (let_in (enc n) c i)) (sym v.6) (parts-put mid ctx ks js f s t n v.0 ts us ns more v.1 e d c i v.2 h first rest v.3 v.4 v.5 own sig put)

-- a good pure binding and a pure rest that is good under it have a sequence, which is pure
pub pure-seq : (ctx ks : List Kind) (s : Sig) (ts : List Ty) (e : Term) (y : Abs) (us : List Ty) (d : Term) → OkModule ctx (made Pure (Abs.Ex ks s) ts e) → OkModule (extend ctx ks) (made Pure y us d)
    → (z : Abs) × (vs : List Ty) × (c : Term) × Seq ctx (made Pure (Abs.Ex ks s) ts e) (made Pure y us d) (made Pure z vs c)
pure-seq ctx ks s ts e (Abs.Ex js t) us d a b =
    let o = seq-one ctx ks Pure s ts e (made Pure (Abs.Ex js t) us d) a b in
    let v = seq-view o.1 in
    (Abs.Ex (ks ++ js) t, ts ++ v.1, let_in (enc v.0) e v.2, subst (Seq ctx (made Pure (Abs.Ex ks s) ts e) (made Pure (Abs.Ex js t) us d)) v.6 o.1)
