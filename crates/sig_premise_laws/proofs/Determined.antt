-- What premises determine: it exists, and there is only one.
-- Main results: lift-one, packed-one.
use Rattle.std.specs.Prelude.{ℕ, List, ◌≡◌}
use Rattle.std.proofs.Math.Path.{refl, sym, subst}
use Rattle.omega_kinds.specs.Kind.{Kind}
use Rattle.omega_kinds.specs.declared.effect.Effect.TheVariants.{Pure, Impure}
use Rattle.omega_types.specs.Ty.{Ty}
use Rattle.omega_types.specs.Binders.{extend, past, lifts, puts, OfKinds}
use Rattle.omega_types.proofs.Preservation.{Substitutes}
use Rattle.omega_terms.specs.Term.{Term}
use Rattle.omega_terms.specs.Shorthands.{Packs}
use Rattle.omega_terms.specs.Instance.{Instance}
use Rattle.omega_terms.proofs.InstanceLaws.{instance-one as same_instance}
use Rattle.sig_definitions.specs.Signatures.Sig.{Sig, Abs, Module, made}
use Rattle.sig_definitions.specs.Signatures.SigSubst.{abs_at, rename_sig, substitute_sig}
use Rattle.sig_definitions.specs.Signatures.Alike.{ConvSig, ConvAbs, AlikeSig, AlikeAbs, NormalSig, NormalAbs, NormalSigForm, NormalAbsForm}
use Rattle.sig_laws.specs.NormalSig.{normal_sig, normal_abs}
use Rattle.sig_definitions.specs.Signatures.Encoding.{enc, enc_abs}
use Rattle.sig_definitions.specs.Lifting.{Lift, lifted, lifted_kinds, lifting}
use Rattle.sig_definitions.specs.Packing.{Packed}
use Rattle.sig_laws.proofs.Algebra.AlikeLaws.{conv_sig-gives, conv_abs-gives, conv_sig-substitute, conv_abs-substitute, substitutes-convertible, form-conv_sig, form-conv_abs, normal_sig-form, normal_abs-form, normal_sig-rename, form_sig-same, form_abs-same}
use Rattle.sig_laws.proofs.LiftLaws.{lifting_maps, lifting_kinds}
use Rattle.sig_laws.proofs.Encoded.EncodingTyping.{distinct_abs-normal}
use Rattle.sig_laws.proofs.Formed.WellFormedShape.{kinded}
use Rattle.sig_laws.proofs.Algebra.Instances.{at-substitutes}
use Rattle.sig_definitions.specs.Verdict.{One}
use Rattle.sig_laws.specs.Good.{NormalTerm, OkModule, KindedModule}
use Rattle.sig_premise_laws.proofs.Terms.{packs-one, instance-total}
use Rattle.omega_types.proofs.BinderPuts.{forms-kinds}

pub form_sig-one : {ctx : List Kind} {s : Sig} → ConvSig ctx s s → One (NormalSigForm ctx s)
form_sig-one {ctx} {s} c = (normal_sig ctx s, conv_sig-gives c, λ m f. form_sig-same f)

pub form_abs-one : {ctx : List Kind} {x : Abs} → ConvAbs ctx x x → One (NormalAbsForm ctx x)
form_abs-one {ctx} {x} c = (normal_abs ctx x, conv_abs-gives c, λ m f. form_abs-same f)

-- what is normal is convertible to itself, and so it stays at types of the right kinds
pub normal-conv_sig : (ctx : List Kind) (s : Sig) → NormalSig ctx s → ConvSig ctx s s
normal-conv_sig ctx s n = form-conv_sig (normal_sig-form ctx s n)

-- a normal signature is convertible to itself
pub normal-conv_abs : (ctx : List Kind) (x : Abs) → NormalAbs ctx x → ConvAbs ctx x x
normal-conv_abs ctx x n = form-conv_abs (normal_abs-form ctx x n)

-- a signature with types put in
pub put_sig-one : {from to : List Kind} {f : ℕ → Ty} (s : Sig) → Substitutes from to f → NormalSig from s → One (NormalSigForm to (substitute_sig f s))
put_sig-one {from} {to} {f} s h n = form_sig-one (conv_sig-substitute f f (substitutes-convertible h) (normal-conv_sig from s n))

-- the result of an application
pub result-one : {ctx ks : List Kind} {ts : List Ty} (y : Abs) → OfKinds ctx ts ks → NormalAbs (extend ctx ks) y → One (NormalAbsForm ctx (abs_at ts y))
result-one {ctx} {ks} {ts} y h n = form_abs-one (conv_abs-substitute (puts ts Ty.Var) (puts ts Ty.Var) (substitutes-convertible (at-substitutes h)) (normal-conv_abs (extend ctx ks) y n))

-- lifting
lift-form : {ctx ks : List Kind} {s : Sig} {x y : Abs} → Lift ctx ks s x y → NormalAbsForm ctx (lifted ks s x) y
lift-form (Lift.lift f) = f

lifted-conv : (ctx ks : List Kind) (s : Sig) (y : Abs) → NormalAbs ctx (Abs.Ex ks s) → NormalAbs (extend ctx ks) y → ConvAbs ctx (lifted ks s y) (lifted ks s y)
lifted-conv ctx ks s (Abs.Ex bs r) n w =
    let C = extend (extend ctx (lifted_kinds ks bs)) ks in
    let m = normal_sig-rename (lifts ks (past bs)) (lifting_maps ctx ks bs) s n in
    let c = conv_sig-substitute (lifting ks bs) (lifting ks bs) (substitutes-convertible (lifting_kinds ctx ks bs)) (normal-conv_sig (extend (extend ctx ks) bs) r w) in
    AlikeAbs.ex (AlikeSig.fun (normal-conv_sig C (rename_sig (lifts ks (past bs)) s) m) (AlikeAbs.ex c))

-- a normal parameter and a normal result have exactly one lifted signature
pub lift-one : (ctx ks : List Kind) (s : Sig) (y : Abs) → NormalAbs ctx (Abs.Ex ks s) → NormalAbs (extend ctx ks) y → One (Lift ctx ks s y)
lift-one ctx ks s y n w = let f = form_abs-one (lifted-conv ctx ks s y n w) in (f.0, Lift.lift f.1, λ z l. f.2 z (lift-form l))

-- modules packed
packed-pure : {ctx : List Kind} {x : Abs} {ts : List Ty} {e c : Term} → Packed ctx (made Pure x ts e) c → Packs ctx ts e (enc_abs x) c
packed-pure (Packed.pure p) = p

packed-impure : {ctx : List Kind} {x : Abs} {ts : List Ty} {e c : Term} → Packed ctx (made Impure x ts e) c → c ≡ e
packed-impure Packed.impure = refl

-- a module of normal types has exactly one packed term
pub packed-kinded : (ctx : List Kind) (M : Module) → KindedModule ctx M → One (Packed ctx M)
packed-kinded ctx (made Pure (Abs.Ex ks s) ts e) h = let p = packs-one e (enc s) (forms-kinds h.1) (distinct_abs-normal (Abs.Ex ks s) h.0.0 h.0.1) in (p.0, Packed.pure p.1, λ c q. p.2 c (packed-pure q))
packed-kinded ctx (made Impure (Abs.Ex ks s) ts e) h = (e, subst (λ us. Packed ctx (made Impure (Abs.Ex ks s) us e) e) (sym h.1) Packed.impure, λ c q. packed-impure q)

-- a good module has exactly one packed term
pub packed-one : (ctx : List Kind) (M : Module) → OkModule ctx M → One (Packed ctx M)
packed-one ctx M h = packed-kinded ctx M (kinded ctx M h)

-- a term of normal types has exactly one instance at types of the right kinds
pub instance-one : (ctx ks : List Kind) (ts : List Ty) (e : Term) → NormalTerm (extend ctx ks) e → OfKinds ctx ts ks → One (Instance (extend ctx ks) ctx (puts ts Ty.Var) e)
instance-one ctx ks ts e n h = let s = at-substitutes h in let c = instance-total ctx (puts ts Ty.Var) n s in (c.0, c.1, λ d i. same_instance s i c.1)
