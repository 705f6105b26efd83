-- Derivations of which only the effect and the signature are followed: the terms are found by the laws of elaboration.
-- Main results: show-next, show-project, show-applicative, show-apply.
use Rattle.std.specs.Prelude.{List, [], ◌++◌, ◌≡◌, true, false, Some}
use Rattle.std.proofs.Math.Path.{refl, sym, subst, ap}
use Rattle.omega_kinds.specs.Kind.{Kind}
use Rattle.omega_kinds.specs.declared.label.Label.{Label}
use Rattle.omega_kinds.specs.declared.effect.Effect.{Effect}
use Rattle.omega_kinds.specs.declared.effect.Effect.TheVariants.{Pure, Impure}
use Rattle.omega_kinds.specs.Name.{Name}
use Rattle.omega_types.specs.Ty.{Ty}
use Rattle.omega_types.specs.Binders.{extend}
use Rattle.omega_terms.specs.Term.{Term, TermRow}
use Rattle.sig_definitions.specs.Signatures.Sig.{Sig, Abs, SigRow, HasField, Module, made}
use Rattle.sig_definitions.specs.Signatures.Alike.{NormalAbsForm}
use Rattle.omega_terms.specs.Shorthands.{opens}
use Rattle.sig_definitions.specs.Signatures.Encoding.{enc_abs}
use Rattle.sig_definitions.specs.Signatures.SigSubst.{abs_at}
use Rattle.sig_definitions.specs.Env.{Env, kinds, find, with_module}
use Rattle.sig_definitions.specs.Lifting.{Lift}
use Rattle.sig_definitions.specs.Matching.Subtyping.{Match}
use Rattle.sig_definitions.specs.Signatures.FieldOrder.{with_name}
use Rattle.sig_laws.proofs.Algebra.FormLaws.{module-under}
use Rattle.sig_laws.proofs.Formed.Conditions.{abs-body}
use Rattle.fing_syntax.specs.Phrase.{Span, SpanName, Mod, ModAt, ModStruct, ModProject, ModFunctor, ModApply, Bind, BindAt, BindModule, Binds, NoBinds, MoreBinds, SigEx}
use Rattle.fing_syntax.specs.Place.{name_of}
use Rattle.module_judgments.specs.Projection.{Projected}
use Rattle.module_judgments.specs.Sequence.{Seq, joined, Collected}
use Rattle.module_judgments.specs.ModRules.{GenerativeGives, PartsGive, ApplyGives}
use Rattle.functor_judgments.specs.PureFunctor.{PureFunctorGives}
use Rattle.elab_judgments.specs.Judgments.Meaning.{SigMeans, ModMeans, BindMeans, BindsMean}
use Rattle.sig_laws.specs.Good.{OkEnv, Names}
use Rattle.elab_laws.proofs.Kept.{mod_ok, bind_ok, binds_ok}
use Rattle.elab_laws.proofs.FieldLaws.{rise-with_name}
use Rattle.sig_premise_laws.proofs.Environments.{good-module, bound-bind}
use Rattle.sig_premise_laws.proofs.Determined.{packed-one}
use Rattle.module_judgments.proofs.Determined.{seq-one, projected-one}
use Rattle.sig_laws.proofs.Algebra.PathLaws.{one-field}

-- a module phrase means a module of this effect and signature
abbrev pub ModShows : Env → Mod → Effect → Abs → Type 0
ModShows g m f x = (ts : List Ty) × (e : Term) × ModMeans g m (made f x ts e)

-- a binding binds a name to a module of this effect and signature
abbrev pub BindShows : Env → Bind → Name → Effect → Abs → Type 0
BindShows g b n f x = (ts : List Ty) × (e : Term) × BindMeans g b n (made f x ts e)

-- bindings mean a module of this effect and signature
abbrev pub BindsShow : Env → List Name → Binds → Effect → Abs → Type 0
BindsShow g before bs f x = (ts : List Ty) × (e : Term) × BindsMean g before bs (made f x ts e)

-- a structure shows the effect and the signature of its bindings
pub show-struct : {g : Env} {at : Span} {bs : Binds} {f : Effect} {x : Abs} → BindsShow g [] bs f x → ModShows g (ModAt at (ModStruct bs)) f x
show-struct p = (p.0, p.1, ModMeans.mod_struct p.2)

-- a module binding shows the effect and the signature of its module
pub show-module : {g : Env} {at : Span} {x : SpanName} {m : Mod} {f : Effect} {y : Abs} → ModShows g m f y → BindShows g (BindAt at (BindModule x m)) (name_of x) f y
show-module p = (p.0, p.1, BindMeans.bind_module p.2)

-- fields

ProjectedSig : Effect → List Kind → Sig → Module → Type 0
ProjectedSig f ks s N = (ts : List Ty) × (e : Term) × (N ≡ made f (Abs.Ex ks s) ts e)

projected-sig : {ctx ks : List Kind} {f : Effect} {fs : SigRow} {ts : List Ty} {e : Term} {l : Name} {s : Sig} {N : Module} → HasField fs l s → Projected ctx (made f (Abs.Ex ks (Sig.Str fs)) ts e) l N → ProjectedSig f ks s N
unfolding ProjectedSig
projected-sig {ks = ks} {ts = ts} {e = e} {l = l} h (Projected.pure i) = let d = Term.Get e (Label.Name l) in (ts, d, ap (λ s. made Pure (Abs.Ex ks s) ts d) (one-field i h refl))
projected-sig {ks = ks} {fs = fs} {e = e} h (Projected.impure {d = d} i p) = let c = opens ks e (enc_abs (Abs.Ex ks (Sig.Str fs))) d in ([], c, ap (λ s. made Impure (Abs.Ex ks s) [] c) (one-field i h refl))

-- a projection shows the effect of its module and the signature of the field
pub show-project : {g : Env} {at : Span} {m : Mod} {x : SpanName} {f : Effect} {ks : List Kind} {fs : SigRow} {s : Sig} → OkEnv g → ModShows g m f (Abs.Ex ks (Sig.Str fs)) → HasField fs (name_of x) s → ModShows g (ModAt at (ModProject m x)) f (Abs.Ex ks s)
unfolding ProjectedSig
show-project {g} {at} {m} {x} {f} {ks} {fs} {s} ok p h =
    let q = projected-one (kinds g) ks f fs p.0 p.1 (name_of x) s (mod_ok g m (made f (Abs.Ex ks (Sig.Str fs)) p.0 p.1) ok p.2).0 h in
    let v = projected-sig h q.1 in
    (v.0, v.1, subst (λ N. ModMeans g (ModAt at (ModProject m x)) N) v.2 (ModMeans.mod_project p.2 q.1))

-- functors

-- a generative functor is pure, and shows the signature of its body as its result
pub show-generative : {g : Env} {at : Span} {x : SpanName} {a : SigEx} {b : Mod} {f : Effect} {ks : List Kind} {s : Sig} {y : Abs} → OkEnv (with_module g ks (name_of x) s) → SigMeans g a (Abs.Ex ks s) → ModShows (with_module g ks (name_of x) s) b f y → ModShows g (ModAt at (ModFunctor true x a b)) Pure (Abs.Ex [] (Sig.Fun Impure ks s y))
show-generative {g} {x = x} {b = b} {f = f} {ks = ks} {s = s} {y = y} ok p q =
    let M = made f y q.0 q.1 in
    let d = packed-one (extend (kinds g) ks) M (module-under g ks M (mod_ok (with_module g ks (name_of x) s) b M ok q.2)) in
    (_, _, ModMeans.mod_generative p q.2 refl (GenerativeGives.generative d.1))

-- an applicative functor is pure, and shows the lifted signature of its body
pub show-applicative : {g : Env} {at : Span} {x : SpanName} {a : SigEx} {b : Mod} {ks : List Kind} {s : Sig} {y z : Abs} → SigMeans g a (Abs.Ex ks s) → ModShows (with_module g ks (name_of x) s) b Pure y → Lift (kinds g) ks s y z → ModShows g (ModAt at (ModFunctor false x a b)) Pure z
show-applicative p q l = (_, _, ModMeans.mod_applicative p q.2 (PureFunctorGives.pure_functor l))

-- an application shows the effect of the functor and its result at the types of the match
pub show-apply : {g : Env} {at : Span} {x z : SpanName} {f : Effect} {ks : List Kind} {s t : Sig} {y w : Abs} {ts : List Ty} {c d e : Term} → find g (name_of x) ≡ Some (Sig.Fun f ks s y, d) → find g (name_of z) ≡ Some (t, e) → Match (kinds g) t (Abs.Ex ks s) ts c → NormalAbsForm (kinds g) (abs_at ts y) w → ModShows g (ModAt at (ModApply x z)) f w
show-apply p q m n = (_, _, ModMeans.mod_apply p PartsGive.parts q m (ApplyGives.apply n))

-- bindings

SeqSig : Effect → Effect → List Kind → List Kind → Sig → Module → Type 0
SeqSig f h ks js t N = (ts : List Ty) × (e : Term) × (N ≡ made (joined f h) (Abs.Ex (ks ++ js) t) ts e)

seq-sig : {ctx ks js : List Kind} {f h : Effect} {s t : Sig} {ts us : List Ty} {e d : Term} {N : Module} → Seq ctx (made f (Abs.Ex ks s) ts e) (made h (Abs.Ex js t) us d) N → SeqSig f h ks js t N
unfolding SeqSig
seq-sig (Seq.both_pure a b c) = (_, _, refl)
seq-sig {ks = ks} {js = js} {s = s} {t = t} (Seq.some_impure {p = p} {r = r} j a b c) =
    let e = opens ks p (enc_abs (Abs.Ex ks s)) r in
    ([], e, ap (λ f. made f (Abs.Ex (ks ++ js) t) [] e) (sym j))

-- the environment with a bound module that is shown is good
pub ok-after : {g : Env} {b : Bind} {n : Name} {f : Effect} {ks : List Kind} {s : Sig} → OkEnv g → BindShows g b n f (Abs.Ex ks s) → OkEnv (with_module g ks n s)
ok-after {g} {b} {n} {f} {ks} {s} ok p = let w = bind_ok g b n (made f (Abs.Ex ks s) p.0 p.1) ok p.2 in good-module g ks n s ok (abs-body w.0.0, w.0.1)

-- the end of bindings is pure, and shows the structure of their names
pub show-end : {g : Env} {before : List Name} {fs : SigRow} {es : TermRow} → Collected g before fs es → BindsShow g before NoBinds Pure (Abs.Ex [] (Sig.Str fs))
show-end c = (_, _, BindsMean.no_binds c)

-- a binding before others shows both effects, the hidden types of both and the signature of the others
pub show-next : {g : Env} {before : List Name} {b : Bind} {bs : Binds} {n : Name} {f h : Effect} {ks js : List Kind} {s t : Sig} → OkEnv g → Names g before → BindShows g b n f (Abs.Ex ks s)
    → (OkEnv (with_module g ks n s) → Names (with_module g ks n s) (with_name n before) → BindsShow (with_module g ks n s) (with_name n before) bs h (Abs.Ex js t))
    → BindsShow g before (MoreBinds b bs) (joined f h) (Abs.Ex (ks ++ js) t)
unfolding SeqSig
show-next {g} {before} {b} {bs} {n} {f} {h} {ks} {js} {s} {t} ok names p rest =
    let first = made f (Abs.Ex ks s) p.0 p.1 in
    let w = bind_ok g b n first ok p.2 in
    let good = ok-after ok p in
    let rise = rise-with_name n before names.1 in
    let q = rest good (bound-bind g ks n s before names.0, rise) in
    let second = made h (Abs.Ex js t) q.0 q.1 in
    let u = module-under g ks second (binds_ok (with_module g ks n s) (with_name n before) bs second good rise q.2) in
    let k = seq-one (kinds g) ks f s p.0 p.1 second w u in
    let v = seq-sig k.1 in
    (v.0, v.1, subst (λ N. BindsMean g before (MoreBinds b bs) N) v.2 (BindsMean.next_bind p.2 q.2 k.1))
