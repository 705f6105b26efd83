-- Parts and parameters on paths go along with substitution and with likeness.
-- Main results: part-substitute, part-alike, param-alike, param-back.
use Rattle.std.specs.Prelude.{ℕ, List, [], ◌∷◌, ◌++◌, ◌≡◌, ◌≢◌}
use Rattle.std.proofs.Math.Path.{refl, sym, ◌∙◌, ap, subst}
use Rattle.omega_kinds.specs.Kind.{Kind}
use Rattle.omega_kinds.specs.declared.effect.Effect.TheVariants.{Pure}
use Rattle.omega_kinds.specs.Name.{Name}
use Rattle.omega_types.specs.Ty.{Ty}
use Rattle.omega_types.specs.Binders.{extend, unders}
use Rattle.sig_definitions.specs.Signatures.Sig.{Sig, Abs, SigRow, HasField, here, there, NoField}
use Rattle.sig_definitions.specs.Signatures.SigSubst.{substitute_sig, substitute_sig_row}
use Rattle.sig_definitions.specs.Signatures.Alike.{Between, AlikeSig, AlikeRow, str, fun, ex, end, more, NormalSig, NormalSigRow}
use Rattle.sig_definitions.specs.Explicit.SigPath.{SigPath, Item, PartAt, ParamOn}
use Rattle.sig_laws.proofs.Algebra.BinderLaws.{extend-append, unders-append}

-- fields

-- the field of a name, after a substitution in all fields
pub field-substitute : {fs : SigRow} {l : Name} {s : Sig} (f : ℕ → Ty) → HasField fs l s → HasField (substitute_sig_row f fs) l (substitute_sig f s)
field-substitute f here = here
field-substitute f (there n h) = there n (field-substitute f h)

-- alike structures have alike fields of one name
pub field-alike : {R : Between} {ctx : List Kind} {fs gs : SigRow} {l : Name} {s : Sig} → AlikeRow R ctx fs gs → HasField fs l s → (t : Sig) × HasField gs l t × AlikeSig R ctx s t
field-alike end h = elim h [ ]
field-alike (more {t = t} a others) here = (t, here, a)
field-alike (more a others) (there n h) = let q = field-alike others h in (q.0, there n q.1, q.2)

-- a field found after a substitution comes from one before it
pub field-back : (f : ℕ → Ty) (fs : SigRow) {l : Name} {t : Sig} → HasField (substitute_sig_row f fs) l t → (s : Sig) × HasField fs l s × (t ≡ substitute_sig f s)
field-back f SigRow.End h = elim h [ ]
field-back f (SigRow.More m s rest) here = (s, here, refl)
field-back f (SigRow.More m s rest) (there n h) = let q = field-back f rest h in (q.0, there n q.1, q.2)

-- a name has at most one field
pub one-field : {fs : SigRow} {l m : Name} {s t : Sig} → HasField fs l s → HasField fs m t → l ≡ m → s ≡ t
one-field here here e = refl
one-field here (there n h) e = absurd (n (sym e))
one-field (there n h) here e = absurd (n e)
one-field (there n h) (there m g) e = one-field h g e

-- a name that has a field is not one that has none
pub field-not : {fs : SigRow} {n l : Name} {q : Sig} → HasField fs n q → NoField l fs → n ≢ l
field-not here h = λ e. h.0 (sym e)
field-not (there f g) h = field-not g h.1

-- a name that has no field has none
pub no-field : {l : Name} {s : Sig} (fs : SigRow) → NoField l fs → HasField fs l s → ⊥
no-field fs n h = field-not h n refl

-- each field of a normal structure is normal
pub field-normal : (ctx : List Kind) {fs : SigRow} {l : Name} {s : Sig} → NormalSigRow ctx fs → HasField fs l s → NormalSig ctx s
field-normal ctx n here = n.0
field-normal ctx n (there d h) = field-normal ctx n.1 h

-- parts

-- a path leads to the same part after a substitution, which is then done under the binders on the path
pub part-substitute : {s q : Sig} {p : SigPath} {bs : List Kind} (f : ℕ → Ty) → PartAt s p bs q → PartAt (substitute_sig f s) p bs (substitute_sig (unders bs f) q)
part-substitute f PartAt.end = PartAt.end
part-substitute f (PartAt.field h a) = PartAt.field (field-substitute f h) (part-substitute f a)
part-substitute f (PartAt.result {ks = ks} {bs = bs} {s = s} {r = r} {q = q} {p = p} a) =
    subst (λ g. PartAt (Sig.Fun Pure ks (substitute_sig (unders ks f) s) (Abs.Ex [] (substitute_sig (unders ks f) r))) (Item.Res ∷ p) (ks ++ bs) (substitute_sig g q))
    (sym (unders-append ks bs f))
    (PartAt.result (part-substitute (unders ks f) a))

-- a path leads to alike parts in alike signatures
pub part-alike : {R : Between} {s t q : Sig} {p : SigPath} {bs : List Kind} (ctx : List Kind) → PartAt s p bs q → AlikeSig R ctx s t → (u : Sig) × PartAt t p bs u × AlikeSig R (extend ctx bs) q u
part-alike {t = t} ctx PartAt.end a = (t, PartAt.end, a)
part-alike ctx (PartAt.field h a) (str fs) = let g = field-alike fs h in let q = part-alike ctx a g.2 in (q.0, PartAt.field g.1 q.1, q.2)
part-alike {R = R} ctx (PartAt.result {ks = ks} {bs = bs} {q = q} a) (fun s (ex r)) =
    let w = part-alike (extend ctx ks) a r in
    (w.0, PartAt.result w.1, subst (λ c. AlikeSig R c q w.0) (sym (extend-append ks bs ctx)) w.2)

-- parameters

-- a path goes through alike functor parameters in alike signatures
pub param-alike : {R : Between} {s t q : Sig} {p : SigPath} {ds js : List Kind} (ctx : List Kind) → ParamOn s p ds js q → AlikeSig R ctx s t → (u : Sig) × ParamOn t p ds js u × AlikeSig R (extend (extend ctx ds) js) q u
param-alike ctx ParamOn.here (fun {t = t} s (ex r)) = (t, ParamOn.here, s)
param-alike ctx (ParamOn.field h a) (str fs) = let g = field-alike fs h in let q = param-alike ctx a g.2 in (q.0, ParamOn.field g.1 q.1, q.2)
param-alike {R = R} ctx (ParamOn.result {ks = ks} {ds = ds} {js = js} {t = q} a) (fun s (ex r)) =
    let w = param-alike (extend ctx ks) a r in
    (w.0, ParamOn.result w.1, subst (λ c. AlikeSig R (extend c js) q w.0) (sym (extend-append ks ds ctx)) w.2)

-- a functor parameter on a path after a substitution comes from one before it
pub param-back : (f : ℕ → Ty) (s : Sig) (p : SigPath) {ds js : List Kind} {u : Sig} → ParamOn (substitute_sig f s) p ds js u → (q : Sig) × ParamOn s p ds js q × (u ≡ substitute_sig (unders js (unders ds f)) q)
param-back f (Sig.Str fs) (Item.Part l ∷ p) {ds} {js} {u} (ParamOn.field h a) =
    let g = field-back f fs h in
    let w = param-back f g.0 p (subst (λ z. ParamOn z p ds js u) g.2 a) in
    (w.0, ParamOn.field g.1 w.1, w.2)
param-back f (Sig.Fun Pure ks s (Abs.Ex [] r)) (Item.Res ∷ p) ParamOn.here = (s, ParamOn.here, refl)
param-back f (Sig.Fun Pure ks s (Abs.Ex [] r)) (Item.Res ∷ p) (ParamOn.result {ds = ds} {js = js} a) =
    let w = param-back (unders ks f) r p a in
    (w.0, ParamOn.result w.1, w.2 ∙ ap (λ g. substitute_sig (unders js g) w.0) (sym (unders-append ks ds f)))
param-back f s p h = elim h [ ]
