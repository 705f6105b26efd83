-- What the order of quantifiers asks is decided.
-- Main results: params_dec, rooted_dec.
use Rattle.std.specs.Prelude.{ℕ, zero, suc, List, [], ◌∷◌, ◌++◌, ◌≡◌}
use Rattle.std.proofs.Math.Path.{refl, subst, subst₂}
use Rattle.omega_kinds.specs.Kind.{Kind, Kind-discrete}
use Rattle.omega_kinds.specs.declared.effect.Effect.TheVariants.{Pure, Impure}
use Rattle.omega_kinds.specs.Name.{Name}
use Rattle.omega_types.specs.Ty.{Ty}
use Rattle.omega_types.specs.Kinding.{Lookup, HasKind}
use Rattle.omega_types.specs.Kinding.HasKind.{k_var}
use Rattle.omega_types.specs.Conversion.{Conv}
use Rattle.omega_types.specs.Normaliser.{normal}
use Rattle.omega_types.specs.Binders.{extend, past, arrow_over, applied}
use Rattle.omega_types.proofs.Preservation.{conv-kinds}
use Rattle.omega_types.proofs.Inverse.{same-normal, normal-same}
use Rattle.sig_definitions.specs.Signatures.Sig.{Sig, Abs, HasField}
use Rattle.sig_laws.specs.NormalSig.{normal_sig}
use Rattle.sig_definitions.specs.Signatures.Alike.{ConvSig}
use Rattle.sig_definitions.specs.Signatures.SigMentions.{MentionsSig, Avoids, by_normal_form}
use Rattle.sig_definitions.specs.Explicit.SigPath.{SigPath, Item, PartAt, ParamOn}
use Rattle.sig_definitions.specs.Explicit.RootPath.{Rooted, at, ParamsAvoid}
use Rattle.sig_laws.proofs.Algebra.AlikeLaws.{conv_sig-gives, form_sig-unique}
use Rattle.sig_laws.proofs.Algebra.BinderLaws.{extend-append, past-append}
use Rattle.sig_laws.proofs.Algebra.EtaLaws.{applied-kinded}
use Rattle.sig_explicit_laws.proofs.Liftings.{params-result}
use Rattle.sig_norm_laws.proofs.Orders.Aligned.{part-kind, str-kinds, param-kinds, result-kinds}
use Rattle.sig_norm_laws.proofs.Orders.Heads.{lookup-of}
use Rattle.omega_types.proofs.BinderLaws.{applied-kind}
use Rattle.sig_laws.specs.Decide.{dec_by, dec_ty, dec_mentions_sig}
use Rattle.sig_laws.proofs.Algebra.PathLaws.{one-field}
use Rattle.sig_laws.proofs.Algebra.Paths.{one-type}
use Rattle.sig_definitions.specs.Verdict.{Perhaps}
use Rattle.sig_laws.proofs.Formed.Forms.{field-at}

-- equality

-- mentions

pub avoids_dec : {ctx : List Kind} {s : Sig} (i : ℕ) → ConvSig ctx s s → Dec (Avoids ctx s i)
avoids_dec {ctx} {s} i c = go (dec_mentions_sig i (normal_sig ctx s))
  where
    against : MentionsSig i (normal_sig ctx s) → Avoids ctx s i → ⊥
    against m (by_normal_form f h) = h (subst (MentionsSig i) (form_sig-unique (conv_sig-gives c) f) m)

    go : Dec (MentionsSig i (normal_sig ctx s)) → Dec (Avoids ctx s i)
    go (yes m) = no (against m)
    go (no h) = yes (by_normal_form (conv_sig-gives c) h)

-- the parameters on a path

abbrev pub Enters : SigPath → Type 0
Enters [] = ⊥
Enters (Item.Part l ∷ p) = Unit {0}
Enters (Item.Arg ∷ p) = ⊥
Enters (Item.Res ∷ p) = Unit {0}
Enters (Item.Meta ∷ p) = ⊥

-- a path that goes through a functor's parameter is one that can go on
pub param-enters : {s t : Sig} {p : SigPath} {ds ks : List Kind} → ParamOn s p ds ks t → Enters p
param-enters ParamOn.here = tt
param-enters (ParamOn.field h on) = tt
param-enters (ParamOn.result on) = tt

abbrev IsStr : Sig → Type 0
IsStr (Sig.Str fs) = Unit {0}
IsStr s = ⊥

param-str : {s t : Sig} {l : Name} {p : SigPath} {ds ks : List Kind} → ParamOn s (Item.Part l ∷ p) ds ks t → IsStr s
param-str (ParamOn.field h on) = tt

-- whether the parameters on a path avoid a variable is decided
pub params_dec : (p : SigPath) (ctx : List Kind) (s : Sig) (i : ℕ) → ConvSig ctx s s → Dec (ParamsAvoid ctx s p i)
params_dec [] ctx s i c = yes (λ ds ks t on. absurd (param-enters on))
params_dec (Item.Arg ∷ p) ctx s i c = yes (λ ds ks t on. absurd (param-enters on))
params_dec (Item.Meta ∷ p) ctx s i c = yes (λ ds ks t on. absurd (param-enters on))
params_dec (Item.Part l ∷ p) ctx (Sig.Str fs) i c = go (field-at fs l) (λ s h. params_dec p ctx s i (str-kinds c h))
  where
    enter : {s : Sig} → HasField fs l s → ParamsAvoid ctx s p i → ParamsAvoid ctx (Sig.Str fs) (Item.Part l ∷ p) i
    enter h a ds ks t (ParamOn.field g on) = a ds ks t (subst (λ z. ParamOn z p ds ks t) (one-field g h refl) on)

    no-field : ((x : Sig) → HasField fs l x → ⊥) → ParamsAvoid ctx (Sig.Str fs) (Item.Part l ∷ p) i
    no-field h ds ks t (ParamOn.field {s = s} g on) = absurd (h s g)

    go : Perhaps (λ s. HasField fs l s) → ((s : Sig) → HasField fs l s → Dec (ParamsAvoid ctx s p i)) → Dec (ParamsAvoid ctx (Sig.Str fs) (Item.Part l ∷ p) i)
    go (Perhaps.one s h only) r = dec_by (enter h) (λ a ds ks t on. a ds ks t (ParamOn.field h on)) (r s h)
    go (Perhaps.none h) r = yes (no-field h)
params_dec (Item.Part l ∷ p) ctx (Sig.Val t) i c = yes (λ ds ks t on. elim on [ ])
params_dec (Item.Part l ∷ p) ctx (Sig.Typ t k) i c = yes (λ ds ks t on. elim on [ ])
params_dec (Item.Part l ∷ p) ctx (Sig.Meta x) i c = yes (λ ds ks t on. elim on [ ])
params_dec (Item.Part l ∷ p) ctx (Sig.Fun e ks s x) i c = yes (λ ds ks t on. absurd (param-str on))
params_dec (Item.Res ∷ p) ctx (Sig.Val t) i c = yes (λ ds ks t on. elim on [ ])
params_dec (Item.Res ∷ p) ctx (Sig.Typ t k) i c = yes (λ ds ks t on. elim on [ ])
params_dec (Item.Res ∷ p) ctx (Sig.Meta x) i c = yes (λ ds ks t on. elim on [ ])
params_dec (Item.Res ∷ p) ctx (Sig.Str fs) i c = yes (λ ds ks t on. elim on [ ])
params_dec (Item.Res ∷ p) ctx (Sig.Fun Impure ks s x) i c = yes (λ ds ks t on. elim on [ ])
params_dec (Item.Res ∷ p) ctx (Sig.Fun Pure ks s (Abs.Ex (k ∷ more) r)) i c = yes (λ ds ks t on. elim on [ ])
params_dec (Item.Res ∷ p) ctx (Sig.Fun Pure ks s (Abs.Ex [] r)) i c = go (avoids_dec (past ks i) (param-kinds c)) (params_dec p (extend ctx ks) r (past ks i) (result-kinds c))
  where
    inner : ParamsAvoid ctx (Sig.Fun Pure ks s (Abs.Ex [] r)) (Item.Res ∷ p) i → ParamsAvoid (extend ctx ks) r p (past ks i)
    inner a ds js t on = subst₂ (λ z n. Avoids (extend z js) t (past js n)) (extend-append ks ds ctx) (past-append ks ds i) (a (ks ++ ds) js t (ParamOn.result on))

    go : Dec (Avoids (extend ctx ks) s (past ks i)) → Dec (ParamsAvoid (extend ctx ks) r p (past ks i)) → Dec (ParamsAvoid ctx (Sig.Fun Pure ks s (Abs.Ex [] r)) (Item.Res ∷ p) i)
    go (yes a) (yes b) = yes (params-result ctx ks p i a b)
    go (no a) d = no (λ h. a (h [] ks s ParamOn.here))
    go (yes a) (no b) = no (λ h. b (inner h))

-- rooted variables

lookup_dec : (ctx : List Kind) (i : ℕ) (k : Kind) → Dec (Lookup ctx i k)
lookup_dec [] i k = no (λ h. elim h [ ])
lookup_dec (j ∷ ctx) zero k = dec_by (λ e. subst (Lookup (j ∷ ctx) zero) e Lookup.here) same (Kind-discrete j k)
  where
    same : {x : Kind} → Lookup (j ∷ ctx) zero x → j ≡ x
    same Lookup.here = refl
lookup_dec (j ∷ ctx) (suc i) k = dec_by Lookup.there below (lookup_dec ctx i k)
  where
    below : {x : Kind} → Lookup (j ∷ ctx) (suc i) x → Lookup ctx i x
    below (Lookup.there h) = h

pub head_dec : (ctx bs : List Kind) (t : Ty) (k : Kind) (i : ℕ) → HasKind (extend ctx bs) t k → Dec (Conv (extend ctx bs) t (applied bs (Ty.Var i)) k)
head_dec ctx bs t k i h = go (lookup_dec ctx i (arrow_over bs k))
  where
    with-kind : HasKind (extend ctx bs) (applied bs (Ty.Var i)) k → Dec (normal (extend ctx bs) t ≡ normal (extend ctx bs) (applied bs (Ty.Var i))) → Dec (Conv (extend ctx bs) t (applied bs (Ty.Var i)) k)
    with-kind g (yes e) = yes (normal-same h g e)
    with-kind g (no d) = no (λ c. d (same-normal c))

    go : Dec (Lookup ctx i (arrow_over bs k)) → Dec (Conv (extend ctx bs) t (applied bs (Ty.Var i)) k)
    go (yes x) = with-kind (applied-kind bs (k_var x)) (dec_ty (normal (extend ctx bs) t) (normal (extend ctx bs) (applied bs (Ty.Var i))))
    go (no d) = no (λ c. d (lookup-of (applied-kinded bs (Ty.Var i) (conv-kinds c).1)))

-- whether a variable is rooted at a path to a type is decided
pub rooted_dec : {ctx : List Kind} {s : Sig} {p : SigPath} {bs : List Kind} {t : Ty} {k : Kind} (i : ℕ) → ConvSig ctx s s → PartAt s p bs (Sig.Typ t k) → Dec (Rooted ctx s i p)
rooted_dec {ctx} {s} {p} {bs} {t} {k} i c x = dec_by (λ d. at x d) back (head_dec ctx bs t k i (part-kind c x))
  where
    back : Rooted ctx s i p → Conv (extend ctx bs) t (applied bs (Ty.Var i)) k
    back (at {bs = cs} {t = u} {k = j} y d) =
        let e = one-type y x refl in
        subst (λ n. Conv (extend ctx bs) t (applied bs (Ty.Var i)) n) e.2 (subst₂ (λ z w. Conv (extend ctx z) w (applied z (Ty.Var i)) j) e.0 e.1 d)
