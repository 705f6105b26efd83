-- Rooted variables and functor parameters under a substitution of any types.
-- Main results: rooted-renamed, params-moved, shows-grown.
use Rattle.std.specs.Prelude.{ℕ, List, ◌≡◌}
use Rattle.std.proofs.Math.Path.{refl, sym, ◌∙◌, ap, subst}
use Rattle.omega_kinds.specs.Kind.{Kind}
use Rattle.omega_kinds.specs.Name.{Name}
use Rattle.omega_types.specs.Ty.{Ty}
use Rattle.omega_types.specs.Mentions.{Mentions}
use Rattle.omega_types.specs.Binders.{extend, past, unders}
use Rattle.omega_types.proofs.Preservation.{Substitutes}
use Rattle.sig_definitions.specs.Signatures.Sig.{Sig, SigRow, HasField}
use Rattle.sig_definitions.specs.Signatures.SigSubst.{substitute_sig, rename_sig}
use Rattle.sig_definitions.specs.Signatures.Alike.{ConvSig}
use Rattle.sig_definitions.specs.Signatures.SigMentions.{Avoids}
use Rattle.sig_definitions.specs.Explicit.SigPath.{SigPath, PartAt, ParamOn}
use Rattle.sig_definitions.specs.Explicit.RootPath.{Rooted, ParamsAvoid}
use Rattle.sig_laws.proofs.Algebra.AlikeLaws.{conv_sig-sym, conv_sig-trans}
use Rattle.sig_laws.proofs.Algebra.SigMention.{mentions-unders}
use Rattle.sig_laws.proofs.Algebra.PathLaws.{param-alike, param-back, one-field}
use Rattle.omega_types.proofs.BinderPuts.{unders-substitutes}
use Rattle.omega_types.specs.Normalises.{Maps}
use Rattle.sig_laws.proofs.Algebra.SigAlgebra.{substitute-vars_sig}
use Rattle.sig_laws.proofs.Formed.WellFormedLaws.{maps-substitutes}
use Rattle.sig_laws.proofs.Formed.Shows.{Shows, shows, rooted-shows, shows-rooted, shows-substitute, avoids-moved}

-- a variable is rooted, after a renaming, at the same path
pub rooted-renamed : {ctx other : List Kind} {s : Sig} {i : ℕ} {p : SigPath} (r : ℕ → ℕ) → Maps ctx other r → Rooted ctx s i p → Rooted other (rename_sig r s) (r i) p
rooted-renamed {other = other} {s = s} {i = i} {p = p} r h x = subst (λ z. Rooted other z (r i) p) (substitute-vars_sig r s) (shows-rooted refl (shows-substitute (λ j. Ty.Var (r j)) (maps-substitutes h) (rooted-shows x)))

-- parameters on a path avoid a variable after a substitution if they avoided each variable that it comes from
pub params-moved : {ctx other : List Kind} (s : Sig) (p : SigPath) (v : ℕ) (f : ℕ → Ty) → Substitutes ctx other f → ConvSig ctx s s → ((j : ℕ) → Mentions v (f j) → ParamsAvoid ctx s p j) → ParamsAvoid other (substitute_sig f s) p v
params-moved {ctx} {other} s p v f h w a ds js q on =
    let b = param-back f s p on in
    let k = param-alike ctx b.1 w in
    subst (λ z. Avoids (extend (extend other ds) js) z (past js (past ds v))) (sym b.2)
    (avoids-moved b.0 (past js (past ds v)) (unders js (unders ds f)) (unders-substitutes js (unders-substitutes ds h)) (conv_sig-trans k.2 (conv_sig-sym k.2)) from)
  where
    from : (i : ℕ) → Mentions (past js (past ds v)) (unders js (unders ds f) i) → Avoids (extend (extend ctx ds) js) (param-back f s p on).0 i
    from i m =
        let b = param-back f s p on in
        let q1 = mentions-unders js (unders ds f) (λ z. i ≡ z) (past ds v) (i, refl, m) in
        let q2 = mentions-unders ds f (λ z. q1.0 ≡ z) v (q1.0, refl, q1.2) in
        subst (λ z. Avoids (extend (extend ctx ds) js) b.0 z) (sym (q1.1 ∙ ap (past js) q2.1)) (a q2.0 q2.2 ds js b.0 b.1)

-- more fields

-- each field of the one structure is one of the other
abbrev pub FieldsIn : SigRow → SigRow → Type 0
FieldsIn fs gs = (l : Name) (s : Sig) → HasField fs l s → HasField gs l s

-- a path shows the same in a structure with more fields
pub shows-grown : {ctx : List Kind} {fs gs : SigRow} {u : Ty} {p : SigPath} → FieldsIn fs gs → Shows ctx (Sig.Str fs) u p → Shows ctx (Sig.Str gs) u p
shows-grown h (shows (PartAt.field {l = l} {s = s} g x) c) = shows (PartAt.field (h l s g) x) c

-- parameters on a path avoid the same in a structure with more fields
pub params-grown : {ctx : List Kind} {fs gs : SigRow} {u : Ty} {p : SigPath} (i : ℕ) → FieldsIn fs gs → Shows ctx (Sig.Str fs) u p → ParamsAvoid ctx (Sig.Str fs) p i → ParamsAvoid ctx (Sig.Str gs) p i
params-grown i h (shows (PartAt.field {l = l} {s = s} {p = p} g x) c) a ds js q (ParamOn.field k on) =
    a ds js q (ParamOn.field g (subst (λ z. ParamOn z p ds js q) (one-field k (h l s g) refl) on))
