-- Types that a path shows, with types put in and in signatures that are alike; and which variables are then mentioned.
-- Main results: shows-substitute, shows-alike.
use Rattle.std.specs.Prelude.{ℕ, List, ◌≡◌}
use Rattle.std.proofs.Math.Path.{subst}
use Rattle.omega_kinds.specs.Kind.{Kind}
use Rattle.omega_types.specs.Ty.{Ty}
use Rattle.omega_types.specs.Substitution.{substitute}
use Rattle.omega_types.specs.Conversion.{Conv}
use Rattle.omega_types.specs.Mentions.{Mentions}
use Rattle.omega_types.specs.Binders.{extend, unders, applied}
use Rattle.omega_types.specs.Conversion.Conv.{c_sym, c_trans}
use Rattle.omega_types.proofs.Preservation.{Substitutes, conv-substitute}
use Rattle.sig_definitions.specs.Signatures.Sig.{Sig}
use Rattle.sig_definitions.specs.Signatures.SigSubst.{substitute_sig}
use Rattle.sig_laws.specs.NormalSig.{normal_sig}
use Rattle.sig_definitions.specs.Signatures.Alike.{ConvSig, NormalSigForm, AlikeSig, typ, ConvBetween}
use Rattle.sig_definitions.specs.Signatures.SigMentions.{MentionsSig, Avoids, by_normal_form}
use Rattle.sig_definitions.specs.Explicit.SigPath.{SigPath, PartAt}
use Rattle.sig_definitions.specs.Explicit.RootPath.{Rooted, at}
use Rattle.sig_laws.proofs.Algebra.AlikeLaws.{conv_sig-sym, conv_sig-trans, form-conv_sig, form_sig-normal, form_sig-unique, conv_sig-gives, conv_sig-substitute, substitutes-convertible}
use Rattle.sig_laws.proofs.Algebra.SigMention.{mentions_sig-substitute, unmentioned_sig}
use Rattle.sig_laws.proofs.Algebra.PathLaws.{part-substitute, part-alike}
use Rattle.omega_types.proofs.BinderLaws.{applied-substitute}
use Rattle.omega_types.proofs.BinderPuts.{unders-substitutes}

-- the part at p is the type u, applied to exactly the variables of the functors on p
pub data Shows (ctx : List Kind) (s : Sig) (u : Ty) (p : SigPath) : Type 0 where
  shows : {bs : List Kind} {t : Ty} {k : Kind} → PartAt s p bs (Sig.Typ t k) → Conv (extend ctx bs) t (applied bs u) k → Shows ctx s u p

-- a path at which a variable is rooted shows the variable
pub rooted-shows : {ctx : List Kind} {s : Sig} {i : ℕ} {p : SigPath} → Rooted ctx s i p → Shows ctx s (Ty.Var i) p
rooted-shows (at x c) = shows x c

-- a path that shows a variable is one at which it is rooted
pub shows-rooted : {ctx : List Kind} {s : Sig} {i : ℕ} {u : Ty} {p : SigPath} → u ≡ Ty.Var i → Shows ctx s u p → Rooted ctx s i p
shows-rooted {ctx} e (shows {bs = bs} {t = t} {k = k} x c) = at x (subst (λ v. Conv (extend ctx bs) t (applied bs v) k) e c)

-- a path shows, after a substitution, the type that it showed, substituted
pub shows-substitute : {ctx other : List Kind} {s : Sig} {u : Ty} {p : SigPath} (f : ℕ → Ty) → Substitutes ctx other f → Shows ctx s u p → Shows other (substitute_sig f s) (substitute f u) p
shows-substitute {other = other} {u = u} f h (shows {bs = bs} {t = t} {k = k} x c) =
    shows (part-substitute f x) (subst (λ v. Conv (extend other bs) (substitute (unders bs f) t) v k) (applied-substitute bs f u) (conv-substitute (unders bs f) (unders-substitutes bs h) c))

-- convertible signatures show the same types at the same paths
pub shows-alike : {ctx : List Kind} {s t : Sig} {u : Ty} {p : SigPath} → Shows ctx s u p → ConvSig ctx s t → Shows ctx t u p
shows-alike {ctx} {s} {t} {u} {p} (shows {bs = bs} {t = a} {k = k} x c) e = go (part-alike ctx x e)
  where
    end_part : {z : Sig} → PartAt t p bs z → AlikeSig ConvBetween (extend ctx bs) (Sig.Typ a k) z → Shows ctx t u p
    end_part q (typ f) = shows q (c_trans (c_sym f) c)

    go : (z : Sig) × PartAt t p bs z × AlikeSig ConvBetween (extend ctx bs) (Sig.Typ a k) z → Shows ctx t u p
    go w = end_part w.1 w.2

-- a signature with types put in mentions a variable only where a type does that is put in for a mentioned variable
pub avoids-moved : {ctx other : List Kind} (s : Sig) (v : ℕ) (f : ℕ → Ty) → Substitutes ctx other f → ConvSig ctx s s → ((j : ℕ) → Mentions v (f j) → Avoids ctx s j) → Avoids other (substitute_sig f s) v
avoids-moved {ctx} {other} s v f h w a =
    let n = conv_sig-gives w in
    let c = conv_sig-substitute f f (substitutes-convertible h) (form-conv_sig n) in
    let g = conv_sig-gives c in
    by_normal_form g (unmentioned_sig v (conv_sig-trans (conv_sig-sym c) (form-conv_sig g)) (form_sig-normal g) (λ m. let q = mentions_sig-substitute f (normal_sig ctx s) v m in not-there q.0 n (a q.0 q.2) q.1))
  where
    not-there : {n : Sig} (j : ℕ) → NormalSigForm ctx s n → Avoids ctx s j → MentionsSig j n → ⊥
    not-there j g (by_normal_form k m) q = m (subst (MentionsSig j) (form_sig-unique g k) q)
