-- Whether a type or a signature can be said without the hidden types is decided, and what it is then is determined.
-- Main results: type-outside, sig-outside.
use Rattle.std.specs.Prelude.{List, ◌≡◌, length}
use Rattle.std.proofs.Math.Path.{sym, subst, ap, ◌∙◌}
use Rattle.omega_kinds.specs.Kind.{Kind}
use Rattle.omega_types.specs.Ty.{Ty}
use Rattle.omega_types.specs.Kinding.{HasKind}
use Rattle.omega_types.specs.Conversion.{Conv}
use Rattle.omega_types.specs.Conversion.Conv.{c_refl, c_sym, c_trans}
use Rattle.omega_types.specs.Normaliser.{normal}
use Rattle.omega_types.specs.Normalises.{NormalForm}
use Rattle.omega_types.specs.Substitution.{substitute}
use Rattle.omega_types.specs.Binders.{extend, past, raise, puts, OfKinds}
use Rattle.omega_types.proofs.Preservation.{kind-substitute, normal-kind, normal-rename, conv-rename}
use Rattle.omega_types.proofs.Hereditary.{normal-gives}
use Rattle.omega_types.proofs.LawProofs.{normal_of_normal}
use Rattle.omega_types.proofs.Readback.{unique_normal_forms}
use Rattle.sig_definitions.specs.Signatures.Sig.{Sig, Abs}
use Rattle.sig_definitions.specs.Signatures.SigSubst.{raise_abs, abs_at}
use Rattle.sig_definitions.specs.Signatures.Alike.{ConvAbs, NormalAbsForm}
use Rattle.sig_laws.specs.NormalSig.{normal_abs}
use Rattle.sig_laws.proofs.Algebra.AlikeLaws.{conv_abs-gives, conv_abs-sym, conv_abs-trans, conv_abs-substitute, substitutes-convertible, form-conv_abs, conv-form_abs, form_abs-unique, form_abs-normal, normal_abs-form, normal_abs-rename, normal_abs-self}
use Rattle.sig_laws.proofs.Algebra.Instances.{some_types, some_types-normal, kinds-length, at-substitutes, at-raise_sig, at-raise_abs}
use Rattle.sig_match_laws.proofs.AnyTypes.AnyTypesConv.{conv_abs-raise}
use Rattle.module_judgments.specs.PathUse.{Outside, SigOutside}
use Rattle.sig_definitions.specs.Verdict.{Perhaps, one, none}
use Rattle.sig_laws.specs.Decide.{dec_ty}
use Rattle.sig_laws.proofs.Formed.Forms.{abs_dec}
use Rattle.omega_types.proofs.BinderLaws.{past-maps}
use Rattle.omega_types.proofs.BinderPuts.{types-kinds}

of_kinds : (ctx ks : List Kind) → OfKinds ctx (some_types ks) ks
of_kinds ctx ks = types-kinds (some_types-normal ctx ks)

some-length : (ks : List Kind) → length (some_types ks) ≡ length ks
some-length ks = kinds-length (of_kinds ks ks)

val-same : {t u : Ty} → Sig.Val t ≡ Sig.Val u → t ≡ u
val-same e = cc

back : (ks : List Kind) (m : Ty) → substitute (puts (some_types ks) Ty.Var) (raise ks m) ≡ m
back ks m = val-same (at-raise_sig ks (some_types ks) (Sig.Val m) (some-length ks))

-- the test: the normal form, with closed types put in for the hidden ones and then raised again, is still itself
module _ (ctx ks : List Kind) (t : Ty) (k : Kind) (h : HasKind (extend ctx ks) t k) where
  abbrev within : Ty
  within = normal (extend ctx ks) t

  abbrev shown : Ty
  shown = normal ctx (substitute (puts (some_types ks) Ty.Var) within)

  within-form : NormalForm (extend ctx ks) t k within
  within-form = normal-gives h

  shown-form : NormalForm ctx (substitute (puts (some_types ks) Ty.Var) within) k shown
  shown-form = normal-gives (kind-substitute (puts (some_types ks) Ty.Var) (at-substitutes (of_kinds ctx ks)) (normal-kind within-form.0))

  raised : (m : Ty) → Outside ctx ks t k m → raise ks m ≡ within
  raised m (Outside.outside u c f) =
      unique_normal_forms (extend ctx ks) (raise ks m) within k (normal-rename (past ks) (past-maps ks ctx) f.0) within-form.0
      (c_trans (c_sym (conv-rename (past ks) (past-maps ks ctx) f.1)) (c_trans c within-form.1))

  normal-self : (m : Ty) → Outside ctx ks t k m → normal ctx m ≡ m
  normal-self m (Outside.outside u c f) = normal_of_normal ctx m k f.0

  only : (m : Ty) → Outside ctx ks t k m → m ≡ shown
  only m o = sym (normal-self m o) ∙ ap (normal ctx) (sym (back ks m) ∙ ap (substitute (puts (some_types ks) Ty.Var)) (raised m o))

  -- a type under hidden types has exactly one normal form outside of them, or none
  pub type-outside : Perhaps (λ n. Outside ctx ks t k n)
  type-outside = go (dec_ty (raise ks shown) within)
    where
      go : Dec (raise ks shown ≡ within) → Perhaps (λ n. Outside ctx ks t k n)
      go (yes e) = one shown (Outside.outside shown (subst (λ x. Conv (extend ctx ks) x t k) (sym e) (c_sym within-form.1)) (shown-form.0, c_refl (normal-kind shown-form.0))) only
      go (no n) = none (λ m o. n (subst (λ m. raise ks m ≡ within) (only m o) (raised m o)))

-- the same for signatures
module _ (ctx ks : List Kind) (x : Abs) (h : ConvAbs (extend ctx ks) x x) where
  abbrev sig_within : Abs
  sig_within = normal_abs (extend ctx ks) x

  abbrev sig_shown : Abs
  sig_shown = normal_abs ctx (abs_at (some_types ks) sig_within)

  sig_within-form : NormalAbsForm (extend ctx ks) x sig_within
  sig_within-form = conv_abs-gives h

  sig_shown-form : NormalAbsForm ctx (abs_at (some_types ks) sig_within) sig_shown
  sig_shown-form =
      let c = form-conv_abs sig_within-form in
      conv_abs-gives (conv_abs-substitute (puts (some_types ks) Ty.Var) (puts (some_types ks) Ty.Var) (substitutes-convertible (at-substitutes (of_kinds ctx ks))) (conv_abs-trans (conv_abs-sym c) c))

  sig_raised : (m : Abs) → SigOutside ctx ks x m → raise_abs ks m ≡ sig_within
  sig_raised m (SigOutside.outside y c f) =
      form_abs-unique
      (conv-form_abs (conv_abs-trans (conv_abs-sym c) (conv_abs-raise ctx ks (form-conv_abs f))) (normal_abs-form (extend ctx ks) (raise_abs ks m) (normal_abs-rename (past ks) (past-maps ks ctx) m (form_abs-normal f))))
      sig_within-form

  sig_normal-self : (m : Abs) → SigOutside ctx ks x m → normal_abs ctx m ≡ m
  sig_normal-self m (SigOutside.outside y c f) = normal_abs-self ctx m (form_abs-normal f)

  sig_only : (m : Abs) → SigOutside ctx ks x m → m ≡ sig_shown
  sig_only m o = sym (sig_normal-self m o) ∙ ap (normal_abs ctx) (sym (at-raise_abs ks (some_types ks) m (some-length ks)) ∙ ap (abs_at (some_types ks)) (sig_raised m o))

  -- a signature under hidden types has exactly one normal form outside of them, or none
  pub sig-outside : Perhaps (λ n. SigOutside ctx ks x n)
  sig-outside = go (abs_dec (raise_abs ks sig_shown) sig_within)
    where
      go : Dec (raise_abs ks sig_shown ≡ sig_within) → Perhaps (λ n. SigOutside ctx ks x n)
      go (yes e) = one sig_shown (SigOutside.outside sig_shown (subst (λ w. ConvAbs (extend ctx ks) w x) (sym e) (conv_abs-sym (form-conv_abs sig_within-form))) (normal_abs-form ctx sig_shown (form_abs-normal sig_shown-form))) sig_only
      go (no n) = none (λ m o. n (subst (λ m. raise_abs ks m ≡ sig_within) (sig_only m o) (sig_raised m o)))
