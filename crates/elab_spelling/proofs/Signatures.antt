-- Legible signatures stay legible under renaming, under substitution, in normal form and in the order of quantifiers, and
-- their encodings are legible.
-- Main results: substitute_sig-legible, form_sig-legible, enc-legible, norm-legible.
use Rattle.std.specs.Prelude.{ℕ, suc, List, Option, Some, None}
use Rattle.std.proofs.Math.Path.{refl}
use Rattle.omega_kinds.specs.Kind.{Kind}
use Rattle.omega_kinds.specs.declared.label.Label.{Label}
use Rattle.omega_kinds.specs.Name.{Name}
use Rattle.omega_types.specs.Ty.{Ty}
use Rattle.omega_types.specs.Binders.{extend, past, lifts, unders, puts}
use Rattle.omega_types.proofs.BinderPuts.{past-maps}
use Rattle.omega_terms.specs.declared.version.Version.{Version}
use Rattle.omega_terms.specs.Coercions.{result_label}
use Rattle.sig_definitions.specs.Signatures.Sig.{Sig, Abs, SigRow, HasField}
use Rattle.sig_definitions.specs.Signatures.SigSubst.{rename_sig, rename_abs, rename_sig_row, substitute_sig, substitute_abs, substitute_sig_row, raise_abs}
use Rattle.sig_definitions.specs.Signatures.Alike.{AlikeSig, AlikeAbs, AlikeRow, ConvBetween, ConvSig, ConvAbs, NormalSigForm, NormalAbsForm, NormalSig}
use Rattle.sig_definitions.specs.Signatures.Alike.{NormalAbs, NormalSigRow}
use Rattle.sig_definitions.specs.Signatures.Encoding.{enc, enc_abs, enc_row, one_part}
use Rattle.sig_definitions.specs.QuantifierOrder.{NormSig, Norm, NormRow, renumber}
use Rattle.sig_laws.specs.NormalSig.{normal_sig, normal_abs, normal_sig_row}
use Rattle.sig_laws.proofs.Algebra.AlikeLaws.{form-conv_sig, form-conv_abs, form_sig-normal, form_abs-normal, conv_abs-sym, conv_abs-trans, normal_abs-rename}
use Rattle.sig_laws.proofs.Formed.WellFormedLaws.{conv_abs-rename}
use Rattle.elab_spelling.specs.Legible.{TyLegible, RowLegible, TypesLegible}
use Rattle.elab_spelling.specs.Signatures.{NameSpelled, SigLegible, AbsLegible, FieldsLegible}
use Rattle.elab_spelling.proofs.Types.{AllLegible, rename-legible, legible-renamed, substitute-legible, unders-legible, puts-legible, normal-legible}
use Rattle.elab_spelling.proofs.Types.{all_over-legible, ex_over-legible}
use Rattle.elab_spelling.proofs.Forms.{form-legible}
use Rattle.elab_spelling.proofs.Terms.{result_label-spelled}

module _ (v : Version) where
  mutual
    -- renaming keeps a signature legible
    pub rename_sig-legible : (r : ℕ → ℕ) (s : Sig) → SigLegible v s → SigLegible v (rename_sig r s)
    rename_sig-legible r (Sig.Val t) h = rename-legible v r t h
    rename_sig-legible r (Sig.Typ t k) h = rename-legible v r t h
    rename_sig-legible r (Sig.Meta x) h = rename_abs-legible r x h
    rename_sig-legible r (Sig.Str fs) h = rename_fields-legible r None fs h
    rename_sig-legible r (Sig.Fun f ks s x) h = (rename_sig-legible (lifts ks r) s h.0, rename_abs-legible (lifts ks r) x h.1)

    -- renaming keeps a signature that hides types legible
    pub rename_abs-legible : (r : ℕ → ℕ) (x : Abs) → AbsLegible v x → AbsLegible v (rename_abs r x)
    rename_abs-legible r (Abs.Ex ks s) h = rename_sig-legible (lifts ks r) s h

    -- renaming keeps the fields of a structure legible
    pub rename_fields-legible : (r : ℕ → ℕ) (last : Option Label) (fs : SigRow) → FieldsLegible v last fs → FieldsLegible v last (rename_sig_row r fs)
    rename_fields-legible r last SigRow.End h = tt
    rename_fields-legible r last (SigRow.More l s rest) h = (h.0, h.1, rename_sig-legible r s h.2, rename_fields-legible r (Some (Label.Name l)) rest h.3)

  mutual
    legible-renamed_sig : (r : ℕ → ℕ) (s : Sig) → SigLegible v (rename_sig r s) → SigLegible v s
    legible-renamed_sig r (Sig.Val t) h = legible-renamed v r t h
    legible-renamed_sig r (Sig.Typ t k) h = legible-renamed v r t h
    legible-renamed_sig r (Sig.Meta x) h = legible-renamed_abs r x h
    legible-renamed_sig r (Sig.Str fs) h = legible-renamed_fields r None fs h
    legible-renamed_sig r (Sig.Fun f ks s x) h = (legible-renamed_sig (lifts ks r) s h.0, legible-renamed_abs (lifts ks r) x h.1)

    legible-renamed_abs : (r : ℕ → ℕ) (x : Abs) → AbsLegible v (rename_abs r x) → AbsLegible v x
    legible-renamed_abs r (Abs.Ex ks s) h = legible-renamed_sig (lifts ks r) s h

    legible-renamed_fields : (r : ℕ → ℕ) (last : Option Label) (fs : SigRow) → FieldsLegible v last (rename_sig_row r fs) → FieldsLegible v last fs
    legible-renamed_fields r last SigRow.End h = tt
    legible-renamed_fields r last (SigRow.More l s rest) h = (h.0, h.1, legible-renamed_sig r s h.2, legible-renamed_fields r (Some (Label.Name l)) rest h.3)

  mutual
    -- a substitution of legible types keeps a signature legible
    pub substitute_sig-legible : (f : ℕ → Ty) (s : Sig) → AllLegible v f → SigLegible v s → SigLegible v (substitute_sig f s)
    substitute_sig-legible f (Sig.Val t) a h = substitute-legible v f t a h
    substitute_sig-legible f (Sig.Typ t k) a h = substitute-legible v f t a h
    substitute_sig-legible f (Sig.Meta x) a h = substitute_abs-legible f x a h
    substitute_sig-legible f (Sig.Str fs) a h = substitute_fields-legible f None fs a h
    substitute_sig-legible f (Sig.Fun e ks s x) a h = let b = unders-legible v ks f a in
        (substitute_sig-legible (unders ks f) s b h.0, substitute_abs-legible (unders ks f) x b h.1)

    pub substitute_abs-legible : (f : ℕ → Ty) (x : Abs) → AllLegible v f → AbsLegible v x → AbsLegible v (substitute_abs f x)
    substitute_abs-legible f (Abs.Ex ks s) a h = substitute_sig-legible (unders ks f) s (unders-legible v ks f a) h

    substitute_fields-legible : (f : ℕ → Ty) (last : Option Label) (fs : SigRow) → AllLegible v f → FieldsLegible v last fs
        → FieldsLegible v last (substitute_sig_row f fs)
    substitute_fields-legible f last SigRow.End a h = tt
    substitute_fields-legible f last (SigRow.More l s rest) a h = (
      h.0,
      h.1,
      substitute_sig-legible f s a h.2,
      substitute_fields-legible f
          (Some (Label.Name l)) rest a h.3,
    )

  -- a legible signature at legible types for binders' variables, the other variables being renamed, is legible
  pub sig_at-legible : (ts : List Ty) (r : ℕ → ℕ) (s : Sig) → TypesLegible v ts → SigLegible v s → SigLegible v (substitute_sig (puts ts (λ i. Ty.Var (r i))) s)
  sig_at-legible ts r s g h = substitute_sig-legible (puts ts (λ i. Ty.Var (r i))) s (puts-legible v ts (λ i. Ty.Var (r i)) g (λ i. tt)) h

  -- legible types put in for hidden ones keep a signature legible
  pub abs_at-legible : (ts : List Ty) (r : ℕ → ℕ) (x : Abs) → TypesLegible v ts → AbsLegible v x → AbsLegible v (substitute_abs (puts ts (λ i. Ty.Var (r i))) x)
  abs_at-legible ts r x g h = substitute_abs-legible (puts ts (λ i. Ty.Var (r i))) x (puts-legible v ts (λ i. Ty.Var (r i)) g (λ i. tt)) h

  mutual
    -- the normal form of a legible signature, as the function gives it, is legible
    pub normal_sig-legible : (ctx : List Kind) (s : Sig) → SigLegible v s → SigLegible v (normal_sig ctx s)
    normal_sig-legible ctx (Sig.Val t) h = normal-legible v ctx t h
    normal_sig-legible ctx (Sig.Typ t k) h = normal-legible v ctx t h
    normal_sig-legible ctx (Sig.Meta x) h = normal_abs-legible ctx x h
    normal_sig-legible ctx (Sig.Str fs) h = normal_fields-legible ctx None fs h
    normal_sig-legible ctx (Sig.Fun f ks s x) h = (normal_sig-legible (extend ctx ks) s h.0, normal_abs-legible (extend ctx ks) x h.1)

    -- the normal form of a legible signature that hides types, as the function gives it, is legible
    pub normal_abs-legible : (ctx : List Kind) (x : Abs) → AbsLegible v x → AbsLegible v (normal_abs ctx x)
    normal_abs-legible ctx (Abs.Ex ks s) h = normal_sig-legible (extend ctx ks) s h

    normal_fields-legible : (ctx : List Kind) (last : Option Label) (fs : SigRow) → FieldsLegible v last fs → FieldsLegible v last (normal_sig_row ctx fs)
    normal_fields-legible ctx last SigRow.End h = tt
    normal_fields-legible ctx last (SigRow.More l s rest) h = (h.0, h.1, normal_sig-legible ctx s h.2, normal_fields-legible ctx (Some (Label.Name l)) rest h.3)

  -- a normal signature that is convertible to a legible one
  mutual
    conv_sig-legible : {ctx : List Kind} {s n : Sig} → ConvSig ctx s n → NormalSig ctx n → SigLegible v s → SigLegible v n
    conv_sig-legible (AlikeSig.val c) n h = form-legible v (n, c) h
    conv_sig-legible (AlikeSig.typ c) n h = form-legible v (n, c) h
    conv_sig-legible (AlikeSig.meta c) n h = conv_abs-legible c n h
    conv_sig-legible (AlikeSig.str c) n h = conv_fields-legible None c n h
    conv_sig-legible (AlikeSig.fun c d) n h = (conv_sig-legible c n.0 h.0, conv_abs-legible d n.1 h.1)

    conv_abs-legible : {ctx : List Kind} {x n : Abs} → ConvAbs ctx x n → NormalAbs ctx n → AbsLegible v x → AbsLegible v n
    conv_abs-legible (AlikeAbs.ex c) n h = conv_sig-legible c n h

    conv_fields-legible : {ctx : List Kind} {fs ns : SigRow} (last : Option Label) → AlikeRow ConvBetween ctx fs ns → NormalSigRow ctx ns
        → FieldsLegible v last fs → FieldsLegible v last ns
    conv_fields-legible last AlikeRow.end n h = tt
    conv_fields-legible last (AlikeRow.more {l = l} c d) n h = (h.0, h.1, conv_sig-legible c n.0 h.2, conv_fields-legible (Some (Label.Name l)) d n.1 h.3)

  -- the normal form of a legible signature is legible
  pub form_sig-legible : {ctx : List Kind} {s n : Sig} → NormalSigForm ctx s n → SigLegible v s → SigLegible v n
  form_sig-legible f h = conv_sig-legible (form-conv_sig f) (form_sig-normal f) h

  -- the normal form of a legible signature that hides types is legible
  pub form_abs-legible : {ctx : List Kind} {x n : Abs} → NormalAbsForm ctx x n → AbsLegible v x → AbsLegible v n
  form_abs-legible f h = conv_abs-legible (form-conv_abs f) (form_abs-normal f) h

  -- a signature from outside that is convertible to a legible one
  pub outside_abs-legible : {ctx : List Kind} (ks : List Kind) {x y n : Abs} → ConvAbs (extend ctx ks) (raise_abs ks y) x → NormalAbsForm ctx y n
      → AbsLegible v x → AbsLegible v n
  outside_abs-legible {ctx} ks {n = n} c f h =
      let d = conv_abs-trans (conv_abs-sym c) (conv_abs-rename (past ks) (past-maps ctx ks) (form-conv_abs f)) in
      legible-renamed_abs (past ks) n (conv_abs-legible d (normal_abs-rename (past ks) (past-maps ctx ks) n (form_abs-normal f)) h)

  -- fields

  -- fields may as well come first
  pub fields-first : (last : Option Label) (fs : SigRow) → FieldsLegible v last fs → FieldsLegible v None fs
  fields-first last SigRow.End h = tt
  fields-first last (SigRow.More l s rest) h = (refl, h.1, h.2, h.3)

  -- each field of a legible structure is legible, and its name is spelled
  pub field-legible : {fs : SigRow} {l : Name} {s : Sig} (last : Option Label) → FieldsLegible v last fs → HasField fs l s → NameSpelled l × SigLegible v s
  field-legible last h (HasField.here) = (h.1, h.2)
  field-legible last h (HasField.there {m = m} n f) = field-legible (Some (Label.Name m)) h.3 f

  -- encodings

  mutual
    -- the encoding of a legible signature is legible
    pub enc-legible : (s : Sig) → SigLegible v s → TyLegible v (enc s)
    enc-legible (Sig.Val t) h = (refl, tt, h, tt)
    enc-legible (Sig.Typ t k) h = let u = rename-legible v suc t h in (refl, tt, ((tt, u), (tt, u)), tt)
    enc-legible (Sig.Meta x) h = let e = enc_abs-legible x h in (refl, tt, (e, e), tt)
    enc-legible (Sig.Str fs) h = enc_row-legible None fs h
    enc-legible (Sig.Fun f ks s x) h = all_over-legible v ks (Ty.Arrow (enc s) (one_part (result_label f) (enc_abs x)))
        (enc-legible s h.0, (refl, result_label-spelled v f, enc_abs-legible x h.1, tt))

    -- the encoding of a legible signature that hides types is legible
    pub enc_abs-legible : (x : Abs) → AbsLegible v x → TyLegible v (enc_abs x)
    enc_abs-legible (Abs.Ex ks s) h = ex_over-legible v ks (enc s) (enc-legible s h)

    enc_row-legible : (last : Option Label) (fs : SigRow) → FieldsLegible v last fs → RowLegible v last (enc_row fs)
    enc_row-legible last SigRow.End h = tt
    enc_row-legible last (SigRow.More l s rest) h = (h.0, h.1, enc-legible s h.2, enc_row-legible (Some (Label.Name l)) rest h.3)

  -- the order of quantifiers

  mutual
    norm_sig-legible : {ctx : List Kind} {s t : Sig} → NormSig ctx s t → SigLegible v s → SigLegible v t
    norm_sig-legible NormSig.val h = h
    norm_sig-legible NormSig.typ h = h
    norm_sig-legible (NormSig.meta n) h = norm-legible n h
    norm_sig-legible (NormSig.str n) h = norm_fields-legible None n h
    norm_sig-legible (NormSig.pure n m) h = (norm_sig-legible n h.0, norm_sig-legible m h.1)
    norm_sig-legible (NormSig.impure {ks = ks} {t = t} {y = y} {order = order} n o m) h =
        (rename_sig-legible (renumber ks order) t (norm_sig-legible n h.0), rename_abs-legible (renumber ks order) y (norm-legible m h.1))

    -- the norm of a legible signature is legible
    pub norm-legible : {ctx : List Kind} {x y : Abs} → Norm ctx x y → AbsLegible v x → AbsLegible v y
    norm-legible (Norm.ex {ks = ks} {t = t} {order = order} n o) h = rename_sig-legible (renumber ks order) t (norm_sig-legible n h)

    norm_fields-legible : {ctx : List Kind} {fs gs : SigRow} (last : Option Label) → NormRow ctx fs gs → FieldsLegible v last fs → FieldsLegible v last gs
    norm_fields-legible last NormRow.end h = tt
    norm_fields-legible last (NormRow.more {l = l} n m) h = (h.0, h.1, norm_sig-legible n h.2, norm_fields-legible (Some (Label.Name l)) m h.3)
