-- Norm goes with every renaming that keeps kinds.
-- Main results: norm_abs-mapped.
use Rattle.std.specs.Prelude.{ℕ, ◌<◌, List, [], ◌∷◌, ◌++◌, ◌≡◌, ◌⊎◌, length}
use mathlib.Core.Logic.{inl, inr}
use Rattle.std.proofs.Common.{arith}
use Rattle.std.proofs.Math.Path.{refl, sym, ◌∙◌, ap, subst, subst₂}
use Rattle.omega_kinds.specs.Kind.{Kind}
use Rattle.omega_kinds.specs.declared.effect.Effect.TheVariants.{Pure, Impure}
use Rattle.omega_types.specs.Ty.{Ty, lift}
use Rattle.omega_types.specs.Substitution.{rename, substitute}
use Rattle.omega_types.specs.Kinding.{Lookup, HasKind}
use Rattle.omega_types.specs.Kinding.HasKind.{k_var}
use Rattle.omega_types.specs.Conversion.{Conv}
use Rattle.omega_types.specs.Mentions.{Mentions}
use Rattle.omega_types.specs.Normaliser.{normal}
use Rattle.omega_types.specs.Normalises.{Maps}
use Rattle.omega_types.specs.Binders.{extend, past, own, lifts, applied, arrow_over}
use Rattle.omega_types.proofs.Algebra.{rename-id, substitute-vars}
use Rattle.omega_types.proofs.Preservation.{conv-kinds}
use Rattle.omega_types.proofs.Hereditary.{normal-gives}
use Rattle.omega_types.proofs.LawProofs.{normal_of_rename}
use Rattle.omega_types.proofs.Inverse.{same-normal, normal-same}
use Rattle.omega_types.proofs.Mention.{unmentioned, rename-agree, lookup-unique}
use Rattle.sig_laws.proofs.Algebra.EtaLaws.{applied-kinded}
use Rattle.sig_definitions.specs.Signatures.Sig.{Sig, Abs, SigRow}
use Rattle.sig_definitions.specs.Signatures.SigSubst.{rename_sig, rename_abs, rename_sig_row}
use Rattle.sig_laws.specs.NormalSig.{normal_sig}
use Rattle.sig_definitions.specs.Signatures.Alike.{ConvSig}
use Rattle.sig_definitions.specs.Signatures.SigMentions.{MentionsSig, MentionsAbs, MentionsRow, Avoids, by_normal_form}
use Rattle.sig_definitions.specs.Explicit.SigPath.{SigPath, Item, PartAt, ParamOn}
use Rattle.sig_definitions.specs.Explicit.RootPath.{Rooted, at, ParamsAvoid}
use Rattle.sig_definitions.specs.QuantifierOrder.{Counts, counts, Taking, done, next, reordered, NormSig, Norm, NormRow}
use Rattle.sig_definitions.specs.Explicit.WellFormed.{WellFormed, WellFormedRow, WellFormedAbs, abs, explicit}
use Rattle.sig_laws.proofs.Algebra.BinderLaws.{lifts-past, unders-vars, past-length}
use Rattle.sig_laws.proofs.Algebra.SigAlgebra.{substitute-vars_sig}
use Rattle.sig_laws.proofs.Algebra.SigMention.{mentions-rename}
use Rattle.sig_laws.proofs.Algebra.AlikeLaws.{conv_sig-sym, conv_sig-trans, form-conv_sig, form_sig-unique, form_sig-normal, conv_sig-gives, normal_sig-rename, normal_sig-form, conv-form_sig}
use Rattle.sig_laws.proofs.Algebra.PathLaws.{param-alike}
use Rattle.sig_laws.proofs.Algebra.Own.{split_index}
use Rattle.sig_laws.proofs.Formed.WellFormedLaws.{well_formed-kinds, maps-substitutes, conv_sig-rename}
use Rattle.sig_norm_laws.proofs.Orders.Heads.{rename-mentions, lookup-of}
use Rattle.sig_explicit_laws.proofs.Moves.{params-moved, rooted-renamed}
use Rattle.sig_explicit_laws.proofs.Positions.{own-below}
use Rattle.sig_explicit_laws.proofs.Liftings.{lifts-below, lifts-back, mentions-applied}
use Rattle.sig_norm_laws.proofs.Norm.NormKeeps.{norm-well_formed}
use Rattle.sig_norm_laws.proofs.Norm.NormRenamed.{renumbered-sig, renumbered-abs}
use Rattle.sig_norm_laws.proofs.Orders.Aligned.{part-kind}
use Rattle.sig_laws.specs.Decide.{dec_mentions, in_var}
use Rattle.sig_package_laws.proofs.SameLaws.{field-renamed}
use Rattle.sig_package_laws.proofs.SamePackage.{rename-field}
use Rattle.omega_types.proofs.BinderLaws.{applied-kind, applied-substitute}
use Rattle.omega_types.proofs.BinderPuts.{lifts-maps}
use Rattle.sig_laws.proofs.Formed.NormGood.{own-lookup}

-- the index stays, and no other one becomes it
abbrev pub Fixes : (ℕ → ℕ) → ℕ → Type 0
Fixes r v = (r v ≡ v) × ((x : ℕ) → r x ≡ v → x ≡ v)

pub fixes-own : (ks : List Kind) (r : ℕ → ℕ) (v : ℕ) → v < length ks → Fixes (lifts ks r) v
fixes-own ks r v h = (lifts-below ks r v h, λ x e. go x e (split_index ks x))
  where
    go : (x : ℕ) → lifts ks r x ≡ v → (x < length ks) ⊎ ((y : ℕ) × (x ≡ past ks y)) → x ≡ v
    go x e (inl g) = sym (lifts-below ks r x g) ∙ e
    go x e (inr (y, f)) =
        let p = past-length ks (r y) in
        let q : past ks (r y) ≡ v = sym (lifts-past ks r y) ∙ (ap (lifts ks r) (sym f) ∙ e) in
        absurd (omega (arith, p, q, h))

pub fixes-past : (ks : List Kind) (r : ℕ → ℕ) (v : ℕ) → Fixes r v → Fixes (lifts ks r) (past ks v)
fixes-past ks r v f = (lifts-past ks r v ∙ ap (past ks) f.0, λ x e. let w = lifts-back ks r x v e in w.1 ∙ ap (past ks) (f.1 w.0 w.2))

-- types that are convertible once renamed, where the one mentions only what is fixed
conv-reflect : {ctx other : List Kind} {t u : Ty} {k : Kind} (r : ℕ → ℕ) → Maps ctx other r → HasKind ctx t k → HasKind ctx u k → ((i : ℕ) → Mentions i u → Fixes r i) → Conv other (rename r t) (rename r u) k → Conv ctx t u k
conv-reflect {ctx} {other} {t} {u} {k} r h ht hu fix c = normal-same ht hu (sym same-left ∙ (same ∙ same-right))
  where
    same : rename r (normal ctx t) ≡ rename r (normal ctx u)
    same = sym (normal_of_rename ctx other r t k h ht) ∙ (same-normal c ∙ normal_of_rename ctx other r u k h hu)

    fixed : (i : ℕ) → Mentions i (normal ctx u) → Fixes r i
    fixed i m = go (dec_mentions i u)
      where
        go : Dec (Mentions i u) → Fixes r i
        go (yes n) = fix i n
        go (no n) = absurd (unmentioned (normal-gives hu).0 (normal-gives hu).1 n m)

    same-right : rename r (normal ctx u) ≡ normal ctx u
    same-right = rename-agree r (λ i. i) (normal ctx u) (λ i m. (fixed i m).0) ∙ rename-id (normal ctx u)

    same-left : rename r (normal ctx t) ≡ normal ctx t
    same-left = rename-agree r (λ i. i) (normal ctx t) (λ i m. stays i m) ∙ rename-id (normal ctx t)
      where
        stays : (i : ℕ) → Mentions i (normal ctx t) → r i ≡ i
        stays i m =
            let w = mentions-rename r (normal ctx u) (r i) (subst (Mentions (r i)) same (rename-mentions r m)) in
            let f = fixed w.0 w.1 in
            let e : i ≡ w.0 = f.1 i (sym w.2 ∙ f.0) in
            ap r e ∙ (f.0 ∙ sym e)

-- parts and parameters

lifts-append : (ks js : List Kind) (r : ℕ → ℕ) → lifts (ks ++ js) r ≡ lifts js (lifts ks r)
lifts-append [] js r = refl
lifts-append (k ∷ ks) js r = lifts-append ks js (lift r)

part-back : (r : ℕ → ℕ) (s : Sig) (p : SigPath) {bs : List Kind} {q : Sig} → PartAt (rename_sig r s) p bs q → (z : Sig) × PartAt s p bs z × (q ≡ rename_sig (lifts bs r) z)
part-back r (Sig.Val t) [] PartAt.end = (Sig.Val t, PartAt.end, refl)
part-back r (Sig.Typ t k) [] PartAt.end = (Sig.Typ t k, PartAt.end, refl)
part-back r (Sig.Meta y) [] PartAt.end = (Sig.Meta y, PartAt.end, refl)
part-back r (Sig.Str fs) [] PartAt.end = (Sig.Str fs, PartAt.end, refl)
part-back r (Sig.Fun Impure ks s y) [] PartAt.end = (Sig.Fun Impure ks s y, PartAt.end, refl)
part-back r (Sig.Fun Pure ks s (Abs.Ex [] b)) [] PartAt.end = (Sig.Fun Pure ks s (Abs.Ex [] b), PartAt.end, refl)
part-back r (Sig.Fun Pure ks s (Abs.Ex (k ∷ js) b)) [] PartAt.end = (Sig.Fun Pure ks s (Abs.Ex (k ∷ js) b), PartAt.end, refl)
part-back r (Sig.Val t) (a ∷ p) x = elim x [ ]
part-back r (Sig.Typ t k) (a ∷ p) x = elim x [ ]
part-back r (Sig.Meta y) (a ∷ p) x = elim x [ ]
part-back r (Sig.Str fs) (Item.Part l ∷ p) {bs} {q} (PartAt.field h x) =
    let g = field-renamed r fs h in
    let w = part-back r g.0 p (subst (λ z. PartAt z p bs q) g.2 x) in
    (w.0, PartAt.field g.1 w.1, w.2)
part-back r (Sig.Str fs) (Item.Arg ∷ p) x = elim x [ ]
part-back r (Sig.Str fs) (Item.Res ∷ p) x = elim x [ ]
part-back r (Sig.Str fs) (Item.Meta ∷ p) x = elim x [ ]
part-back r (Sig.Fun Impure ks s y) (a ∷ p) x = elim x [ ]
part-back r (Sig.Fun Pure ks s (Abs.Ex (k ∷ js) b)) (a ∷ p) x = elim x [ ]
part-back r (Sig.Fun Pure ks s (Abs.Ex [] b)) (Item.Part l ∷ p) x = elim x [ ]
part-back r (Sig.Fun Pure ks s (Abs.Ex [] b)) (Item.Arg ∷ p) x = elim x [ ]
part-back r (Sig.Fun Pure ks s (Abs.Ex [] b)) (Item.Meta ∷ p) x = elim x [ ]
part-back r (Sig.Fun Pure ks s (Abs.Ex [] b)) (Item.Res ∷ p) (PartAt.result {bs = bs} x) =
    let w = part-back (lifts ks r) b p x in
    (w.0, PartAt.result w.1, w.2 ∙ ap (λ g. rename_sig g w.0) (sym (lifts-append ks bs r)))

param-rename : (r : ℕ → ℕ) {s q : Sig} {p : SigPath} {ds js : List Kind} → ParamOn s p ds js q → ParamOn (rename_sig r s) p ds js (rename_sig (lifts js (lifts ds r)) q)
param-rename r ParamOn.here = ParamOn.here
param-rename r (ParamOn.field h on) = ParamOn.field (rename-field r h) (param-rename r on)
param-rename r (ParamOn.result {ks = ks} {ds = ds} {js = js} {s = s} {r = b} {t = q} {p = p} on) =
    subst (λ g. ParamOn (Sig.Fun Pure ks (rename_sig (lifts ks r) s) (Abs.Ex [] (rename_sig (lifts ks r) b))) (Item.Res ∷ p) (ks ++ ds) js (rename_sig (lifts js g) q)) (sym (lifts-append ks ds r)) (ParamOn.result (param-rename (lifts ks r) on))

typ-back : (r : ℕ → ℕ) (q : Sig) {u : Ty} {k : Kind} → Sig.Typ u k ≡ rename_sig r q → (t : Ty) × (q ≡ Sig.Typ t k) × (u ≡ rename r t)
typ-back r (Sig.Typ t j) e = (t, cc, cc)
typ-back r (Sig.Val t) e = absurd (cc (e))
typ-back r (Sig.Meta x) e = absurd (cc (e))
typ-back r (Sig.Str fs) e = absurd (cc (e))
typ-back r (Sig.Fun f ks s x) e = absurd (cc (e))

rename-applied : (bs : List Kind) (r : ℕ → ℕ) (v : ℕ) → rename (lifts bs r) (applied bs (Ty.Var v)) ≡ applied bs (Ty.Var (r v))
rename-applied bs r v = sym (substitute-vars (lifts bs r) (applied bs (Ty.Var v))) ∙ (ap (λ f. substitute f (applied bs (Ty.Var v))) (sym (unders-vars bs r)) ∙ applied-substitute bs (λ i. Ty.Var (r i)) (Ty.Var v))

applied-fixes : (bs : List Kind) (r : ℕ → ℕ) (v : ℕ) → Fixes r v → (i : ℕ) → Mentions i (applied bs (Ty.Var v)) → Fixes (lifts bs r) i
applied-fixes bs r v f i m = go (split_index bs i)
  where
    go : (i < length bs) ⊎ ((j : ℕ) × (i ≡ past bs j)) → Fixes (lifts bs r) i
    go (inl h) = fixes-own bs r i h
    go (inr (j, e)) =
        let w : j ≡ v = in_var (mentions-applied bs (subst (λ n. Mentions n (applied bs (Ty.Var v))) e m)) in
        subst (Fixes (lifts bs r)) (sym (e ∙ ap (past bs) w)) (fixes-past bs r v f)

rooted-reflect : {ctx other : List Kind} {s : Sig} {v : ℕ} {p : SigPath} {j : Kind} (r : ℕ → ℕ) → Maps ctx other r → Fixes r v → Lookup ctx v j → ConvSig ctx s s → Rooted other (rename_sig r s) v p → Rooted ctx s v p
rooted-reflect {ctx} {other} {s} {v} {p} {j} r h f l c (at {bs = bs} {t = u} {k = k} x d) = go (part-back r s p x)
  where
    same-kind : j ≡ arrow_over bs k
    same-kind = lookup-unique (subst (λ n. Lookup other n j) f.0 (h v j l)) (lookup-of (applied-kinded bs (Ty.Var v) (conv-kinds d).1))

    applied-has : HasKind (extend ctx bs) (applied bs (Ty.Var v)) k
    applied-has = applied-kind bs (k_var (subst (Lookup ctx v) same-kind l))

    go : (z : Sig) × PartAt s p bs z × (Sig.Typ u k ≡ rename_sig (lifts bs r) z) → Rooted ctx s v p
    go w =
        let b = typ-back (lifts bs r) w.0 w.2 in
        let y : PartAt s p bs (Sig.Typ b.0 k) = subst (PartAt s p bs) b.1 w.1 in
        let e : applied bs (Ty.Var v) ≡ rename (lifts bs r) (applied bs (Ty.Var v)) = ap (λ n. applied bs (Ty.Var n)) (sym f.0) ∙ sym (rename-applied bs r v) in
        let g : Conv (extend other bs) (rename (lifts bs r) b.0) (rename (lifts bs r) (applied bs (Ty.Var v))) k = subst₂ (λ t a. Conv (extend other bs) t a k) b.2 e d in
        at y (conv-reflect (lifts bs r) (lifts-maps bs h) (part-kind c y) applied-has (applied-fixes bs r v f) g)

-- what a signature mentions, a renamed one mentions renamed
mutual
  rename_sig-mentions : (r : ℕ → ℕ) (s : Sig) (i : ℕ) → MentionsSig i s → MentionsSig (r i) (rename_sig r s)
  rename_sig-mentions r (Sig.Val t) i m = rename-mentions r m
  rename_sig-mentions r (Sig.Typ t k) i m = rename-mentions r m
  rename_sig-mentions r (Sig.Meta x) i m = rename_abs-mentions r x i m
  rename_sig-mentions r (Sig.Str fs) i m = rename_row-mentions r fs i m
  rename_sig-mentions r (Sig.Fun e ks s x) i (inl m) = inl (subst (λ n. MentionsSig n (rename_sig (lifts ks r) s)) (lifts-past ks r i) (rename_sig-mentions (lifts ks r) s (past ks i) m))
  rename_sig-mentions r (Sig.Fun e ks s x) i (inr m) = inr (subst (λ n. MentionsAbs n (rename_abs (lifts ks r) x)) (lifts-past ks r i) (rename_abs-mentions (lifts ks r) x (past ks i) m))

  rename_abs-mentions : (r : ℕ → ℕ) (x : Abs) (i : ℕ) → MentionsAbs i x → MentionsAbs (r i) (rename_abs r x)
  rename_abs-mentions r (Abs.Ex ks s) i m = subst (λ n. MentionsSig n (rename_sig (lifts ks r) s)) (lifts-past ks r i) (rename_sig-mentions (lifts ks r) s (past ks i) m)

  rename_row-mentions : (r : ℕ → ℕ) (fs : SigRow) (i : ℕ) → MentionsRow i fs → MentionsRow (r i) (rename_sig_row r fs)
  rename_row-mentions r SigRow.End i m = m
  rename_row-mentions r (SigRow.More l s rest) i (inl m) = inl (rename_sig-mentions r s i m)
  rename_row-mentions r (SigRow.More l s rest) i (inr m) = inr (rename_row-mentions r rest i m)

avoids-reflect : {ctx other : List Kind} {s : Sig} (i : ℕ) (r : ℕ → ℕ) → Maps ctx other r → r i ≡ i → ConvSig ctx s s → Avoids other (rename_sig r s) i → Avoids ctx s i
avoids-reflect {ctx} {other} {s} i r h f c (by_normal_form {n = n} a m) =
    let g = conv_sig-gives c in
    let o = conv-form_sig (conv_sig-rename r h (form-conv_sig g)) (normal_sig-form other (rename_sig r (normal_sig ctx s)) (normal_sig-rename r h (normal_sig ctx s) (form_sig-normal g))) in
    by_normal_form g (λ q. m (subst₂ (λ z v. MentionsSig v z) (form_sig-unique o a) f (rename_sig-mentions r (normal_sig ctx s) i q)))

params-reflect : {ctx other : List Kind} {s : Sig} {p : SigPath} (v : ℕ) (r : ℕ → ℕ) → Maps ctx other r → Fixes r v → ConvSig ctx s s → ParamsAvoid other (rename_sig r s) p v → ParamsAvoid ctx s p v
params-reflect {ctx} {other} {s} {p} v r h f c a ds js q on =
    let w = param-alike ctx on c in
    avoids-reflect (past js (past ds v)) (lifts js (lifts ds r)) (lifts-maps js (lifts-maps ds h)) (fixes-past js (lifts ds r) (past ds v) (fixes-past ds r v f)).0 (conv_sig-trans w.2 (conv_sig-sym w.2)) (a ds js _ (param-rename r on))

params-mapped : {ctx other : List Kind} {s : Sig} {p : SigPath} (v : ℕ) (r : ℕ → ℕ) → Maps ctx other r → Fixes r v → ConvSig ctx s s → ParamsAvoid ctx s p v → ParamsAvoid other (rename_sig r s) p v
params-mapped {ctx} {other} {s} {p} v r h f c a = subst (λ z. ParamsAvoid other z p v) (substitute-vars_sig r s)
    (params-moved s p v (λ i. Ty.Var (r i)) (maps-substitutes h) c (λ j m. subst (ParamsAvoid ctx s p) (sym (f.1 j (sym (in_var m)))) a))

counts-mapped : {ctx other ks : List Kind} {s : Sig} {taken : List ℕ} {v : ℕ} {p : SigPath} (r : ℕ → ℕ) → Maps ctx other r → ConvSig (extend ctx ks) s s → Counts ctx ks s taken v p → Counts other ks (rename_sig (lifts ks r) s) taken v p
counts-mapped {ctx} {other} {ks} {s} {taken} {v} {p} r h c (counts u x a) = counts u
    (subst (λ i. Rooted (extend other ks) (rename_sig (lifts ks r) s) i p) (lifts-below ks r (own ks v) (own-below ks v u.0)) (rooted-renamed (lifts ks r) (lifts-maps ks h) x))
    (λ j m. params-mapped (own ks j) (lifts ks r) (lifts-maps ks h) (fixes-own ks r (own ks j) (own-below ks j m.0)) c (a j m))

counts-reflect : {ctx other ks : List Kind} {s : Sig} {taken : List ℕ} {v : ℕ} {p : SigPath} (r : ℕ → ℕ) → Maps ctx other r → ConvSig (extend ctx ks) s s → Counts other ks (rename_sig (lifts ks r) s) taken v p → Counts ctx ks s taken v p
counts-reflect {ctx} {other} {ks} {s} {taken} {v} {p} r h c (counts u x a) = counts u
    (rooted-reflect (lifts ks r) (lifts-maps ks h) (fixes-own ks r (own ks v) (own-below ks v u.0)) (own-lookup ctx ks v u.0) c x)
    (λ j m. params-reflect (own ks j) (lifts ks r) (lifts-maps ks h) (fixes-own ks r (own ks j) (own-below ks j m.0)) c (a j m))

taking-mapped : {ctx other ks : List Kind} {s : Sig} {taken order : List ℕ} (r : ℕ → ℕ) → Maps ctx other r → ConvSig (extend ctx ks) s s → Taking ctx ks s taken order → Taking other ks (rename_sig (lifts ks r) s) taken order
taking-mapped r h c (done g) = done g
taking-mapped r h c (next x g t) = next (counts-mapped r h c x) (λ j o d. g j o (counts-reflect r h c d)) (taking-mapped r h c t)

mutual
  pub norm-mapped : {ctx other : List Kind} {s t : Sig} (r : ℕ → ℕ) → Maps ctx other r → WellFormed ctx s → NormSig ctx s t → NormSig other (rename_sig r s) (rename_sig r t)
  norm-mapped r h w NormSig.val = NormSig.val
  norm-mapped r h w NormSig.typ = NormSig.typ
  norm-mapped r h (WellFormed.meta (explicit {ks = ks} w x e)) (NormSig.meta n) = NormSig.meta (norm_abs-mapped r h (abs w) n)
  norm-mapped r h (WellFormed.str g w) (NormSig.str fs) = NormSig.str (norm_row-mapped r h w fs)
  norm-mapped r h (WellFormed.pure (explicit w x e) v) (NormSig.pure {ks = ks} a b) = NormSig.pure (norm-mapped (lifts ks r) (lifts-maps ks h) w a) (norm-mapped (lifts ks r) (lifts-maps ks h) v b)
  norm-mapped {other = other} r h (WellFormed.impure (explicit w g e) v) (NormSig.impure {ks = ks} {s = s} {t = t} {x = x} {y = y} {order = order} a o n) =
      subst₂ (λ z w. NormSig other (Sig.Fun Impure ks (rename_sig (lifts ks r) s) (rename_abs (lifts ks r) x)) (Sig.Fun Impure (reordered ks order) z w)) (renumbered-sig o r t) (renumbered-abs o r y)
      (NormSig.impure (norm-mapped (lifts ks r) (lifts-maps ks h) w a) (taking-mapped r h (well_formed-kinds (norm-well_formed a w)) o) (norm_abs-mapped (lifts ks r) (lifts-maps ks h) v n))

  -- norm commutes with each renaming that keeps kinds
  pub norm_abs-mapped : {ctx other : List Kind} {x y : Abs} (r : ℕ → ℕ) → Maps ctx other r → WellFormedAbs ctx x → Norm ctx x y → Norm other (rename_abs r x) (rename_abs r y)
  norm_abs-mapped {other = other} r h (abs w) (Norm.ex {ks = ks} {s = s} {t = t} {order = order} a o) =
      subst (λ z. Norm other (Abs.Ex ks (rename_sig (lifts ks r) s)) (Abs.Ex (reordered ks order) z)) (renumbered-sig o r t)
      (Norm.ex (norm-mapped (lifts ks r) (lifts-maps ks h) w a) (taking-mapped r h (well_formed-kinds (norm-well_formed a w)) o))

  pub norm_row-mapped : {ctx other : List Kind} {fs gs : SigRow} (r : ℕ → ℕ) → Maps ctx other r → WellFormedRow ctx fs → NormRow ctx fs gs → NormRow other (rename_sig_row r fs) (rename_sig_row r gs)
  norm_row-mapped r h w NormRow.end = NormRow.end
  norm_row-mapped r h (WellFormedRow.more w ws) (NormRow.more a rest) = NormRow.more (norm-mapped r h w a) (norm_row-mapped r h ws rest)
