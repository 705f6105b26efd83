-- A lifted signature at the lifted types: the functor signature of the parameter and of the result at the types.
-- Main results: lift-good, lift-typed.
use Rattle.std.specs.Prelude.{ℕ, zero, ◌<◌, List, [], ◌∷◌, length, map, ◌≡◌, ◌⊎◌}
use Rattle.std.proofs.Math.Path.{refl, sym, ◌∙◌, ap, ap₂, fun_ext, subst}
use Rattle.std.proofs.Common.{arith, inl, inr}
use Rattle.omega_kinds.specs.Kind.{Kind}
use Rattle.omega_kinds.specs.declared.label.Label.{Label}
use Rattle.omega_kinds.specs.declared.effect.Effect.TheVariants.{Pure}
use Rattle.omega_types.specs.Ty.{Ty}
use Rattle.omega_types.specs.Substitution.{rename, substitute}
use Rattle.omega_types.specs.Kinding.{Lookup}
use Rattle.omega_types.specs.Kinding.HasKind.{k_var}
use Rattle.omega_types.specs.Conversion.{Conv}
use Rattle.omega_types.specs.Conversion.Conv.{c_refl}
use Rattle.omega_types.specs.Normality.{Normal}
use Rattle.omega_types.specs.Normaliser.{normal}
use Rattle.omega_types.specs.Binders.{extend, past, lifts, unders, all_over, lam_over, applied, front, puts}
use Rattle.omega_types.proofs.Algebra.{substitute-rename, substitute-substitute, substitute-id}
use Rattle.omega_types.proofs.Preservation.{Convertible, normal-kind, conv-kinds, substitute-convertible}
use Rattle.omega_types.proofs.LawProofs.{normal_of_normal}
use Rattle.omega_types.proofs.BinderPuts.{Fits, NormalTypes, types-fit, types-substitute, fits-length, puts-past, puts-map, unders-lifts, unders-var, substitute-applied, applied-lam_over, lam_over-normal, substitute-all_over, normal-all_over, placed, Placed, form-is}
use Rattle.omega_terms.proofs.NormalInstance.{form_at}
use Rattle.omega_terms.proofs.TypedShorthands.{form-form}
use Rattle.sig_definitions.specs.Signatures.Sig.{Sig, Abs}
use Rattle.sig_definitions.specs.Signatures.SigSubst.{rename_sig, substitute_sig}
use Rattle.sig_definitions.specs.Signatures.Alike.{AlikeAbs}
use Rattle.sig_definitions.specs.Signatures.Encoding.{one_part, enc}
use Rattle.sig_definitions.specs.Lifting.{own_vars, lifting, lifted_kinds, lifted_types, Lift}
use Rattle.sig_laws.proofs.Algebra.BinderLaws.{past-length}
use Rattle.sig_laws.proofs.Algebra.Own.{split_index}
use Rattle.sig_laws.proofs.Encoded.EncodingTyping.{Shape, shape-rename, shape-substitute, shape-alike, shape_abs-alike, enc-form, Good, GoodAbs, good-normal}
use Rattle.omega_types.proofs.Inverse.{same-normal}
use Rattle.sig_laws.proofs.Encoded.EncodingLaws.{enc-rename, enc-substitute}
use Rattle.sig_laws.proofs.Algebra.AlikeLaws.{form_sig-normal, form_abs-normal}

own-fit : (f : Ty → Ty) (bs : List Kind) → Fits (map f (own_vars bs)) bs
own-fit f [] = Fits.none
own-fit f (b ∷ bs) = Fits.next (own-fit f bs)

own-put : (f : Ty → Ty) (bs : List Kind) (s : ℕ → Ty) (i : ℕ) → i < length bs → puts (map f (own_vars bs)) s i ≡ f (Ty.Var i)
own-put f [] s i h = absurd (omega (arith, h))
own-put f (b ∷ bs) s i h = go (own-put f bs (front (f (Ty.Var (past bs zero))) s) i) (split_index bs i)
  where
    go : (i < length bs → puts (map f (own_vars bs)) (front (f (Ty.Var (past bs zero))) s) i ≡ f (Ty.Var i)) → (i < length bs) ⊎ ((j : ℕ) × (i ≡ past bs j)) → puts (map f (own_vars bs)) (front (f (Ty.Var (past bs zero))) s) i ≡ f (Ty.Var i)
    go inner (inl g) = inner g
    go inner (inr (j, e)) =
        let p = past-length bs j in
        let q = past-length bs zero in
        let same : i ≡ past bs zero = omega (arith, e, p, q, h) in
        subst (λ n. puts (map f (own_vars bs)) (front (f (Ty.Var (past bs zero))) s) n ≡ f (Ty.Var n)) (sym same) (puts-past (own-fit f bs) (front (f (Ty.Var (past bs zero))) s) zero)

-- the lifting on each index
pub lifting-outer : (ks bs : List Kind) (i : ℕ) → lifting ks bs (past bs i) ≡ Ty.Var (lifts ks (past bs) i)
lifting-outer ks bs i = puts-past (own-fit (applied ks) bs) (λ i. Ty.Var (lifts ks (past bs) i)) i

-- lifting applies a variable of the result to the variables of the parameter
pub lifting-own : (ks bs : List Kind) (i : ℕ) → i < length bs → lifting ks bs i ≡ applied ks (Ty.Var i)
lifting-own ks bs i h = own-put (applied ks) bs (λ i. Ty.Var (lifts ks (past bs) i)) i h

fits-lifted : {ts : List Ty} {bs : List Kind} (ks : List Kind) → Fits ts bs → Fits (lifted_types ks ts) bs
fits-lifted ks Fits.none = Fits.none
fits-lifted ks (Fits.next f) = Fits.next (fits-lifted ks f)

-- the lifted types of normal types are normal and have the lifted kinds
pub lifted-normal : {ctx : List Kind} (ks : List Kind) {bs : List Kind} {ts : List Ty} → NormalTypes (extend ctx ks) ts bs → NormalTypes ctx (lifted_types ks ts) (lifted_kinds ks bs)
lifted-normal ks NormalTypes.none = NormalTypes.none
lifted-normal ks (NormalTypes.next n ns) = NormalTypes.next (lam_over-normal ks n) (lifted-normal ks ns)

-- the parameter's variables and those from outside stay
others-stay : {ts : List Ty} {bs : List Kind} (ks : List Kind) → Fits ts bs → Path (ℕ → Ty) (λ i. unders ks (puts (lifted_types ks ts) Ty.Var) (lifts ks (past bs) i)) Ty.Var
others-stay {ts} {bs} ks f =
    unders-lifts ks (puts (lifted_types ks ts) Ty.Var) (past bs) ∙
    (ap (unders ks) (fun_ext (puts-past (fits-lifted ks f) Ty.Var)) ∙ unders-var ks)

param-stays : {ts : List Ty} {bs : List Kind} (ctx ks : List Kind) → Fits ts bs → (t : Ty) → Normal (extend ctx ks) t Kind.Star → form_at (extend ctx ks) (unders ks (puts (lifted_types ks ts) Ty.Var)) (rename (lifts ks (past bs)) t) ≡ t
param-stays {ts} {bs} ctx ks f t n =
    ap (normal (extend ctx ks)) (substitute-rename (unders ks (puts (lifted_types ks ts) Ty.Var)) (lifts ks (past bs)) t ∙ (ap (λ s. substitute s t) (others-stay ks f) ∙ substitute-id t)) ∙
    normal_of_normal (extend ctx ks) t Kind.Star n

-- a lifted variable at the lifted types, applied to the parameter's variables, is its type again
lifting-given : {ts : List Ty} {bs : List Kind} (ctx ks : List Kind) → NormalTypes (extend ctx ks) ts bs → Convertible (extend (extend ctx ks) bs) (extend ctx ks) (λ i. substitute (unders ks (puts (lifted_types ks ts) Ty.Var)) (lifting ks bs i)) (puts ts Ty.Var)
lifting-given {ts} {bs} ctx ks n i k x = go x (placed bs x)
  where
    go : {i : ℕ} → Lookup (extend (extend ctx ks) bs) i k → Placed (extend ctx ks) bs k i → Conv (extend ctx ks) (substitute (unders ks (puts (lifted_types ks ts) Ty.Var)) (lifting ks bs i)) (puts ts Ty.Var i) k
    go z (Placed.outer {i = j} y) =
        let e : substitute (unders ks (puts (lifted_types ks ts) Ty.Var)) (lifting ks bs (past bs j)) ≡ Ty.Var j =
        ap (substitute (unders ks (puts (lifted_types ks ts) Ty.Var))) (lifting-outer ks bs j) ∙
        ap (λ f. f j) (others-stay ks (types-fit n)) in
        subst (λ u. Conv (extend ctx ks) u (puts ts Ty.Var (past bs j)) k) (sym e)
        (subst (λ u. Conv (extend ctx ks) (Ty.Var j) u k) (sym (puts-past (types-fit n) Ty.Var j)) (c_refl (k_var y)))
    go z (Placed.own {i = j} h) =
        let l = fits-length (types-fit n) in
        let e : substitute (unders ks (puts (lifted_types ks ts) Ty.Var)) (lifting ks bs j) ≡ applied ks (lam_over ks (puts ts Ty.Var j)) =
        ap (substitute (unders ks (puts (lifted_types ks ts) Ty.Var))) (lifting-own ks bs j h) ∙
        (substitute-applied (puts (lifted_types ks ts) Ty.Var) ks (Ty.Var j) ∙
        ap (applied ks) (puts-map (lam_over ks) Ty.Var Ty.Var zero ts (λ m g. absurd (omega (arith, g))) j (omega (arith, h, l)))) in
        subst (λ u. Conv (extend ctx ks) u (puts ts Ty.Var j) k) (sym e) (applied-lam_over ctx ks (types-substitute n j k z))

result-given : {ts : List Ty} {bs : List Kind} (ctx ks : List Kind) → NormalTypes (extend ctx ks) ts bs → (t : Ty) → Normal (extend (extend ctx ks) bs) t Kind.Star → form_at (extend ctx ks) (unders ks (puts (lifted_types ks ts) Ty.Var)) (substitute (lifting ks bs) t) ≡ form_at (extend ctx ks) (puts ts Ty.Var) t
result-given {ts} {bs} ctx ks n t m =
    ap (normal (extend ctx ks)) (substitute-substitute (unders ks (puts (lifted_types ks ts) Ty.Var)) (lifting ks bs) t) ∙
    same-normal (substitute-convertible (λ i. substitute (unders ks (puts (lifted_types ks ts) Ty.Var)) (lifting ks bs i)) (puts ts Ty.Var) (lifting-given ctx ks n) (normal-kind m))

-- the functor's body at the lifted types
lifted-body : {ts : List Ty} {bs : List Kind} {s r : Sig} (ctx ks : List Kind) → NormalTypes (extend ctx ks) ts bs → Good (extend ctx ks) s → Good (extend (extend ctx ks) bs) r → form_at ctx (puts (lifted_types ks ts) Ty.Var) (enc (Sig.Fun Pure ks (rename_sig (lifts ks (past bs)) s) (Abs.Ex [] (substitute_sig (lifting ks bs) r)))) ≡ all_over ks (Ty.Arrow (enc s) (one_part Label.App (form_at (extend ctx ks) (puts ts Ty.Var) (enc r))))
lifted-body {ts} {bs} {s} {r} ctx ks n g h =
    let S : ℕ → Ty = unders ks (puts (lifted_types ks ts) Ty.Var) in
    let a = enc (rename_sig (lifts ks (past bs)) s) in
    let b = enc (substitute_sig (lifting ks bs) r) in
    let body : Ty = Ty.Arrow a (one_part Label.App b) in
    let p : form_at (extend ctx ks) S a ≡ enc s = ap (form_at (extend ctx ks) S) (enc-rename (lifts ks (past bs)) s) ∙ param-stays ctx ks (types-fit n) (enc s) (good-normal g) in
    let q : form_at (extend ctx ks) S b ≡ form_at (extend ctx ks) (puts ts Ty.Var) (enc r) = ap (form_at (extend ctx ks) S) (enc-substitute (lifting ks bs) r) ∙ result-given ctx ks n (enc r) (good-normal h) in
    ap (normal ctx) (substitute-all_over (puts (lifted_types ks ts) Ty.Var) ks body) ∙
    (normal-all_over ctx ks (substitute S body) ∙
    ap₂ (λ u v. all_over ks (Ty.Arrow u (one_part Label.App v))) p q)

pub record Lifted (ctx ks : List Kind) (s r : Sig) (ts : List Ty) (bs : List Kind) (y : Abs) : Type 0 where
  pub body : Sig
  pub is : y ≡ Abs.Ex (lifted_kinds ks bs) body
  pub good : Good (extend ctx (lifted_kinds ks bs)) body
  pub given : form_at ctx (puts (lifted_types ks ts) Ty.Var) (enc body) ≡ all_over ks (Ty.Arrow (enc s) (one_part Label.App (form_at (extend ctx ks) (puts ts Ty.Var) (enc r))))

-- the lifted signature of a good parameter and a good result is good
pub lift-good : {ctx ks bs : List Kind} {s r : Sig} {y : Abs} → Good (extend ctx ks) s → Good (extend (extend ctx ks) bs) r → Lift ctx ks s (Abs.Ex bs r) y → GoodAbs ctx y
lift-good {ks = ks} {bs = bs} {s = s} {r = r} g h (Lift.lift f) = record { normal = form_abs-normal f; shape = shape_abs-alike f (shape-rename (lifts ks (past bs)) s g.shape, shape-substitute (lifting ks bs) r h.shape, tt) }

-- a lifted signature at the lifted types is the functor signature of the result at the types
pub lift-typed : {ctx ks bs : List Kind} {s r : Sig} {ts : List Ty} {y : Abs} → NormalTypes (extend ctx ks) ts bs → Good (extend ctx ks) s → Good (extend (extend ctx ks) bs) r → Lift ctx ks s (Abs.Ex bs r) y → Lifted ctx ks s r ts bs y
lift-typed {ctx} {ks} {bs} {s} {r} {ts} n g h (Lift.lift (AlikeAbs.ex {t = t} f)) =
    let shape : Shape (Sig.Fun Pure ks (rename_sig (lifts ks (past bs)) s) (Abs.Ex [] (substitute_sig (lifting ks bs) r))) = (shape-rename (lifts ks (past bs)) s g.shape, shape-substitute (lifting ks bs) r h.shape, tt) in
    let e = enc-form f shape in
    record {
      body = t;
      is = refl;
      good = record { normal = form_sig-normal f; shape = shape-alike f shape };
      given = ap (form_at ctx (puts (lifted_types ks ts) Ty.Var)) (form-is e) ∙ (form-form (types-substitute (lifted-normal ks n)) (conv-kinds e.1).0 ∙ lifted-body ctx ks n g h);
    }
