-- What is looked up is normal, at the kind of its variable.
-- Main results: found_at-normal, looked-normal.
use Rattle.std.specs.Prelude.{◌<◌, List, [], ◌∷◌, ◌++◌, ◌≡◌, length}
use Rattle.std.proofs.Common.{arith}
use Rattle.std.proofs.Math.Path.{refl, sym, ◌∙◌, ap, subst}
use Rattle.std.proofs.lemmas.List.{length-append, append-nil}
use Rattle.omega_kinds.specs.Kind.{Kind}
use Rattle.omega_types.specs.Ty.{Ty}
use Rattle.omega_types.specs.Kinding.{HasKind}
use Rattle.omega_types.specs.Conversion.{Conv}
use Rattle.omega_types.specs.Normality.{Normal}
use Rattle.omega_types.specs.Binders.{extend, own, unders, applied, arrow_over, puts, OfKinds}
use Rattle.omega_types.proofs.Preservation.{conv-kinds, conv-substitute}
use Rattle.sig_definitions.specs.Signatures.Sig.{Sig, Abs}
use Rattle.sig_definitions.specs.Signatures.Alike.{ex}
use Rattle.sig_definitions.specs.Explicit.SigPath.{SigPath, PartAt}
use Rattle.sig_laws.proofs.Algebra.EtaLaws.{operator_kind}
use Rattle.omega_types.proofs.BinderPuts.{NormalTypes, lam_over-normal, unders-substitutes, fits-length, types-fit, types-append}
use Rattle.omega_types.proofs.BinderPuts.NormalTypes.{none, next}
use Rattle.sig_laws.proofs.Algebra.Instances.{at-substitutes}
use Rattle.sig_definitions.specs.Matching.LookUp.{Found, PutFirst, FoundAt, found_at, FoundAfter, Looked}
use Rattle.sig_laws.proofs.Formed.Conditions.{match-kinds}
use Rattle.sig_match_laws.proofs.OneMatch.Unique.{append-one}
use Rattle.sig_match_laws.proofs.LookUp.Good.{good-left_result, good-right_result, good-pure, good-body, good-left_field, good-right_field, good-at}
use Rattle.sig_match_laws.proofs.LookUp.LookUpLaws.{agree-part}
use Rattle.sig_match_laws.proofs.OneMatch.Agree.{root-agreed, put-own}
use Rattle.omega_types.proofs.BinderLaws.{applied-substitute}
use Rattle.sig_laws.proofs.Algebra.PathLaws.{one-field}
use Rattle.sig_laws.specs.Good.{OkSig, OkRight}
use Rattle.sig_match_laws.specs.MatchClaims.{IsRightSig}
use Rattle.sig_laws.proofs.Formed.RootNumbers.{root-of}

arrow_over-append : (ks js : List Kind) (k : Kind) → arrow_over (ks ++ js) k ≡ arrow_over ks (arrow_over js k)
arrow_over-append [] js k = refl
arrow_over-append (j ∷ ks) js k = ap (Kind.Arrow j) (arrow_over-append ks js k)

pub found-normal : {ctx : List Kind} {s r : Sig} {p : SigPath} {t : Ty} {bs : List Kind} {u : Ty} {k : Kind} → Found ctx s p r t → PartAt r p bs (Sig.Typ u k) → OkSig ctx s → IsRightSig ctx r → Normal ctx t (arrow_over bs k)
found-normal Found.end PartAt.end w v = w.1
found-normal {ctx} {t = t} {bs = bs} {u = u} {k = k} (Found.field {p = p} hs hr f) (PartAt.field h a) w v = found-normal f (subst (λ x. PartAt x p bs (Sig.Typ u k)) (one-field h hr refl) a) (good-left_field w hs) (good-right_field v hr)
found-normal {ctx} {k = k} (Found.result {js = js} {t = t} m n f) (PartAt.result {bs = bs} a) w v =
    subst (Normal ctx _) (sym (arrow_over-append js bs k)) (lam_over-normal js (found-normal f a (good-body (good-left_result ctx js w (match-kinds m) (ex n))) (good-pure (good-right_result v))))

-- the type put in for a rooted variable has the kind of the part
pub rooted-kind : {ctx ks : List Kind} {tys : List Ty} {t u : Ty} {k j : Kind} (bs : List Kind) (before rest : List Ty)
    → tys ≡ before ++ (t ∷ rest) → OfKinds ctx tys ks
    → Conv (extend (extend ctx ks) bs) u (applied bs (Ty.Var (own ks (length before)))) k
    → HasKind ctx t j
    → j ≡ arrow_over bs k
rooted-kind {ctx} {ks} {tys} {t} {u} {k} {j} bs before rest e h c g =
    let d = conv-substitute (unders bs (puts tys Ty.Var)) (unders-substitutes bs (at-substitutes h)) c in
    operator_kind bs t g (subst (λ w. HasKind (extend ctx bs) w k) (applied-substitute bs (puts tys Ty.Var) (Ty.Var (own ks (length before))) ∙ ap (applied bs) (put-own before rest e h)) (conv-kinds d).1)

-- the type after so many
kinds-split : {ctx : List Kind} (before rest : List Ty) (first : List Kind) (k : Kind) (more : List Kind) → OfKinds ctx (before ++ rest) (first ++ (k ∷ more)) → length before ≡ length first → (t : Ty) × (others : List Ty) × (rest ≡ t ∷ others) × HasKind ctx t k
kinds-split [] [] [] k more h e = elim h [ ]
kinds-split [] (t ∷ rest) [] k more (OfKinds.next h hs) e = (t, rest, refl, h)
kinds-split [] rest (j ∷ first) k more h e = absurd (omega (arith, e))
kinds-split (b ∷ before) rest [] k more h e = absurd (omega (arith, e))
kinds-split (b ∷ before) rest (j ∷ first) k more (OfKinds.next h hs) e = kinds-split before rest first k more hs (omega (arith, e))

-- a type that is found is normal and has the kind of its hidden type
pub found_at-normal : {ctx ks : List Kind} {s r : Sig} {t : Ty} (before : List Ty) (first : List Kind) (k : Kind) (more : List Kind) → OkSig ctx s → OkRight ctx (Abs.Ex ks r) → ks ≡ first ++ (k ∷ more) → length before ≡ length first → FoundAt ctx s ks r before t → Normal ctx t k
found_at-normal {ctx} {ks} {s} {r} {t} before first k more w v e l (found_at {p = p} {n = n} root (PutFirst.put rest h nr) f) =
    let q = kinds-split before rest first k more (subst (OfKinds ctx (before ++ rest)) e h) l in
    let z = root-agreed before rest rest refl refl h h lt (root-of root) nr nr in
    let d = found-normal f (agree-part z.5.2) w (good-at v h nr) in
    subst (Normal ctx t) (sym (rooted-kind z.0 before q.1 (ap (λ x. before ++ x) q.2) h z.3 q.3)) d
  where
    lt : length before < length ks
    lt = let a = ap length e ∙ length-append first (k ∷ more) in omega (arith, l, a)

after-normal : {ctx ks : List Kind} {s r : Sig} (before rest : List Ty) (first more : List Kind) → OkSig ctx s → OkRight ctx (Abs.Ex ks r) → ks ≡ first ++ more → NormalTypes ctx before first → length rest ≡ length more → FoundAfter ctx s ks r before rest → NormalTypes ctx (before ++ rest) ks
after-normal {ctx} {ks} before [] first [] w v e n l FoundAfter.none = subst (λ x. NormalTypes ctx x ks) (sym (append-nil before)) (subst (NormalTypes ctx before) (sym (e ∙ append-nil first)) n)
after-normal before [] first (k ∷ more) w v e n l f = absurd (omega (arith, l))
after-normal before (t ∷ rest) first [] w v e n l f = absurd (omega (arith, l))
after-normal {ctx} {ks} before (t ∷ rest) first (k ∷ more) w v e n l (FoundAfter.next f fs) =
    subst (λ x. NormalTypes ctx x ks) (sym (append-one before rest t))
    (after-normal (before ++ (t ∷ [])) rest (first ++ (k ∷ [])) more w v (e ∙ append-one first more k) (types-append n (next (found_at-normal before first k more w v e (fits-length (types-fit n)) f) none)) (omega (arith, l)) fs)

-- types that are found for all hidden types are normal and have their kinds
pub looked-normal : {ctx ks : List Kind} {s r : Sig} {ts : List Ty} → OkSig ctx s → OkRight ctx (Abs.Ex ks r) → Looked ctx s ks r ts → length ts ≡ length ks → NormalTypes ctx ts ks
looked-normal {ctx} {ks} {s} {r} {ts} w v l e = after-normal [] ts [] ks w v refl none e l
