-- Hidden variables looked up one after the other.
-- Main results: next-some, next-none, first-more, first-all.
use Rattle.std.proofs.Common.{◌≡◌, ◌<◌, List, [], ◌∷◌, ◌++◌, length, Option, Some, None, refl, sym, ap, subst}
use Rattle.omega_kinds.specs.Kind.{Kind}
use Rattle.omega_types.specs.Ty.{Ty}
use Rattle.omega_types.specs.Binders.{OfKinds}
use Rattle.omega_types.proofs.BinderPuts.{forms-kinds}
use Rattle.sig_definitions.specs.Signatures.Sig.{Sig, Abs}
use Rattle.sig_definitions.specs.Signatures.SigSubst.{sig_at}
use Rattle.sig_definitions.specs.Signatures.Alike.{IsSigAt}
use Rattle.sig_definitions.specs.Explicit.SigPath.{SigPath}
use Rattle.sig_definitions.specs.Explicit.RootPath.{LeastRoot}
use Rattle.sig_definitions.specs.Matching.LookUp.{Found, PutFirst, FoundAt, found_at, FoundAfter, Looked}
use Rattle.sig_definitions.specs.Matching.MatchRefusal.{NoRoot, RefusesMatch}
use Rattle.sig_laws.specs.NormalSig.{normal_sig}
use Rattle.sig_laws.proofs.Formed.Conditions.{explicit-right, explicit-roots}
use Rattle.sig_match_laws.proofs.LookUp.LookUpLaws.{found-agree}
use Rattle.sig_match_laws.proofs.LookUp.FoundKinds.{found_at-normal}
use Rattle.sig_match_laws.proofs.Function.LookSound.{at-form}
use Rattle.sig_match_laws.proofs.OneMatch.Agree.{root-agreed}
use Rattle.semantic_sigs.specs.Inner.View.{kinds_of, body_of}
use Rattle.sig_match.specs.Inner.Put.{AreNormal, filled}
use Rattle.sig_match.specs.Inner.Looking.{Looks, LookSides, FirstFound, NextSides}
use Rattle.sig_match.proofs.Fill.{any-normal, after, filled-after, filled-all, split, filled-more}
use Rattle.sig_laws.proofs.Algebra.Paths.{one_least}
use Rattle.sig_laws.proofs.Formed.RootNumbers.{root-of}
use Rattle.sig_laws.specs.Good.{OkSig, OkRight}

-- the next hidden type may be looked up in the two sides
pub next-sides : {ctx : List Kind} {s : Sig} (x : Abs) {ts : List Ty} (root : Option SigPath) → NextSides ctx s x ts root → LookSides ctx s (kinds_of x) (body_of x) ts
next-sides (Abs.Ex ks r) root n = (n.0, (explicit-right n.1.0, n.1.1), n.2.1)

-- the right side at the types found and any others
put-form : {ctx ks : List Kind} {r : Sig} (ts : List Ty) → OkRight ctx (Abs.Ex ks r) → AreNormal ctx (filled ks ts) ks → IsSigAt ctx r (filled ks ts) (normal_sig ctx (sig_at (filled ks ts) r))
put-form ts v a = at-form v (forms-kinds a)

next-found : {ctx ks : List Kind} {s r n : Sig} {ts : List Ty} {p : SigPath} {t : Ty} → length ts < length ks → LeastRoot ctx ks r (length ts) p → AreNormal ctx (filled ks ts) ks → IsSigAt ctx r (filled ks ts) n → Found ctx s p n t → FoundAt ctx s ks r ts t
next-found {ctx} {ks} {r = r} {n = n} {ts = ts} lt root a f d =
    let e = filled-after ks ts lt in
    found_at root (PutFirst.put (after ks ts) (subst (λ us. OfKinds ctx us ks) e (forms-kinds a)) (subst (λ us. IsSigAt ctx r us n) e f)) d

next-lost : {ctx ks : List Kind} {s r n : Sig} {ts : List Ty} {p : SigPath} {t : Ty} → length ts < length ks → LeastRoot ctx ks r (length ts) p → AreNormal ctx (filled ks ts) ks → IsSigAt ctx r (filled ks ts) n → ((t : Ty) → Found ctx s p n t → ⊥) → FoundAt ctx s ks r ts t → ⊥
next-lost {ctx} {ks} {s} {r} {n} {ts} {p} {t} lt root a f never (found_at {p = q} {n = m} k (PutFirst.put others g h) d) =
    let z = root-agreed ts others (after ks ts) refl (filled-after ks ts lt) g (forms-kinds a) lt (root-of root) h f in
    never t (found-agree z.5.2 (subst (λ x. Found ctx s x m t) (one_least k root) d))

-- what is looked up along the least root path is found for the next hidden type
pub next-some : (ctx : List Kind) (s : Sig) (x : Abs) (ts : List Ty) (p : SigPath) (t : Ty) → NextSides ctx s x ts (Some p) → ((n : Sig) → IsSigAt ctx (body_of x) (filled (kinds_of x) ts) n → Looks ctx s p n (Some t)) → FoundAt ctx s (kinds_of x) (body_of x) ts t
next-some ctx s (Abs.Ex ks r) ts p t v k = let f = put-form ts v.1 v.2.1 in next-found v.3 v.4 v.2.1 f (k _ f)

-- where nothing is, matching is refused: the hidden type has no root on the left
pub next-none : (ctx : List Kind) (s : Sig) (x : Abs) (ts : List Ty) (p : SigPath) → NextSides ctx s x ts (Some p) → ((n : Sig) → IsSigAt ctx (body_of x) (filled (kinds_of x) ts) n → Looks ctx s p n None) → RefusesMatch ctx s x (NoRoot (length ts) p)
next-none ctx s (Abs.Ex ks r) ts p v k = let f = put-form ts v.1 v.2.1 in RefusesMatch.no_root v.2.0 v.3 v.4 (λ t d. next-lost v.3 v.4 v.2.1 f (k _ f) d)

-- a hidden variable has a root path
pub rooted : (ctx : List Kind) (s : Sig) (x : Abs) (ts : List Ty) → NextSides ctx s x ts None → ⊥
rooted ctx s (Abs.Ex ks r) ts v = let q = explicit-roots v.1.0 (length ts) v.3 in v.4 q.0 q.1

-- one type more

looked-more : {ctx ks : List Kind} {s r : Sig} (before more : List Ty) (t : Ty) → FoundAfter ctx s ks r before more → FoundAt ctx s ks r (before ++ more) t → FoundAfter ctx s ks r before (more ++ (t ∷ []))
looked-more {ctx} {ks} {s} {r} before [] t FoundAfter.none f = FoundAfter.next (subst (λ us. FoundAt ctx s ks r us t) (nothing before) f) FoundAfter.none
  where
    nothing : (us : List Ty) → us ++ [] ≡ us
    nothing [] = refl
    nothing (u ∷ us) = ap (◌∷◌ u) (nothing us)
looked-more {ctx} {ks} {s} {r} before (u ∷ more) t (FoundAfter.next g gs) f = FoundAfter.next g (looked-more (before ++ (u ∷ [])) more t gs (subst (λ us. FoundAt ctx s ks r us t) (one before more u) f))
  where
    one : (us vs : List Ty) (u : Ty) → us ++ (u ∷ vs) ≡ (us ++ (u ∷ [])) ++ vs
    one [] vs u = refl
    one (w ∷ us) vs u = ap (◌∷◌ w) (one us vs u)

-- before the first hidden type is looked up, none is found
pub first-none : (ctx : List Kind) (s : Sig) (x : Abs) → FirstFound ctx s x []
first-none ctx s (Abs.Ex ks r) = (FoundAfter.none, any-normal ctx ks)

-- with the next hidden type found, those found so far are one more
pub first-more : (ctx : List Kind) (s : Sig) (x : Abs) (ts : List Ty) (t : Ty) → OkSig ctx s → OkRight ctx x → length ts < length (kinds_of x) → FirstFound ctx s x ts → FoundAt ctx s (kinds_of x) (body_of x) ts t → FirstFound ctx s x (ts ++ (t ∷ []))
first-more ctx s (Abs.Ex ks r) ts t w v lt k f =
    let z = split ks (length ts) lt in
    let n = found_at-normal ts z.0 z.1 z.2 w v z.3 z.4 f in
    (looked-more [] ts t k.0 f, subst (λ js. AreNormal ctx (filled js (ts ++ (t ∷ []))) js) (sym z.3) (filled-more ctx z.0 z.1 z.2 ts t z.4 n (subst (λ js. AreNormal ctx (filled js ts) js) z.3 k.1)))

-- when as many hidden types are found as there are, all are, and their types are normal
pub first-all : (ctx : List Kind) (s : Sig) (x : Abs) (ts : List Ty) → length ts ≡ length (kinds_of x) → FirstFound ctx s x ts → Looked ctx s (kinds_of x) (body_of x) ts × AreNormal ctx ts (kinds_of x)
first-all ctx s (Abs.Ex ks r) ts e k = (k.0, subst (λ us. AreNormal ctx us ks) (filled-all ks ts e) k.1)
