-- Looking up finds what a match has, at most one type, and the same on right sides that agree.
-- Main results: found-unique, found_at-unique, match-looked.
use Rattle.std.specs.Prelude.{◌+◌, ◌≤◌, ◌<◌, List, [], ◌∷◌, ◌++◌, ◌≡◌, Some, length}
use Rattle.std.proofs.Common.{arith}
use Rattle.std.proofs.Math.Path.{refl, sym, ◌∙◌, ap, ap₂, subst, subst₂}
use Rattle.std.proofs.lemmas.List.{length-append, append-nil}
use Rattle.omega_kinds.specs.Kind.{Kind}
use Rattle.omega_kinds.specs.declared.effect.Effect.TheVariants.{Pure}
use Rattle.omega_types.specs.Ty.{Ty}
use Rattle.omega_types.specs.Binders.{extend, lam_over, OfKinds}
use Rattle.omega_terms.specs.Term.{Term}
use Rattle.sig_definitions.specs.Signatures.Sig.{Sig, Abs, HasField}
use Rattle.sig_definitions.specs.Signatures.SigSubst.{raise_abs, sig_at, sig_at_under, abs_at_under}
use Rattle.sig_definitions.specs.Signatures.Alike.{NormalSigForm, NormalAbsForm, ex}
use Rattle.sig_definitions.specs.Explicit.SigPath.{SigPath, Item, PartAt}
use Rattle.sig_definitions.specs.Explicit.RootPath.{LeastRoot, least}
use Rattle.sig_definitions.specs.Matching.Subtyping.{Sub, SubResult, Match}
use Rattle.sig_laws.proofs.Algebra.BinderLaws.{lam_over-append}
use Rattle.sig_laws.proofs.Algebra.AlikeLaws.{form_sig-unique}
use Rattle.omega_types.proofs.BinderPuts.{NormalTypes, types-kinds}
use Rattle.sig_definitions.specs.Matching.LookUp.{Found, PutFirst, FoundAt, found_at, FoundAfter, Looked}
use Rattle.sig_match_laws.specs.RootSearch.{least_root}
use Rattle.sig_match_laws.proofs.OneMatch.Views.{match-view, fields-at}
use Rattle.sig_match_laws.proofs.OneMatch.Agree.{Agree, type_shown, root-agreed}
use Rattle.sig_laws.proofs.Formed.Conditions.{explicit-right, explicit-roots, match-kinds}
use Rattle.sig_match_laws.proofs.OneMatch.Unique.{append-one, length-below, match-unique}
use Rattle.sig_match_laws.proofs.LookUp.Roots.{least_root-exists}
use Rattle.sig_match_laws.proofs.LookUp.Good.{good-param, good-left_result, good-right_param, good-right_result, good-pure, good-body, good-left_field, good-right_field, good-at}
use Rattle.sig_laws.proofs.Formed.WellFormedLaws.{explicit-body}
use Rattle.sig_laws.proofs.Algebra.PathLaws.{one-field}
use Rattle.sig_laws.proofs.Algebra.Paths.{one_least}
use Rattle.sig_laws.specs.Good.{OkSig, OkRight}
use Rattle.sig_match_laws.specs.MatchClaims.{IsRightSig}
use Rattle.sig_laws.proofs.Formed.RootNumbers.{root-of}

-- subtyping finds the type at each path

found-result : {ctx ks js : List Kind} {a b r y : Sig} {x : Abs} {ts : List Ty} {f : Term} {p : SigPath} (bs : List Kind) (u : Ty)
    → Match (extend ctx js) b (raise_abs js (Abs.Ex ks a)) ts f → NormalAbsForm (extend ctx js) (abs_at_under js ts x) (Abs.Ex [] y) → Found (extend ctx js) y p r (lam_over bs u)
    → Found ctx (Sig.Fun Pure ks a x) (Item.Res ∷ p) (Sig.Fun Pure js b (Abs.Ex [] r)) (lam_over (js ++ bs) u)
found-result {ctx} {ks} {js} {a} {b} {r} {x = Abs.Ex [] s} {p = p} bs u m (ex n) f = subst (Found ctx (Sig.Fun Pure ks a (Abs.Ex [] s)) (Item.Res ∷ p) (Sig.Fun Pure js b (Abs.Ex [] r))) (sym (lam_over-append js bs u)) (Found.result m n f)
found-result {x = Abs.Ex (k ∷ more) s} bs u m n f = elim n [ ]

pub sub-found : {r : Sig} {p : SigPath} {bs : List Kind} {u : Ty} {k : Kind} → PartAt r p bs (Sig.Typ u k) → {ctx : List Kind} {s : Sig} {f : Term} → Sub ctx s r f → Found ctx s p r (lam_over bs u)
sub-found PartAt.end Sub.typ = Found.end
sub-found (PartAt.field h a) (Sub.str d) = let w = fields-at d h in Found.field w.2 h (sub-found a w.3)
sub-found (PartAt.result {bs = bs} {q = Sig.Typ u k} a) (Sub.fun m n (SubResult.both_pure d)) = found-result bs u m n (sub-found a d)

-- it is the same where the right side agrees along the path

-- what is found along a path of one right side is found along that of another with the same parameters on it
pub found-agree : {ctx : List Kind} {s r q : Sig} {p : SigPath} {t : Ty} {bs : List Kind} {a b : Ty} {k : Kind} → Agree r q p bs a b k → Found ctx s p r t → Found ctx s p q t
found-agree Agree.end Found.end = Found.end
found-agree {ctx} {t = t} (Agree.field {p = p} h1 h2 ag) (Found.field {s = s} hs hr f) = Found.field hs h2 (found-agree ag (subst (λ z. Found ctx s p z t) (one-field hr h1 refl) f))
found-agree (Agree.result ag) (Found.result m n f) = Found.result m n (found-agree ag f)

-- at most one type is found

abbrev pub FoundView : List Kind → Sig → SigPath → Sig → Ty → Type 0
FoundView ctx (Sig.Typ t k) [] (Sig.Typ u j) w = (k ≡ j) × (t ≡ w)
FoundView ctx (Sig.Str fs) (Item.Part l ∷ p) (Sig.Str gs) w = (s r : Sig) × HasField fs l s × HasField gs l r × Found ctx s p r w
FoundView ctx (Sig.Fun Pure ks a (Abs.Ex [] s)) (Item.Res ∷ p) (Sig.Fun Pure js b (Abs.Ex [] r)) w = (ts : List Ty) × (f : Term) × (y : Sig) × (t : Ty) × Match (extend ctx js) b (raise_abs js (Abs.Ex ks a)) ts f × NormalSigForm (extend ctx js) (sig_at_under js ts s) y × Found (extend ctx js) y p r t × (lam_over js t ≡ w)
FoundView ctx _ _ _ w = ⊥

-- what is found, taken apart by the first item of the path
pub found-view : {ctx : List Kind} {s r : Sig} {p : SigPath} {t : Ty} → Found ctx s p r t → FoundView ctx s p r t
found-view Found.end = (refl, refl)
found-view (Found.field {s = s} {r = r} hs hr f) = (s, r, hs, hr, f)
found-view (Found.result {y = y} {ts = ts} {f = f} {t = t} m n g) = (ts, f, y, t, m, n, g, refl)

-- at most one type is found along a path
pub found-unique : {ctx : List Kind} {s r : Sig} {p : SigPath} {t : Ty} → Found ctx s p r t → OkSig ctx s → IsRightSig ctx r → (u : Ty) → Found ctx s p r u → t ≡ u
found-unique Found.end w v u g = (found-view g).1
found-unique {ctx} {p = Item.Part l ∷ p} (Found.field hs hr f) w v u g =
    let q = found-view g in
    found-unique f (good-left_field w hs) (good-right_field v hr) u (subst₂ (λ x y. Found ctx x p y u) (one-field q.2 hs refl) (one-field q.3 hr refl) q.4)
found-unique {ctx} (Found.result {js = js} {s = s} {r = r} {y = y} {p = p} m n f) w v u g =
    let q = found-view g in
    let e = match-unique m (good-right_param v).0 (good-param js w).0 q.0 q.1 q.4 in
    let d = form_sig-unique n (subst (λ us. NormalSigForm (extend ctx js) (sig_at_under js us s) q.2) (sym e.0) q.5) in
    ap (lam_over js) (found-unique f (good-body (good-left_result ctx js w (match-kinds m) (ex n))) (good-pure (good-right_result v)) q.3 (subst (λ z. Found (extend ctx js) z p r q.3) (sym d) q.6)) ∙ q.7

-- where two right sides agree along a path, the first has there its type
pub agree-part : {r q : Sig} {p : SigPath} {bs : List Kind} {t u : Ty} {k : Kind} → Agree r q p bs t u k → PartAt r p bs (Sig.Typ t k)
agree-part Agree.end = PartAt.end
agree-part (Agree.field h g a) = PartAt.field h (agree-part a)
agree-part (Agree.result a) = PartAt.result (agree-part a)

-- at most one type is found for a hidden type
pub found_at-unique : {ctx ks : List Kind} {s r : Sig} {t u : Ty} (before : List Ty) → OkSig ctx s → OkRight ctx (Abs.Ex ks r) → length before < length ks → FoundAt ctx s ks r before t → FoundAt ctx s ks r before u → t ≡ u
found_at-unique {ctx} {ks} {s} {r} {t} {u} before w v lt (found_at {p = p} {n = n} l (PutFirst.put rest h nr) f) (found_at {p = q} {n = m} k (PutFirst.put others g nq) d) =
    let z = root-agreed before rest others refl refl h g lt (root-of l) nr nq in
    found-unique (found-agree z.5.2 f) w (good-at v g nq) u (subst (λ x. Found ctx s x m u) (sym (one_least l k)) d)

-- a match is looked up

pub looked-after : {ctx ks : List Kind} {s t r : Sig} {ts : List Ty} {f : Term} (before rest : List Ty) → OkRight ctx (Abs.Ex ks t) → ts ≡ before ++ rest → NormalTypes ctx ts ks → NormalSigForm ctx (sig_at ts t) r → Sub ctx s r f → FoundAfter ctx s ks t before rest
looked-after before [] v e n nr d = FoundAfter.none
looked-after {ctx} {ks} {s} {t} {r} {ts} before (a ∷ more) v e n nr d =
    FoundAfter.next (go (least_root-exists (explicit-right v.0).0 v.1 lt (explicit-roots v.0 (length before) lt))) (looked-after (before ++ (a ∷ [])) more v (e ∙ append-one before more a) n nr d)
  where
    lt : length before < length ks
    lt = length-below before more a e n

    at_path : {p : SigPath} → LeastRoot ctx ks t (length before) p → FoundAt ctx s ks t before a
    at_path {p} (least x y) =
        let z = root-agreed before (a ∷ more) (a ∷ more) e e (types-kinds n) (types-kinds n) lt x nr nr in
        let g = type_shown z.0 before more e n z.3 z.5.3 in
        found_at (least x y) (PutFirst.put (a ∷ more) (subst (λ x. OfKinds ctx x ks) e (types-kinds n)) (subst (λ x. NormalSigForm ctx (sig_at x t) r) e nr))
        (subst (Found ctx s p r) g (sub-found (agree-part z.5.2) d))

    go : (p : SigPath) × (least_root ctx ks t (length before) ≡ Some p) × LeastRoot ctx ks t (length before) p → FoundAt ctx s ks t before a
    go q = at_path q.2

-- the types of a match are those that are looked up
pub match-looked : {ctx ks : List Kind} {s t : Sig} {ts : List Ty} {f : Term} → OkRight ctx (Abs.Ex ks t) → Match ctx s (Abs.Ex ks t) ts f → Looked ctx s ks t ts
match-looked {ts = ts} v m = let q = match-view (explicit-body v.0) m in looked-after [] ts v refl q.1 q.2 q.3

-- two lists that are looked up begin alike

-- of two lists that are looked up, one goes on where the other ends, or they are the same
pub data Compared (ctx : List Kind) (s : Sig) (ks : List Kind) (r : Sig) (before : List Ty) : List Ty → List Ty → Type 0 where
  same : {ts us : List Ty} → ts ≡ us → Compared ctx s ks r before ts us
  shorter : {ts us : List Ty} (t : Ty) → length ts < length us → FoundAt ctx s ks r (before ++ ts) t → Compared ctx s ks r before ts us
  longer : {ts us : List Ty} (t : Ty) → length us < length ts → FoundAt ctx s ks r (before ++ us) t → Compared ctx s ks r before ts us

-- of two lists of types that are looked up, one goes on where the other ends, or they are the same
pub compared : {ctx ks : List Kind} {s r : Sig} (before : List Ty) {ts us : List Ty} → OkSig ctx s → OkRight ctx (Abs.Ex ks r) → length before + length ts ≤ length ks → length before + length us ≤ length ks → FoundAfter ctx s ks r before ts → FoundAfter ctx s ks r before us → Compared ctx s ks r before ts us
compared before w v b c FoundAfter.none FoundAfter.none = same refl
compared {ctx} {ks} {s} {r} before w v b c FoundAfter.none (FoundAfter.next {t = t} f fs) = shorter t (omega arith) (subst (λ x. FoundAt ctx s ks r x t) (sym (append-nil before)) f)
compared {ctx} {ks} {s} {r} before w v b c (FoundAfter.next {t = t} f fs) FoundAfter.none = longer t (omega arith) (subst (λ x. FoundAt ctx s ks r x t) (sym (append-nil before)) f)
compared {ctx} {ks} {s} {r} before w v b c (FoundAfter.next {more = ts} {t = t} f fs) (FoundAfter.next {more = us} {t = u} g gs) =
    let l = length-append before (t ∷ []) in
    go (compared (before ++ (t ∷ [])) w v (omega arith) (omega arith) fs (subst (λ x. FoundAfter ctx s ks r (before ++ (x ∷ [])) us) (sym e) gs))
  where
    e : t ≡ u
    e = found_at-unique before w v (omega (arith, b)) f g

    go : Compared ctx s ks r (before ++ (t ∷ [])) ts us → Compared ctx s ks r before (t ∷ ts) (u ∷ us)
    go (same d) = same (ap₂ ◌∷◌ e d)
    go (shorter x lt f) = shorter x (omega arith) (subst (λ z. FoundAt ctx s ks r z x) (sym (append-one before ts t)) f)
    go (longer x lt f) = longer x (omega arith) (subst (λ z. FoundAt ctx s ks r z x) (sym (append-one before us t) ∙ ap (λ z. before ++ (z ∷ us)) e) f)
