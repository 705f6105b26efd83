-- What is found along a path is found in what the path meets.
-- Main results: found_in_cut, cut_before, cut_left, cut_right, no_larger.
use Rattle.std.proofs.Common.{◌≤◌, ℕ, List, [], refl, subst, arith}
use Rattle.omega_kinds.specs.Kind.{Kind}
use Rattle.omega_kinds.specs.declared.effect.Effect.TheVariants.{Pure}
use Rattle.omega_types.specs.Ty.{Ty}
use Rattle.omega_types.specs.Binders.{extend, past, puts, unders}
use Rattle.sig_definitions.specs.Signatures.Sig.{Sig, Abs, SigRow, here}
use Rattle.sig_definitions.specs.Signatures.SigSize.{size}
use Rattle.sig_definitions.specs.Signatures.SigSubst.{substitute_sig, sig_at_under}
use Rattle.sig_definitions.specs.Signatures.Alike.{AlikeSig, AlikeAbs, AlikeRow, Between, NormalSig}
use Rattle.sig_definitions.specs.Explicit.SigPath.{SigPath}
use Rattle.sig_definitions.specs.Explicit.WellFormed.{WellFormed, WellFormedRow, ExplicitResults, in_str, in_pure, in_end, in_more}
use Rattle.sig_definitions.specs.Matching.LookUp.{Found}
use Rattle.sig_laws.specs.Good.{OkSig}
use Rattle.sig_laws.specs.NormalSig.{normal_sig}
use Rattle.sig_laws.proofs.Algebra.AlikeLaws.{form_sig-unique, conv_sig-gives, conv_sig-substitute, substitutes-convertible}
use Rattle.sig_laws.proofs.Algebra.Instances.{under-at-substitutes}
use Rattle.sig_laws.proofs.Algebra.PathLaws.{field-substitute, field-alike, field-normal, one-field}
use Rattle.sig_laws.proofs.Algebra.SizeLaws.{field-size}
use Rattle.sig_laws.proofs.Formed.Conditions.{match-kinds, left-functor, abs-body, str-fields, str-results, row-field, results-field}
use Rattle.sig_laws.proofs.Formed.WellFormedLaws.{well_formed-kinds}
use Rattle.sig_match_laws.proofs.LookUp.Good.{good-body, good-left_result, good-left_field}
use Rattle.sig_cut_laws.specs.Cut.{CutTo, whole, field, result}
use Rattle.sig_cut_laws.specs.Along.{CutBefore, CutLeft, CutRight, FoundInCut, NoLarger}

-- cut signatures after types are put in

cut-substitute : (f : ℕ → Ty) {p : SigPath} {s c : Sig} → CutTo p s c → CutTo p (substitute_sig f s) (substitute_sig f c)
cut-substitute f whole = whole
cut-substitute f (field h k) = field (field-substitute f h) (cut-substitute f k)
cut-substitute f (result {ks = ks} k) = result (cut-substitute (unders [] (unders ks f)) k)

cut-alike : {R : Between} (ctx : List Kind) {p : SigPath} {s c n : Sig} → CutTo p s c → AlikeSig R ctx s n → (d : Sig) × CutTo p n d × AlikeSig R ctx c d
cut-alike ctx {n = n} whole a = (n, whole, a)
cut-alike ctx (field {l = l} h k) (AlikeSig.str a) =
    let b = field-alike a h in
    let q = cut-alike ctx k b.2 in
    (Sig.Str (SigRow.More l q.0 SigRow.End), field b.1 q.1, AlikeSig.str (AlikeRow.more q.2 AlikeRow.end))
cut-alike ctx (result {ks = ks} k) (AlikeSig.fun {t = t} a (AlikeAbs.ex b)) =
    let q = cut-alike (extend (extend ctx ks) []) k b in
    (Sig.Fun Pure ks t (Abs.Ex [] q.0), result q.1, AlikeSig.fun a (AlikeAbs.ex q.2))

-- types may be put in after the cut
pub cut_before : CutBefore
cut_before ctx p r d n ts k a = cut-alike ctx (cut-substitute (puts ts Ty.Var) k) a

-- found in the whole right side, and in the cut one

right-to : {ctx : List Kind} {p : SigPath} {s n d : Sig} {t : Ty} → CutTo p n d → Found ctx s p n t → Found ctx s p d t
right-to whole f = f
right-to (field {l = l} {c = c} {p = p} h k) (Found.field {s = s} {t = t} hs hr f) = Found.field hs (here {l = l} {s = c} {rest = SigRow.End}) (right-to (subst (λ z. CutTo p z c) (one-field h hr refl) k) f)
right-to (result k) (Found.result m n f) = Found.result m n (right-to k f)

right-from : {ctx : List Kind} {p : SigPath} {s n d : Sig} {t : Ty} → CutTo p n d → Found ctx s p d t → Found ctx s p n t
right-from whole f = f
right-from (field {l = l} {s = r} {c = c} {p = p} h k) (Found.field hs hr f) = Found.field hs h (right-from (subst (λ z. CutTo p r z) (one-field (here {l = l} {s = c} {rest = SigRow.End}) hr refl) k) f)
right-from (result k) (Found.result m n f) = Found.result m n (right-from k f)

-- found in the whole left side, and in the cut one

left-to : {ctx : List Kind} {p : SigPath} {s c n : Sig} {t : Ty} → CutTo p s c → Found ctx s p n t → Found ctx c p n t
left-to whole f = f
left-to (field {l = l} {c = c} {p = p} h k) (Found.field hs hr f) = Found.field (here {l = l} {s = c} {rest = SigRow.End}) hr (left-to (subst (λ z. CutTo p z c) (one-field h hs refl) k) f)
left-to {ctx} (result k) (Found.result {js = js} {ts = ts} m n f) =
    let q = cut-alike (extend ctx js) (cut-substitute (puts ts (λ i. Ty.Var (past js i))) k) n in
    Found.result m q.2 (left-to q.1 f)

left-from : {ctx : List Kind} {p : SigPath} {s c n : Sig} {t : Ty} → OkSig ctx s → CutTo p s c → Found ctx c p n t → Found ctx s p n t
left-from w whole f = f
left-from w (field {l = l} {s = s} {c = c} {p = p} h k) (Found.field hs hr f) =
    Found.field h hr (left-from (good-left_field w h) (subst (λ z. CutTo p s z) (one-field (here {l = l} {s = c} {rest = SigRow.End}) hs refl) k) f)
left-from {ctx} w (result {r = s} {p = p} k) (Found.result {js = js} {ts = ts} m n g) =
    let f = puts ts (λ i. Ty.Var (past js i)) in
    let e = conv_sig-gives (conv_sig-substitute f f (substitutes-convertible (under-at-substitutes ctx js (match-kinds m))) (well_formed-kinds (abs-body (left-functor w.0).1))) in
    let q = cut-alike (extend ctx js) (cut-substitute f k) e in
    let y = normal_sig (extend ctx js) (sig_at_under js ts s) in
    Found.result m e (left-from (good-body (good-left_result ctx js w (match-kinds m) (AlikeAbs.ex e))) (subst (λ z. CutTo p y z) (form_sig-unique q.2 n) q.1) g)

-- both sides may be cut
pub found_in_cut : FoundInCut
found_in_cut ctx p s c r d t w k g = (λ f. left-to k (right-to g f), λ f. left-from w k (right-from g f))

-- cut signatures are as good as whole ones

cut-well_formed : {ctx : List Kind} {p : SigPath} {s c : Sig} → CutTo p s c → WellFormed ctx s → WellFormed ctx c
cut-well_formed whole w = w
cut-well_formed (field h k) w = WellFormed.str (tt, tt) (WellFormedRow.more (cut-well_formed k (row-field (str-fields w) h)) WellFormedRow.end)
cut-well_formed (result k) (WellFormed.pure e u) = WellFormed.pure e (cut-well_formed k u)

cut-results : {ctx : List Kind} {p : SigPath} {s c : Sig} → CutTo p s c → ExplicitResults ctx s → ExplicitResults ctx c
cut-results whole v = v
cut-results (field h k) v = in_str (in_more (cut-results k (results-field (str-results v) h)) in_end)
cut-results (result k) (in_pure u) = in_pure (cut-results k u)

cut-normal : (ctx : List Kind) {p : SigPath} {s c : Sig} → CutTo p s c → NormalSig ctx s → NormalSig ctx c
cut-normal ctx whole n = n
cut-normal ctx (field h k) n = (cut-normal ctx k (field-normal ctx n h), tt)
cut-normal ctx (result {ks = ks} k) n = (n.0, cut-normal (extend (extend ctx ks) []) k n.1)

-- what is cut is as good as the whole on the left
pub cut_left : CutLeft
cut_left ctx p s c k w = (cut-well_formed k w.0, cut-normal ctx k w.1)

-- what is cut is as good as the whole on the right
pub cut_right : CutRight
cut_right ctx p r d k v = ((cut-well_formed k v.0.0, cut-results k v.0.1), cut-normal ctx k v.1)

-- what is cut is no larger

cut-size : {p : SigPath} {s c : Sig} → CutTo p s c → size c ≤ size s
cut-size whole = omega arith
cut-size (field h k) = let a = cut-size k in let b = field-size h in omega (arith, a, b)
cut-size (result k) = let a = cut-size k in omega (arith, a)

-- the size of what is cut
pub no_larger : NoLarger
no_larger p s c k = cut-size k
