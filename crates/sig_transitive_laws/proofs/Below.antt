-- Subtyping of signatures that hold any types is transitive.
-- Main results: sub-transitive, abs-transitive.
use Rattle.std.specs.Prelude.{ℕ, zero, suc, ◌<◌, ◌≤◌, List, [], ◌∷◌, ◌≡◌}
use Rattle.std.proofs.Common.{arith}
use Rattle.std.proofs.Math.Path.{sym, ◌∙◌, ap, subst, subst₂, fun_ext}
use Rattle.omega_kinds.specs.Kind.{Kind}
use Rattle.omega_kinds.specs.declared.effect.Effect.{Effect}
use Rattle.omega_kinds.specs.Name.{Name}
use Rattle.omega_types.specs.Ty.{Ty}
use Rattle.omega_types.specs.Conversion.Conv.{c_trans}
use Rattle.omega_types.specs.Binders.{extend, past, lifts, puts, OfKinds}
use Rattle.omega_types.proofs.BinderPuts.{Fits, kinds-fit, substitute-puts, puts-past}
use Rattle.omega_types.proofs.Preservation.{Substitutes}
use Rattle.sig_definitions.specs.Signatures.Sig.{Sig, Abs, SigRow, HasField, here, there}
use Rattle.sig_definitions.specs.Signatures.SigSize.{size, size_abs, size_row}
use Rattle.sig_definitions.specs.Signatures.SigSubst.{rename_sig, substitute_abs, raise_abs, sig_at, abs_at_under}
use Rattle.sig_laws.proofs.Algebra.AlikeLaws.{alike-rename}
use Rattle.sig_laws.proofs.Algebra.BinderLaws.{all_substituted}
use Rattle.sig_laws.proofs.Algebra.Instances.{under-at-substitutes}
use Rattle.sig_laws.proofs.Algebra.SigAlgebra.{substitute-rename_abs, substitute-substitute_abs, substitute-vars_abs, rename_abs-id, substitute_sig-id}
use Rattle.sig_laws.proofs.Algebra.SizeLaws.{size-alike, size-substitute, size_abs-substitute, field-size}
use Rattle.sig_match_laws.specs.AnyTypes.{IsSub, AreSubs, IsSubResult, IsSubAbs, Matches}
use Rattle.sig_match_laws.proofs.AnyTypes.AnyTypesConv.{matches-kinds}
use Rattle.sig_match_laws.proofs.AnyTypes.AnyTypesSubst.{sub-substitute, abs-substitute, matches_substitute}
use Rattle.sig_norm_laws.proofs.Orders.Aligned.{sig_at-under}

-- what hides types is below another one where its body, under the binders, matches that one

-- a signature that hides types and is below another one has a body that matches it
pub opened : {ctx ks : List Kind} {s : Sig} {y : Abs} → IsSubAbs ctx (Abs.Ex ks s) y → (ts : List Ty) × Matches (extend ctx ks) s (raise_abs ks y) ts
opened {ctx} {s = s} {y = y} (IsSubAbs.plain {ts = ts} m) = (ts, subst (λ z. Matches ctx s z ts) (sym (rename_abs-id y)) m)
opened (IsSubAbs.hidden {ts = ts} m) = (ts, m)

-- a signature whose body matches another one is below it
pub closed : {ts : List Ty} (ctx ks : List Kind) (s : Sig) (y : Abs) → Matches (extend ctx ks) s (raise_abs ks y) ts → IsSubAbs ctx (Abs.Ex ks s) y
closed {ts} ctx [] s y m = IsSubAbs.plain (subst (λ z. Matches ctx s z ts) (rename_abs-id y) m)
closed ctx (k ∷ ks) s y m = IsSubAbs.hidden m

-- signatures that hide nothing are below each other as their bodies are
pub plainly : {ctx : List Kind} {s t : Sig} → IsSub ctx s t → IsSubAbs ctx (Abs.Ex [] s) (Abs.Ex [] t)
plainly {ctx} {s} {t} a = IsSubAbs.plain (Matches.at OfKinds.none (subst (IsSub ctx s) (sym (substitute_sig-id t)) a))

-- types put in for binders' variables in what is raised past further binders

past-both : (js ks : List Kind) (ts : List Ty) (z : Abs) → Fits ts js → substitute_abs (puts ts (λ i. Ty.Var (past ks i))) (raise_abs js z) ≡ raise_abs ks z
past-both js ks ts z f =
    substitute-rename_abs (puts ts (λ i. Ty.Var (past ks i))) (past js) z ∙
    (ap (λ g. substitute_abs g z) (fun_ext (puts-past f (λ i. Ty.Var (past ks i)))) ∙ substitute-vars_abs (past ks) z)

at-twice : (js ks : List Kind) (ts us : List Ty) (x : Abs) → Fits ts js
    → substitute_abs (puts ts (λ i. Ty.Var (past ks i))) (abs_at_under js us x) ≡
    abs_at_under ks (all_substituted (puts ts (λ i. Ty.Var (past ks i))) us) x
at-twice js ks ts us x f =
    let g : ℕ → Ty = puts ts (λ i. Ty.Var (past ks i)) in
    substitute-substitute_abs g (puts us (λ i. Ty.Var (past js i))) x ∙
    ap (λ h. substitute_abs h x)
    (substitute-puts g us (λ i. Ty.Var (past js i)) ∙ ap (puts (all_substituted g us)) (fun_ext (λ i. puts-past f (λ i. Ty.Var (past ks i)) i)))

-- results of functors are kept as subtyping is by types put in (as in sig_match_laws)
result-put : {ctx other : List Kind} {e d : Effect} {x z : Abs} (f : ℕ → Ty) → Substitutes ctx other f → IsSubResult ctx e d x z
    → IsSubResult other e d (substitute_abs f x) (substitute_abs f z)
result-put f h (IsSubResult.both_pure a) = IsSubResult.both_pure (sub-substitute f h a)
result-put f h (IsSubResult.to_impure a) = IsSubResult.to_impure (abs-substitute f h a)

-- a match under binders, at types for their variables
moved : {ts us : List Ty} (ctx js ks : List Kind) (t : Sig) (z : Abs) → OfKinds (extend ctx ks) ts js → Matches (extend ctx js) t (raise_abs js z) us
    → Matches (extend ctx ks) (sig_at ts (rename_sig (lifts js (past ks)) t)) (raise_abs ks z) (all_substituted (puts ts (λ i. Ty.Var (past ks i))) us)
moved {ts} {us} ctx js ks t z h m =
    let f : ℕ → Ty = puts ts (λ i. Ty.Var (past ks i)) in
    subst₂ (λ a b. Matches (extend ctx ks) a b (all_substituted f us)) (sym (sig_at-under js ks ts t (kinds-fit h)))
    (past-both js ks ts z (kinds-fit h))
    (matches_substitute (extend ctx js) (extend ctx ks) t (raise_abs js z) us f (under-at-substitutes ctx ks h) m)

size-rename : (r : ℕ → ℕ) (s : Sig) → size (rename_sig r s) ≡ size s
size-rename r s = sym (size-alike (alike-rename [] r s))

-- transitivity through signatures smaller than n
abbrev Through : ℕ → Type 0
Through n = (ctx : List Kind) (s t r : Sig) → size t < n → IsSub ctx s t → IsSub ctx t r → IsSub ctx s r

joined : {n : ℕ} {c js : List Kind} {s t : Sig} {z : Abs} {ts us : List Ty} → Through n → size t < n
    → Matches c s (Abs.Ex js t) ts → Matches c (sig_at ts t) z us → Matches c s z us
joined {n} {c} {s = s} {t = t} {ts = ts} h lt (Matches.at o a) (Matches.at {t = r} {ts = us} p b) =
    Matches.at p (h c s (sig_at ts t) (sig_at us r) (subst (λ m. m < n) (sym (size-substitute (puts ts Ty.Var) t)) lt) a b)

abs-through : {n : ℕ} → Through n → (ctx : List Kind) (x y z : Abs) → size_abs y ≤ n → IsSubAbs ctx x y → IsSubAbs ctx y z → IsSubAbs ctx x z
abs-through {n} h ctx (Abs.Ex ks s) (Abs.Ex js t) z le a b =
    let p = opened a in
    let q = opened b in
    let lt : size t < n = omega (arith, le) in
    closed ctx ks s z (joined h (subst (λ m. m < n) (sym (size-rename (lifts js (past ks)) t)) lt) p.1 (moved ctx js ks t z (matches-kinds p.1) q.1))

result-through : {n : ℕ} {ctx : List Kind} {e d c : Effect} {x y z : Abs} → Through n → size_abs y ≤ n
    → IsSubResult ctx e d x y → IsSubResult ctx d c y z → IsSubResult ctx e c x z
result-through {ctx = ctx} h le (IsSubResult.both_pure {s = s} {t = t} a) (IsSubResult.both_pure {t = r} b) =
    IsSubResult.both_pure (h ctx s t r (omega (arith, le)) a b)
result-through {ctx = ctx} {z = z} h le (IsSubResult.both_pure {s = s} {t = t} a) (IsSubResult.to_impure b) =
    IsSubResult.to_impure (abs-through h ctx (Abs.Ex [] s) (Abs.Ex [] t) z le (plainly a) b)
result-through {ctx = ctx} {x = x} {y = y} {z = z} h le (IsSubResult.to_impure a) (IsSubResult.to_impure b) =
    IsSubResult.to_impure (abs-through h ctx x y z le a b)

field-below : {ctx : List Kind} {fs gs : SigRow} {l : Name} {t : Sig} → AreSubs ctx fs gs → HasField gs l t → (s : Sig) × HasField fs l s × IsSub ctx s t
field-below AreSubs.end h = elim h [ ]
field-below (AreSubs.more {s = s} f a rest) here = (s, f, a)
field-below (AreSubs.more f a rest) (there n h) = field-below rest h

fields-through : {n : ℕ} {ctx : List Kind} {fs gs hs : SigRow} → Through n → size_row gs < n → AreSubs ctx fs gs → AreSubs ctx gs hs → AreSubs ctx fs hs
fields-through h lt a AreSubs.end = AreSubs.end
fields-through {ctx = ctx} h lt a (AreSubs.more {s = t} {t = r} f b rest) =
    let p = field-below a f in
    let q = field-size f in
    AreSubs.more p.1 (h ctx p.0 t r (omega (arith, lt, q)) p.2 b) (fields-through h lt a rest)

larger : {n : ℕ} {ctx : List Kind} {s t r : Sig} → Through n → size t < suc n → IsSub ctx s t → IsSub ctx t r → IsSub ctx s r
larger h lt (IsSub.val c) (IsSub.val d) = IsSub.val (c_trans c d)
larger h lt (IsSub.typ c) (IsSub.typ d) = IsSub.typ (c_trans c d)
larger {ctx = ctx} h lt (IsSub.meta {x = x} {y = y} a b) (IsSub.meta {y = z} c d) =
    IsSub.meta (abs-through h ctx x y z (omega (arith, lt)) a c) (abs-through h ctx z y x (omega (arith, lt)) d b)
larger h lt (IsSub.str a) (IsSub.str b) = IsSub.str (fields-through h (omega (arith, lt)) a b)
larger {ctx = ctx} h lt (IsSub.fun {ks = ks} {js = js} {e = e} {d = d} {s = s} {t = t} {x = x} {z = y} {ts = ts} m r)
    (IsSub.fun {js = is} {ts = us} n q) =
    let k = matches-kinds n in
    let f : ℕ → Ty = puts us (λ i. Ty.Var (past is i)) in
    let a = size-rename (lifts js (past is)) t in
    let b = size_abs-substitute f y in
    IsSub.fun (joined h (omega (arith, lt, a)) n (moved ctx js is t (Abs.Ex ks s) k m))
    (result-through h (omega (arith, lt, b))
    (subst (λ w. IsSubResult (extend ctx is) e d w (abs_at_under is us y)) (at-twice js is us ts x (kinds-fit k))
    (result-put f (under-at-substitutes ctx is k) r)) q)

through : (n : ℕ) → Through n
through zero ctx s t r lt a b = absurd (omega (arith, lt))
through (suc n) ctx s t r lt a b = larger (through n) lt a b

-- subtyping of signatures of any types is transitive
pub sub-transitive : {ctx : List Kind} {s t r : Sig} → IsSub ctx s t → IsSub ctx t r → IsSub ctx s r
sub-transitive {ctx} {s} {t} {r} a b = through (suc (size t)) ctx s t r (omega arith) a b

-- so is subtyping of signatures that hide types
pub abs-transitive : {ctx : List Kind} {x y z : Abs} → IsSubAbs ctx x y → IsSubAbs ctx y z → IsSubAbs ctx x z
abs-transitive {ctx} {x} {y} {z} a b = abs-through (through (size_abs y)) ctx x y z (omega arith) a b
