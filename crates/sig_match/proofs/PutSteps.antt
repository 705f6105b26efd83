-- Types put in, and signatures raised, as the code does it.
-- Main results: put-at, result-put, filled-more.
use Rattle.std.proofs.Common.{◌≡◌, ℕ, zero, suc, ◌+◌, ◌<◌, ◌≤◌, List, [], ◌∷◌, ◌++◌, length, get_or, take, map, slice_get, refl, sym, ap, ap₂, ◌∙◌, subst, arith}
use Rattle.std.proofs.lemmas.List.{map-append}
use Rattle.std.proofs.Math.Path.{fun_ext}
use Rattle.omega_kinds.specs.Kind.{Kind}
use Rattle.omega_kinds.specs.View.{kind_tree}
use Rattle.omega_kinds.specs.declared.kind.Kind.{Kind as SharedKind}
use Rattle.omega_types.specs.Binders.{extend, past, lifts, puts, NormalForms}
use Rattle.omega_types.specs.Index.{bump}
use Rattle.omega_types.specs.Ty.{Ty}
use Rattle.omega_types.proofs.BinderLaws.{past-maps}
use Rattle.omega_types.proofs.BinderPuts.{puts-lifts, types-fit, forms-types}
use Rattle.sig_definitions.specs.Signatures.Alike.{AlikeSig, NormalAbs, NormalAbsForm, IsSigAt}
use Rattle.sig_definitions.specs.Signatures.Sig.{Sig, Abs}
use Rattle.sig_definitions.specs.Signatures.SigSize.{size, size_abs}
use Rattle.sig_definitions.specs.Signatures.SigSubst.{rename_abs, raise_abs, abs_at, abs_at_under, substitute_abs}
use Rattle.sig_laws.proofs.Algebra.AlikeLaws.{normal_abs-rename}
use Rattle.sig_laws.proofs.Algebra.BinderLaws.{past-length, lam_over-append}
use Rattle.sig_laws.proofs.Algebra.SigAlgebra.{substitute-rename_abs}
use Rattle.sig_laws.proofs.Algebra.SizeLaws.{size-alike, size-substitute, size_abs-alike, size_abs-substitute}
use Rattle.semantic_sigs.specs.Inner.View.{kinds_of, body_of}
use Rattle.sig_match.specs.Inner.Put.{any_type, or_any, filled, AreNormal, MayPut, EachPut, MayPutUnder, EachPutUnder}
use Rattle.sig_match.proofs.LookSteps.{nothing-put}

-- a type as an operator, from the last kind to the first

pub ruleset lam_steps = (lam_over-append, map-append)

-- types for kinds, one more

pub filled-next : (kinds : List SharedKind) (ts : List Ty) (i : ℕ) (d : SharedKind) → i < length kinds → take (suc i) (filled (map kind_tree kinds) ts) ≡ take i (filled (map kind_tree kinds) ts) ++ (or_any (kind_tree (get_or kinds i d)) (slice_get ts i) ∷ [])
filled-next [] ts i d lt = absurd (omega (arith, lt))
filled-next (k ∷ kinds) [] zero d lt = refl
filled-next (k ∷ kinds) (t ∷ ts) zero d lt = refl
filled-next (k ∷ kinds) [] (suc i) d lt = ap (◌∷◌ (any_type (kind_tree k))) (filled-next kinds [] i d (omega (arith, lt)))
filled-next (k ∷ kinds) (t ∷ ts) (suc i) d lt = ap (◌∷◌ t) (filled-next kinds ts i d (omega (arith, lt)))

-- when the types to put in are made for all kinds, they are the whole list
pub filled-whole : (kinds : List SharedKind) (ts : List Ty) (i : ℕ) → length kinds ≤ i → take i (filled (map kind_tree kinds) ts) ≡ filled (map kind_tree kinds) ts
filled-whole [] ts zero le = refl
filled-whole [] ts (suc i) le = refl
filled-whole (k ∷ kinds) ts zero le = absurd (omega (arith, le))
filled-whole (k ∷ kinds) [] (suc i) le = ap (◌∷◌ (any_type (kind_tree k))) (filled-whole kinds [] i (omega (arith, le)))
filled-whole (k ∷ kinds) (t ∷ ts) (suc i) le = ap (◌∷◌ t) (filled-whole kinds ts i (omega (arith, le)))

-- the types to put in, made for one more kind
pub filled-more : (kinds : List SharedKind) (ts : List Ty) (i : ℕ) (kind : SharedKind) (t : Ty) (types grown : List Ty) → i < length kinds → kind ≡ get_or kinds i kind → t ≡ or_any (kind_tree kind) (slice_get ts i) → grown ≡ types ++ (t ∷ []) → types ≡ take i (filled (map kind_tree kinds) ts) → grown ≡ take (i + 1) (filled (map kind_tree kinds) ts)
filled-more kinds ts i kind t types grown lt ek et eg e =
    eg ∙ (ap₂ (λ us u. us ++ (u ∷ [])) e (et ∙ ap (λ k. or_any (kind_tree k) (slice_get ts i)) ek) ∙ (sym (filled-next kinds ts i kind lt) ∙ ap (λ n. take n (filled (map kind_tree kinds) ts)) (one i)))
  where
    one : (i : ℕ) → suc i ≡ i + 1
    one i = omega arith

-- types put in for hidden ones

pub put-found : (ks : List Kind) (s n : Sig) (ts us : List Ty) (x : Abs) → x ≡ Abs.Ex ks s → us ≡ ts → EachPut (kinds_of x) (body_of x) us n → EachPut ks s ts n
put-found ks s n ts us x e eu h = subst (λ z. EachPut (kinds_of z) (body_of z) ts n) e (subst (λ v. EachPut (kinds_of x) (body_of x) v n) eu h)

-- an instance at types is the signature with these types put in
pub put-at : (x : Abs) (ts : List Ty) (n : Sig) → ((ctx : List Kind) → NormalAbs ctx x → NormalForms ctx ts (kinds_of x) ts → IsSigAt ctx (body_of x) ts n) → EachPut (kinds_of x) (body_of x) ts n
put-at (Abs.Ex ks r) ts n h = h

-- types put in keep the size of a signature
pub put-size : (ks : List Kind) (s n : Sig) (ts : List Ty) → MayPut ks s ts → EachPut ks s ts n → size n ≡ size s
put-size ks s n ts m h = sym (size-alike (h m.0 m.1 m.2)) ∙ size-substitute (puts ts Ty.Var) s

-- types put in for no hidden types leave a signature as it is
pub put-nothing : (ks : List Kind) (ts : List Ty) (s : Sig) → ks ≡ [] → EachPut ks s (filled ks ts) s
put-nothing [] ts s e = λ ctx n a. nothing-put ctx s n
put-nothing (k ∷ ks) ts s e = absurd (let f : k ∷ ks ≡ [] = e in cc)

-- signatures raised past further variables

bump-past : (js : List Kind) (by : ℕ) → length js ≡ by → bump by 0 ≡ past js
bump-past js by e = fun_ext (λ i. sym (past-length js i ∙ ap (λ n. n + i) e))

-- a signature raised by the number of binders is raised past them
pub raised-past : (js : List Kind) (by : ℕ) (x : Abs) → length js ≡ by → rename_abs (bump by 0) x ≡ raise_abs js x
raised-past js by x e = ap (λ r. rename_abs r x) (bump-past js by e)

-- the result of a functor, held in a signature part

abbrev pub held : ℕ → List Kind → Abs → Abs
held by ks x = rename_abs (bump by 0) (Abs.Ex ks (Sig.Meta x))

abbrev pub HeldAt : ℕ → List Kind → Abs → List Ty → Sig → Type 0
HeldAt by ks x ts n = (ctx : List Kind) → NormalAbs ctx (held by ks x) → NormalForms ctx ts (kinds_of (held by ks x)) ts → IsSigAt ctx (body_of (held by ks x)) ts n

held-at : (ctx js ks : List Kind) (by : ℕ) (x : Abs) (ts : List Ty) (n : Sig) → length js ≡ by → HeldAt by ks x ts n → NormalAbs (extend ctx ks) x → AreNormal (extend ctx js) ts ks → IsSigAt (extend ctx js) (Sig.Meta (rename_abs (lifts ks (past js)) x)) ts n
held-at ctx js ks by x ts n e h m a =
    subst (λ r. IsSigAt (extend ctx js) (Sig.Meta (rename_abs (lifts ks r) x)) ts n) (bump-past js by e)
    (h (extend ctx js) (subst (λ r. NormalAbs (extend ctx js) (rename_abs r (Abs.Ex ks (Sig.Meta x)))) (sym (bump-past js by e)) (normal_abs-rename (past js) (past-maps js ctx) (Abs.Ex ks (Sig.Meta x)) m)) a)

meta-at : {ctx : List Kind} (x : Abs) (ts : List Ty) (n : Sig) → IsSigAt ctx (Sig.Meta x) ts n → (y : Abs) × (n ≡ Sig.Meta y) × NormalAbsForm ctx (abs_at ts x) y
meta-at x ts _ (AlikeSig.meta {y = y} a) = (y, refl, a)

under : (js ks : List Kind) (ts : List Ty) (x : Abs) {ctx : List Kind} → AreNormal ctx ts ks → abs_at ts (rename_abs (lifts ks (past js)) x) ≡ abs_at_under js ts x
under js ks ts x a = substitute-rename_abs (puts ts Ty.Var) (lifts ks (past js)) x ∙ ap (λ f. substitute_abs f x) (puts-lifts (types-fit (forms-types a)) Ty.Var (past js))

-- an instance of a signature at types, in each context
abbrev pub InstAt : Abs → List Ty → Sig → Type 0
InstAt z us n = (ctx : List Kind) → NormalAbs ctx z → NormalForms ctx us (kinds_of z) us → IsSigAt ctx (body_of z) us n

-- an instance of the raised signature is the functor's result at the types
pub held-by : (by : ℕ) (ks : List Kind) (x raised : Abs) (ts us : List Ty) (n : Sig) → raised ≡ held by ks x → us ≡ ts → InstAt raised us n → HeldAt by ks x ts n
held-by by ks x raised ts us n e eu h = subst (λ z. InstAt z ts n) e (subst (λ vs. InstAt raised vs n) eu h)

-- the signature that is held in this instance is the result with the types put in
pub result-put : (by : ℕ) (ks : List Kind) (x y : Abs) (ts : List Ty) (n : Sig) → HeldAt by ks x ts n → n ≡ Sig.Meta y → EachPutUnder by ks x ts y
result-put by ks x y ts n h e = λ ctx js l m a.
    let q = meta-at (rename_abs (lifts ks (past js)) x) ts n (held-at ctx js ks by x ts n l h m a) in
    let g : q.0 ≡ y = let f = q.1 in cc in
    subst (λ z. NormalAbsForm (extend ctx js) z y) (under js ks ts x a) (subst (λ z. NormalAbsForm (extend ctx js) (abs_at ts (rename_abs (lifts ks (past js)) x)) z) g q.2)

-- such an instance always holds a signature
pub result-held : (by : ℕ) (ks : List Kind) (x : Abs) (ts : List Ty) (n : Sig) → MayPutUnder by ks x ts → HeldAt by ks x ts n → ((y : Abs) → n ≡ Sig.Meta y → ⊥) → ⊥
result-held by ks x ts n m h k = let q = meta-at (rename_abs (lifts ks (past m.1)) x) ts n (held-at m.0 m.1 ks by x ts n m.2 h m.3 m.4) in k q.0 q.1

-- types put into a functor's result keep its size
pub result-size : (by : ℕ) (ks : List Kind) (x y : Abs) (ts : List Ty) → MayPutUnder by ks x ts → EachPutUnder by ks x ts y → size_abs y ≡ size_abs x
result-size by ks x y ts m h = sym (size_abs-alike (h m.0 m.1 m.2 m.3 m.4)) ∙ size_abs-substitute (puts ts (λ i. Ty.Var (past m.1 i))) x
