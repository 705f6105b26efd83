-- A type put in for one hidden type: by putting types in for it and, for those after it, their own variables.
-- Main results: put-first-by, raise-both.
use Rattle.std.proofs.Common.{◌≡◌, ℕ, zero, suc, ◌+◌, ◌-◌, ◌<◌, List, [], ◌∷◌, ◌++◌, length, map, drop, get_or, refl, sym, ap, ap₂, ◌∙◌, subst, subst₂, arith, append_assoc, length-drop}
use Rattle.std.proofs.Math.Path.{fun_ext}
use Rattle.omega_kinds.specs.Kind.{Kind}
use Rattle.omega_kinds.specs.View.{kind_tree}
use Rattle.omega_kinds.specs.declared.kind.Kind.{Kind as SharedKind}
use Rattle.omega_types.specs.Binders.{extend, front, lifts, past, puts, raise, unders, vars, NormalForms}
use Rattle.omega_types.specs.Conversion.{Conv}
use Rattle.omega_types.specs.Conversion.Conv.{c_sym}
use Rattle.omega_types.specs.EtaLong.{eta}
use Rattle.omega_types.specs.Index.{bump, shift}
use Rattle.omega_types.specs.Normality.{Normal}
use Rattle.omega_types.specs.Normalises.{Maps}
use Rattle.omega_types.specs.Substitution.{rename, substitute}
use Rattle.omega_types.specs.Ty.{Ty, lift}
use Rattle.omega_types.proofs.Algebra.{rename-rename, rename-weaken, substitute-id, substitute-vars}
use Rattle.omega_types.proofs.BinderPuts.{Fits, front-substitutes, its-form, lifts-maps, past-maps, puts-lifts, puts-unders, unders-substitutes, vars-kinds, vars-stand, vars-substitutes}
use Rattle.omega_types.proofs.Preservation.{Convertible, Substitutes, normal-kind, substitute-convertible}
use Rattle.sig_definitions.specs.Signatures.Alike.{IsSigAt, NormalAbs, NormalSig, NormalSigForm}
use Rattle.sig_definitions.specs.Signatures.Sig.{Abs, Sig}
use Rattle.sig_definitions.specs.Signatures.SigSubst.{rename_sig, sig_at, substitute_sig}
use Rattle.sig_laws.proofs.Algebra.AlikeLaws.{conv-form_sig, conv_sig-substitute, form-conv_sig, normal_sig-form, normal_sig-rename}
use Rattle.sig_laws.proofs.Algebra.BinderLaws.{past-length}
use Rattle.sig_laws.proofs.Algebra.SigAlgebra.{substitute-rename_sig}
use Rattle.semantic_sigs.specs.Inner.View.{body_of, kinds_of}
use Rattle.semantic_sigs.proofs.PartSteps.{left-more}
use Rattle.sig_rules.specs.Inner.Hidden.{PutFirst}
use Rattle.semantic_sigs.proofs.MentionSteps.{length-trees}

-- an eta-long variable from elsewhere

pub eta-rename : (r : ℕ → ℕ) (k : Kind) (t : Ty) → rename r (eta k t) ≡ eta k (rename r t)
eta-rename r Kind.Star t = refl
eta-rename r (Kind.Arrow k l) t =
    ap (Ty.Lam k) (eta-rename (lift r) l (Ty.Apply (rename suc t) (eta k (Ty.Var zero))) ∙ ap (eta l) (ap₂ Ty.Apply (rename-weaken r t) (eta-rename (lift r) k (Ty.Var zero))))

-- the eta-long variable 0, raised, is the eta-long variable of the greater index
pub eta-raised : (index : ℕ) (k : Kind) → shift index 0 (eta k (Ty.Var 0)) ≡ eta k (Ty.Var index)
eta-raised index k = let e : index + 0 ≡ index = omega arith in eta-rename (bump index 0) k (Ty.Var 0) ∙ ap (λ i. eta k (Ty.Var i)) e

-- indexes from outside of binders

lifts-bump : (ks : List Kind) (by from : ℕ) → lifts ks (bump by from) ≡ bump by (length ks + from)
lifts-bump [] by from = let e : from ≡ 0 + from = omega arith in ap (bump by) e
lifts-bump (k ∷ ks) by from = let e : length ks + suc from ≡ length (k ∷ ks) + from = omega arith in lifts-bump ks by (suc from) ∙ ap (bump by) e

-- going past binders is the shift by how many they are
pub past-bump : (ks : List Kind) → past ks ≡ bump (length ks) 0
past-bump ks = fun_ext (past-length ks)

pub written-again : (k : Kind) (js : List Kind) → lifts (k ∷ js) (past js) ≡ bump (length js) (suc (length js))
written-again k js = let e : length (k ∷ js) + 0 ≡ suc (length js) = omega arith in ap (lifts (k ∷ js)) (past-bump js) ∙ (lifts-bump (k ∷ js) (length js) 0 ∙ ap (bump (length js)) e)

past-both : (ks js : List Kind) (i : ℕ) → past js (past ks i) ≡ length ks + length js + i
past-both ks js i =
    let a = past-length js (past ks i) in
    let b = past-length ks i in
    omega arith

-- raising past binders and then past others is the shift by how many they are together
pub raise-both : (ks js : List Kind) (t : Ty) → raise js (raise ks t) ≡ shift (length ks + length js) 0 t
raise-both ks js t = rename-rename (past js) (past ks) t ∙ ap (λ r. rename r t) (fun_ext (past-both ks js))

-- each variable of binders, put in for itself

vars-fit : (ks : List Kind) → Fits (vars ks) ks
vars-fit [] = Fits.none
vars-fit (k ∷ ks) = Fits.next (vars-fit ks)

outside : (ks : List Kind) (g : ℕ → Ty) → Path (ℕ → Ty) (λ i. substitute (λ n. Ty.Var (past ks n)) (g i)) (λ i. raise ks (g i))
outside ks g = fun_ext (λ i. substitute-vars (past ks) (g i))

own-under : (ks : List Kind) {ctx other : List Kind} (g : ℕ → Ty) → Substitutes ctx other g → Convertible (extend ctx ks) (extend other ks) (unders ks g) (puts (vars ks) (λ i. raise ks (g i)))
own-under ks {ctx} {other} g h i k x =
    let q : ℕ → Ty = λ n. Ty.Var (past ks n) in
    let c = substitute-convertible (puts (vars ks) q) Ty.Var (vars-stand other ks) (unders-substitutes ks h i k x) in
    let e = ap (λ f. f i) (puts-unders (vars-fit ks) q g) ∙ ap (λ f. puts (vars ks) f i) (outside ks g) in
    c_sym (subst₂ (λ a b. Conv (extend other ks) a b k) e (substitute-id (unders ks g i)) c)

front-raised : (ks : List Kind) (t : Ty) → Path (ℕ → Ty) (λ i. raise ks (front t Ty.Var i)) (front (raise ks t) (λ i. Ty.Var (past ks i)))
front-raised ks t = fun_ext go
  where
    go : (i : ℕ) → raise ks (front t Ty.Var i) ≡ front (raise ks t) (λ n. Ty.Var (past ks n)) i
    go zero = refl
    go (suc i) = refl

-- what stands under hidden types, at a type for the first and the others' own variables, is its form with that type put in
pub put-under : (ctx js : List Kind) (k : Kind) (t : Ty) (s n : Sig) → Normal ctx t k → NormalSig (extend (k ∷ ctx) js) s
    → NormalSigForm (extend ctx js) (substitute_sig (puts (vars js) (front (raise js t) (λ i. Ty.Var (past js i)))) s) n
    → NormalSigForm (extend ctx js) (substitute_sig (unders js (front t Ty.Var)) s) n
put-under ctx js k t s n h m f =
    let g : ℕ → Ty = front t Ty.Var in
    let c = own-under js g (front-substitutes (normal-kind h) (vars-substitutes ctx)) in
    let d = conv_sig-substitute (unders js g) (puts (vars js) (λ i. raise js (g i))) c (form-conv_sig (normal_sig-form (extend (k ∷ ctx) js) s m)) in
    conv-form_sig d (subst (λ q. NormalSigForm (extend ctx js) (substitute_sig (puts (vars js) q) s) n) (sym (front-raised js t)) f)

-- what putting in gives
at-again : (k : Kind) (js : List Kind) (t : Ty) (s : Sig) → sig_at (t ∷ vars js) (rename_sig (lifts (k ∷ js) (past js)) s) ≡ substitute_sig (puts (t ∷ vars js) (λ i. Ty.Var (past js i))) s
at-again k js t s =
    substitute-rename_sig (puts (t ∷ vars js) Ty.Var) (lifts (k ∷ js) (past js)) s
    ∙ ap (λ f. substitute_sig f s) (puts-lifts (Fits.next {t = t} {k = k} (vars-fit js)) Ty.Var (past js))

pub put-first : (ks : List Kind) (s n : Sig) (t : Ty) (x : Abs) (ts : List Ty) (rest : List Kind)
    → x ≡ Abs.Ex ks (rename_sig (bump (length ks - 1) (length ks)) s)
    → (first : Kind) → ks ≡ first ∷ rest
    → ts ≡ t ∷ vars rest
    → ((ctx : List Kind) → NormalAbs ctx x → NormalForms ctx ts (kinds_of x) ts → IsSigAt ctx (body_of x) ts n)
    → PutFirst ks s t n
put-first ks s n t x ts rest ex first ek et f ctx js k e m h =
    let ek' : first ∷ rest ≡ k ∷ js = sym ek ∙ e in
    let rj : rest ≡ js = cc in
    let D = extend ctx js in
    let r = bump (length js) (suc (length js)) in
    let body = rename_sig r s in
    let lb : length (k ∷ js) - 1 ≡ length js = omega arith in
    let lf : length (k ∷ js) ≡ suc (length js) = omega arith in
    let xe : x ≡ Abs.Ex (k ∷ js) body = ex ∙ (ap (λ l. Abs.Ex l (rename_sig (bump (length l - 1) (length l)) s)) e ∙ ap₂ (λ a b. Abs.Ex (k ∷ js) (rename_sig (bump a b) s)) lb lf) in
    let te : ts ≡ t ∷ vars js = et ∙ ap (λ l. t ∷ vars l) rj in
    let w = written-again k js in
    let maps : Maps (extend (k ∷ ctx) js) (extend (k ∷ D) js) r = subst (Maps (extend (k ∷ ctx) js) (extend (k ∷ D) js)) w (lifts-maps (k ∷ js) (past-maps ctx js)) in
    let nb : NormalSig (extend (k ∷ D) js) body = normal_sig-rename r maps s m in
    let nf : NormalForms D (t ∷ vars js) (k ∷ js) (t ∷ vars js) = NormalForms.next (its-form h) (vars-kinds ctx js) in
    let g : (c : List Kind) → NormalAbs c (Abs.Ex (k ∷ js) body) → NormalForms c (t ∷ vars js) (k ∷ js) (t ∷ vars js) → IsSigAt c body (t ∷ vars js) n = subst₂ (λ y us. (c : List Kind) → NormalAbs c y → NormalForms c us (kinds_of y) us → IsSigAt c (body_of y) us n) xe te f in
    let at = g D nb nf in
    let same : sig_at (t ∷ vars js) body ≡ substitute_sig (puts (t ∷ vars js) (λ i. Ty.Var (past js i))) s = ap (λ q. sig_at (t ∷ vars js) (rename_sig q s)) (sym w) ∙ at-again k js t s in
    subst (λ y. NormalSigForm D y n) same at

-- the same, by what the code knows

-- the type for the first hidden type and the variables for the others, put in, fix the first
pub put-first-by : (kinds : List SharedKind) (s n : Sig) (t raised : Ty) (x : Abs) (ts items : List Ty) → 0 < length kinds
    → x ≡ Abs.Ex (map kind_tree kinds) (rename_sig (bump (length kinds - 1) (length kinds)) s)
    → raised ≡ t → ts ≡ raised ∷ vars (map kind_tree (drop 1 kinds)) → items ≡ ts
    → ((ctx : List Kind) → NormalAbs ctx x → NormalForms ctx items (kinds_of x) items → IsSigAt ctx (body_of x) items n)
    → PutFirst (map kind_tree kinds) s t n
put-first-by [] s n t raised x ts items lt ex er et ei f = absurd (omega arith)
put-first-by (k ∷ kinds) s n t raised x ts items lt ex er et ei f =
    let l = sym (length-trees (k ∷ kinds)) in
    put-first (map kind_tree (k ∷ kinds)) s n t x items (map kind_tree kinds)
    (ex ∙ ap (λ m. Abs.Ex (map kind_tree (k ∷ kinds)) (rename_sig (bump (m - 1) m) s)) l)
    (kind_tree k) refl (ei ∙ (et ∙ ap (λ u. u ∷ vars (map kind_tree kinds)) er)) f

own-index : (later : List SharedKind) (i n : ℕ) → n + i ≡ length later → past (map kind_tree (drop (i + 1) later)) 0 ≡ n - 1
own-index later i n e =
    let a = past-length (map kind_tree (drop (i + 1) later)) 0 in
    let b = length-trees (drop (i + 1) later) in
    let d = length-drop (i + 1) later in
    omega arith

-- one more variable of the hidden types after the first is put in
pub own-added : (later : List SharedKind) (i n : ℕ) (k : SharedKind) (first t : Ty) (done now : List Ty) → i < length later → k ≡ get_or later i k → t ≡ eta (kind_tree k) (Ty.Var (n - 1)) → now ≡ done ++ t ∷ []
    → (done ++ vars (map kind_tree (drop i later)) ≡ first ∷ vars (map kind_tree later)) × (n + i ≡ length later)
    → (now ++ vars (map kind_tree (drop (i + 1) later)) ≡ first ∷ vars (map kind_tree later)) × (n - 1 + (i + 1) ≡ length later)
own-added later i n k first t done now lt ek et en inv =
    let rest = vars (map kind_tree (drop (i + 1) later)) in
    let d : drop i later ≡ k ∷ drop (i + 1) later = left-more later i k lt ek in
    let own : t ≡ eta (kind_tree k) (Ty.Var (past (map kind_tree (drop (i + 1) later)) 0)) = et ∙ ap (λ m. eta (kind_tree k) (Ty.Var m)) (sym (own-index later i n inv.1)) in
    let whole : now ++ rest ≡ done ++ vars (map kind_tree (drop i later)) = ap (λ ds. ds ++ rest) en ∙ (append_assoc done (t ∷ []) rest ∙ (ap (λ u. done ++ (u ∷ rest)) own ∙ ap (λ ls. done ++ vars (map kind_tree ls)) (sym d))) in
    let e = inv.1 in
    (whole ∙ inv.0, omega arith)
