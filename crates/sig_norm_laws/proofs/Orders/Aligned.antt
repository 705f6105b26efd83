-- Parts at one path of two signatures, one of which is a subtype of the other.
-- Main results: common, aligned-instance.
use Rattle.std.specs.Prelude.{ℕ, zero, suc, ◌-◌, ◌<◌, List, [], ◌∷◌, ◌++◌, ◌≡◌, ◌⊎◌, length}
use mathlib.Core.Logic.{inl, inr}
use Rattle.std.proofs.Common.{arith}
use Rattle.std.proofs.Math.Path.{refl, sym, ◌∙◌, ap, ap₂, subst, subst₂}
use Rattle.omega_kinds.specs.Kind.{Kind}
use Rattle.omega_kinds.specs.declared.effect.Effect.{Effect}
use Rattle.omega_kinds.specs.declared.effect.Effect.TheVariants.{Pure, Impure}
use Rattle.omega_kinds.specs.Name.{Name}
use Rattle.omega_types.specs.Ty.{Ty}
use Rattle.omega_types.specs.Substitution.{substitute}
use Rattle.omega_types.specs.Kinding.{HasKind}
use Rattle.omega_types.specs.Kinding.HasKind.{k_var}
use Rattle.omega_types.specs.Conversion.{Conv}
use Rattle.omega_types.specs.Conversion.Conv.{c_refl, c_sym, c_trans}
use Rattle.omega_types.specs.Normaliser.{kind_at}
use Rattle.omega_types.specs.Normalises.{NormalForm}
use Rattle.omega_types.specs.Binders.{extend, past, own, lifts, unders, puts, applied, arrow_over, OfKinds, NormalForms}
use Rattle.omega_types.proofs.Algebra.{substitute-id}
use Rattle.omega_types.proofs.Preservation.{Substitutes, Convertible, conv-kinds, substitute-convertible}
use Rattle.omega_types.proofs.Inverse.{one_kind}
use Rattle.omega_terms.specs.Term.{Term, TermRow}
use Rattle.sig_definitions.specs.Signatures.Sig.{Sig, Abs, SigRow, HasField, here, there}
use Rattle.sig_definitions.specs.Signatures.SigSubst.{rename_sig, substitute_sig, substitute_sig_row, sig_at}
use Rattle.sig_definitions.specs.Signatures.Alike.{AlikeSig, AlikeAbs, AlikeRow, val, typ, meta, str, fun, ex, end, more, ConvBetween, ConvSig, NormalSigForm}
use Rattle.sig_definitions.specs.Explicit.SigPath.{SigPath, PartAt}
use Rattle.sig_definitions.specs.Explicit.RootPath.{Rooted, at}
use Rattle.sig_definitions.specs.Matching.Subtyping.{Sub, SubFields, SubResult, Match}
use Rattle.sig_laws.proofs.Algebra.BinderLaws.{extend-append, unders-convertible, unders-vars, lifts-id, past-length, puts-past}
use Rattle.sig_laws.proofs.Algebra.SigAlgebra.{substitute-rename_sig}
use Rattle.sig_laws.proofs.Algebra.AlikeLaws.{form-conv_sig, conv_sig-sym, conv_sig-trans, substitutes-convertible}
use Rattle.sig_laws.proofs.Algebra.EtaLaws.{lam_over-conv, applied-kinded, eta_over}
use Rattle.sig_laws.proofs.Algebra.Own.{split_index, unders-below}
use Rattle.omega_types.proofs.BinderPuts.{unders-substitutes, puts-substitutes, puts-convertible, Fits, puts-lifts, kinds-fit}
use Rattle.sig_laws.proofs.Algebra.Instances.{past-substitutes, kinds-length}
use Rattle.sig_laws.proofs.Algebra.PathLaws.{field-alike, part-substitute, part-alike, one-field}
use Rattle.sig_laws.proofs.Algebra.Paths.{same_name_of, same_rest_of}
use Rattle.sig_explicit_laws.proofs.Positions.{own-below}
use Rattle.sig_norm_laws.proofs.Orders.Orders.{own-own}
use Rattle.sig_laws.proofs.Formed.NormGood.{own-lookup}
use Rattle.sig_laws.proofs.Formed.Conditions.{match-kinds}
use Rattle.sig_laws.proofs.Formed.Shows.{Shows, shows, rooted-shows, shows-rooted, shows-substitute, shows-alike}

-- as many variables, and each one is rooted at some path on both sides
abbrev pub Joined : (ctx ks : List Kind) → Sig → (other js : List Kind) → Sig → Type 0
Joined ctx ks s other js t = (length ks ≡ length js) × ((i : ℕ) → i < length ks → (p : SigPath) × Rooted (extend ctx ks) s (own ks i) p × Rooted (extend other js) t (own js i) p)

-- the parameters of pure functors at the same places are joined
pub data Aligned : (ctx other : List Kind) → Sig → Sig → Type 0 where
  a_val : {ctx other : List Kind} {t u : Ty} → Aligned ctx other (Sig.Val t) (Sig.Val u)
  a_typ : {ctx other : List Kind} {t u : Ty} {k j : Kind} → Aligned ctx other (Sig.Typ t k) (Sig.Typ u j)
  a_meta : {ctx other : List Kind} {x y : Abs} → Aligned ctx other (Sig.Meta x) (Sig.Meta y)
  a_str : {ctx other : List Kind} {fs gs : SigRow} → ((l : Name) (s t : Sig) → HasField fs l s → HasField gs l t → Aligned ctx other s t) → Aligned ctx other (Sig.Str fs) (Sig.Str gs)
  a_pure : {ctx other ks js : List Kind} {s t r q : Sig} → Joined ctx ks s other js t → Aligned (extend ctx ks) (extend other js) s t → Aligned (extend ctx ks) (extend other js) r q → Aligned ctx other (Sig.Fun Pure ks s (Abs.Ex [] r)) (Sig.Fun Pure js t (Abs.Ex [] q))
  a_left : {ctx other ks : List Kind} {s z : Sig} {x : Abs} → Aligned ctx other (Sig.Fun Impure ks s x) z
  a_right : {ctx other ks : List Kind} {s z : Sig} {x : Abs} → Aligned ctx other z (Sig.Fun Impure ks s x)

joined-flip : (ctx ks : List Kind) (s : Sig) (other js : List Kind) (t : Sig) → Joined ctx ks s other js t → Joined other js t ctx ks s
joined-flip ctx ks s other js t j = (sym j.0, λ i lt. let e = j.0 in let w = j.1 i (omega (arith, e, lt)) in (w.0, w.2, w.1))

pub aligned-flip : {ctx other : List Kind} {s t : Sig} → Aligned ctx other s t → Aligned other ctx t s
aligned-flip Aligned.a_val = Aligned.a_val
aligned-flip Aligned.a_typ = Aligned.a_typ
aligned-flip Aligned.a_meta = Aligned.a_meta
aligned-flip (Aligned.a_str h) = Aligned.a_str (λ l s t f g. aligned-flip (h l t s g f))
aligned-flip (Aligned.a_pure {ctx = ctx} {other = other} {ks = ks} {js = js} {s = s} {t = t} j a b) = Aligned.a_pure (joined-flip ctx ks s other js t j) (aligned-flip a) (aligned-flip b)
aligned-flip Aligned.a_left = Aligned.a_right
aligned-flip Aligned.a_right = Aligned.a_left

-- rooted variables with types put in

rooted-moved : (ctx other ks : List Kind) {s t : Sig} {i : ℕ} {p : SigPath} (f : ℕ → Ty) → Substitutes ctx other f → i < length ks → Rooted (extend ctx ks) s (own ks i) p → ConvSig (extend other ks) (substitute_sig (unders ks f) s) t → Rooted (extend other ks) t (own ks i) p
rooted-moved ctx other ks {i = i} f h lt x e = shows-rooted (unders-below ks f (own ks i) (own-below ks i lt)) (shows-alike (shows-substitute (unders ks f) (unders-substitutes ks h) (rooted-shows x)) e)

field-moved : {ctx : List Kind} (f : ℕ → Ty) (fs : SigRow) {gs : SigRow} {l : Name} {t : Sig} → AlikeRow ConvBetween ctx (substitute_sig_row f fs) gs → HasField gs l t → (s : Sig) × HasField fs l s × ConvSig ctx (substitute_sig f s) t
field-moved f SigRow.End end h = elim h [ ]
field-moved f (SigRow.More m s rest) (more c cs) here = (s, here, c)
field-moved f (SigRow.More m s rest) (more c cs) (there d h) = let q = field-moved f rest cs h in (q.0, there d q.1, q.2)

-- types put in on the right side
pub aligned-moved : {ctx other third : List Kind} {z s t : Sig} (f : ℕ → Ty) → Substitutes other third f → Aligned ctx other z s → ConvSig third (substitute_sig f s) t → Aligned ctx third z t
aligned-moved f h Aligned.a_val (val c) = Aligned.a_val
aligned-moved f h Aligned.a_typ (typ c) = Aligned.a_typ
aligned-moved f h Aligned.a_meta (meta c) = Aligned.a_meta
aligned-moved f h (Aligned.a_str {gs = gs} a) (str c) = Aligned.a_str (λ l s t g k. let q = field-moved f gs c k in aligned-moved f h (a l s q.0 g q.1) q.2)
aligned-moved {ctx} {other} {third} f h (Aligned.a_pure {ks = ks} {js = js} {s = s} {t = t} j a b) (fun {t = u} c (ex d)) =
    Aligned.a_pure (j.0, λ i lt. let e = j.0 in let w = j.1 i lt in (w.0, w.1, rooted-moved other third js f h (omega (arith, e, lt)) w.2 c))
    (aligned-moved (unders js f) (unders-substitutes js h) a c)
    (aligned-moved (unders js f) (unders-substitutes js h) b d)
aligned-moved f h Aligned.a_left c = Aligned.a_left
aligned-moved f h Aligned.a_right (fun c d) = Aligned.a_right

pub aligned-moved_left : {ctx other third : List Kind} {z s t : Sig} (f : ℕ → Ty) → Substitutes other third f → Aligned other ctx s z → ConvSig third (substitute_sig f s) t → Aligned third ctx t z
aligned-moved_left f h a c = aligned-flip (aligned-moved f h (aligned-flip a) c)

-- what parts at one path have in common
pub data Agree (ctx bs cs : List Kind) (t u : Ty) (k j : Kind) : Type 0 where
  agree : bs ≡ cs → Conv (extend ctx bs) t u k → k ≡ j → Agree ctx bs cs t u k j

-- the same kinds, and each variable is put to itself
pub data Fixed (ctx ks js : List Kind) (f : ℕ → Ty) : Type 0 where
  fixed : ks ≡ js → Convertible (extend ctx ks) (extend ctx js) f Ty.Var → Fixed ctx ks js f

under-fixed : (ctx ks js bs : List Kind) (f : ℕ → Ty) {t : Ty} {k : Kind} → Fixed ctx ks js f → HasKind (extend (extend ctx ks) bs) t k → Conv (extend (extend ctx js) bs) (substitute (unders bs f) t) t k
under-fixed ctx ks js bs f {t} {k} (fixed e c) h =
    subst (λ u. Conv (extend (extend ctx js) bs) (substitute (unders bs f) t) u k) (ap (λ g. substitute g t) (unders-vars bs (λ i. i) ∙ ap (λ r i. Ty.Var (r i)) (lifts-id bs)) ∙ substitute-id t)
    (substitute-convertible (unders bs f) (unders bs Ty.Var) (unders-convertible bs c) h)

-- lists of kinds that have the same length and the same kind at each number are the same
pub same-kinds : (xs ys : List Kind) → length xs ≡ length ys → ((k : ℕ) → k < length xs → kind_at xs k ≡ kind_at ys k) → xs ≡ ys
same-kinds [] [] e f = refl
same-kinds [] (y ∷ ys) e f = absurd (omega (arith, e))
same-kinds (x ∷ xs) [] e f = absurd (omega (arith, e))
same-kinds (x ∷ xs) (y ∷ ys) e f = ap₂ ◌∷◌ (f zero (omega arith)) (same-kinds xs ys (omega (arith, e)) (λ k h. f (suc k) (omega (arith, h))))

-- an operator and a variable that show at one path are convertible
pub shown-same : (ctx : List Kind) {bs cs : List Kind} {a b t u : Ty} {k j : Kind} → Agree ctx bs cs t u k j → Conv (extend ctx bs) t (applied bs a) k → Conv (extend ctx cs) u (applied cs b) j → (i : Kind) × Conv ctx a b i
shown-same ctx {bs} {cs} {a} {b} {t} {u} {k} {j} (agree e c f) d g =
    let h : Conv (extend ctx bs) u (applied bs b) k = subst₂ (λ z w. Conv (extend ctx z) u (applied z b) w) (sym e) (sym f) g in
    let m : Conv (extend ctx bs) (applied bs a) (applied bs b) k = c_trans (c_sym d) (c_trans c h) in
    let n = conv-kinds m in
    (arrow_over bs k, c_trans (c_sym (eta_over bs k (applied-kinded bs a n.0))) (c_trans (lam_over-conv bs m) (eta_over bs k (applied-kinded bs b n.1))))

-- each variable is put to the variable of its number
pub all-fixed : (ctx ks js : List Kind) (ts : List Ty) → OfKinds (extend ctx js) ts ks → length ks ≡ length js → ((i : ℕ) → i < length ks → (k : Kind) × Conv (extend ctx js) (Ty.Var (own js i)) (puts ts (λ n. Ty.Var (past js n)) (own ks i)) k) → Fixed ctx ks js (puts ts (λ n. Ty.Var (past js n)))
all-fixed ctx ks js ts o e h = fixed same all
  where
    F : ℕ → Ty
    F = puts ts (λ n. Ty.Var (past js n))

    F-substitutes : Substitutes (extend ctx ks) (extend ctx js) (puts ts (λ n. Ty.Var (past js n)))
    F-substitutes = puts-substitutes o (past-substitutes js ctx)

    kind : (i : ℕ) → i < length ks → kind_at ks i ≡ kind_at js i
    kind i lt =
        let c = h i lt in
        let n = conv-kinds c.1 in
        one_kind (extend ctx js) (puts ts (λ n. Ty.Var (past js n)) (own ks i)) (kind_at ks i) c.0 (F-substitutes (own ks i) (kind_at ks i) (own-lookup ctx ks i lt)) n.1 ∙
        one_kind (extend ctx js) (Ty.Var (own js i)) c.0 (kind_at js i) n.0 (k_var (own-lookup ctx js i (omega (arith, e, lt))))

    same : ks ≡ js
    same = same-kinds ks js e kind

    all : Convertible (extend ctx ks) (extend ctx js) (puts ts (λ n. Ty.Var (past js n))) Ty.Var
    all i k x = go (split_index ks i)
      where
        go : (i < length ks) ⊎ ((j : ℕ) × (i ≡ past ks j)) → Conv (extend ctx js) (puts ts (λ n. Ty.Var (past js n)) i) (Ty.Var i) k
        go (inl lt) =
            let v = own ks i in
            let c = h (own ks i) (omega (arith, lt)) in
            let p : own ks (own ks i) ≡ i = own-own ks i lt in
            let q : own js (own ks i) ≡ i = ap (λ n. n - suc (own ks i)) (sym e) ∙ p in
            let d : Conv (extend ctx js) (puts ts (λ n. Ty.Var (past js n)) i) (Ty.Var i) c.0 = subst₂ (λ m n. Conv (extend ctx js) (puts ts (λ n. Ty.Var (past js n)) m) (Ty.Var n) c.0) p q (c_sym c.1) in
            subst (λ j. Conv (extend ctx js) (puts ts (λ n. Ty.Var (past js n)) i) (Ty.Var i) j) (one_kind (extend ctx js) (puts ts (λ n. Ty.Var (past js n)) i) c.0 k (conv-kinds d).0 (F-substitutes i k x)) d
        go (inr (j, f)) =
            let l = kinds-length o in
            let p = past-length ks j in
            let q = past-length js j in
            let g : puts ts (λ n. Ty.Var (past js n)) i ≡ Ty.Var i = puts-past ts (λ n. Ty.Var (past js n)) j i (omega (arith, l, p, f)) ∙ ap Ty.Var (omega (arith, e, p, q, f)) in
            subst (λ t. Conv (extend ctx js) t (Ty.Var i) k) (sym g) (c_refl (subst (λ t. HasKind (extend ctx js) t k) g (F-substitutes i k x)))

-- a signature renamed past further binders, at types, is the signature at these types under the binders
pub sig_at-under : (ks js : List Kind) (guess : List Ty) (s : Sig) → Fits guess ks → sig_at guess (rename_sig (lifts ks (past js)) s) ≡ substitute_sig (puts guess (λ n. Ty.Var (past js n))) s
sig_at-under ks js guess s e = substitute-rename_sig (puts guess Ty.Var) (lifts ks (past js)) s ∙ ap (λ f. substitute_sig f s) (puts-lifts e Ty.Var (past js))

-- the type at the end of a path in a well kinded signature has its kind
pub part-kind : {ctx : List Kind} {s : Sig} {p : SigPath} {bs : List Kind} {t : Ty} {k : Kind} → ConvSig ctx s s → PartAt s p bs (Sig.Typ t k) → HasKind (extend ctx bs) t k
part-kind {ctx} {bs = bs} {t = t} {k = k} c x = go (part-alike ctx x c)
  where
    end_part : {z : Sig} → AlikeSig ConvBetween (extend ctx bs) (Sig.Typ t k) z → HasKind (extend ctx bs) t k
    end_part (typ f) = (conv-kinds f).0

    go : {s : Sig} {p : SigPath} → (z : Sig) × PartAt s p bs z × AlikeSig ConvBetween (extend ctx bs) (Sig.Typ t k) z → HasKind (extend ctx bs) t k
    go w = end_part w.2

-- the left side's part with types put in that are the variables themselves
pub data Moved (ctx : List Kind) (s : Sig) (p : SigPath) (bs : List Kind) (t : Ty) (k : Kind) : Type 0 where
  moved : {u : Ty} → PartAt s p bs (Sig.Typ u k) → Conv (extend ctx bs) u t k → Moved ctx s p bs t k

move-part : (ctx ks js : List Kind) (f : ℕ → Ty) {s r : Sig} {p : SigPath} {bs : List Kind} {t : Ty} {k : Kind} → Fixed ctx ks js f → ConvSig (extend ctx ks) s s → ConvSig (extend ctx js) (substitute_sig f s) r → PartAt s p bs (Sig.Typ t k) → Moved (extend ctx js) r p bs t k
move-part ctx ks js f {s} {r} {p} {bs} {t} {k} h c d x = go (part-alike (extend ctx js) (part-substitute f x) d)
  where
    end_part : {z : Sig} → PartAt r p bs z → AlikeSig ConvBetween (extend (extend ctx js) bs) (Sig.Typ (substitute (unders bs f) t) k) z → Moved (extend ctx js) r p bs t k
    end_part y (typ g) = moved y (c_trans (c_sym g) (under-fixed ctx ks js bs f h (part-kind c x)))

    go : (z : Sig) × PartAt r p bs z × AlikeSig ConvBetween (extend (extend ctx js) bs) (Sig.Typ (substitute (unders bs f) t) k) z → Moved (extend ctx js) r p bs t k
    go w = end_part w.1 w.2

agree-result : {ctx ks js bs cs : List Kind} {t u v : Ty} {k j : Kind} → ks ≡ js → Conv (extend (extend ctx js) bs) v t k → Agree (extend ctx js) bs cs v u k j → Agree ctx (ks ++ bs) (js ++ cs) t u k j
agree-result {ctx} {ks} {js} {bs} {cs} {t} {u} {v} {k} {j} e c (agree f d g) = agree (ap₂ (λ x y. x ++ y) e f)
    (subst (λ z. Conv z t u k) (ap (λ z. extend (extend ctx z) bs) (sym e) ∙ sym (extend-append ks bs ctx)) (c_trans (c_sym c) d)) g

-- the fields of a well kinded structure are well kinded
pub str-kinds : {ctx : List Kind} {fs : SigRow} {z : Sig} {l : Name} {s : Sig} → ConvSig ctx (Sig.Str fs) z → HasField fs l s → ConvSig ctx s s
str-kinds (str c) h = let q = field-alike c h in conv_sig-trans q.2 (conv_sig-sym q.2)

pub typ-kind : {ctx : List Kind} {t : Ty} {k : Kind} {z : Sig} → ConvSig ctx (Sig.Typ t k) z → HasKind ctx t k
typ-kind (typ c) = (conv-kinds c).0

-- the parameter of a well kinded functor is well kinded
pub param-kinds : {ctx ks : List Kind} {e : Effect} {s z : Sig} {x : Abs} → ConvSig ctx (Sig.Fun e ks s x) z → ConvSig (extend ctx ks) s s
param-kinds (fun c d) = conv_sig-trans c (conv_sig-sym c)

-- the result of a well kinded functor is well kinded
pub result-kinds : {ctx ks is : List Kind} {e : Effect} {s r z : Sig} → ConvSig ctx (Sig.Fun e ks s (Abs.Ex is r)) z → ConvSig (extend (extend ctx ks) is) r r
result-kinds (fun c (ex d)) = conv_sig-trans d (conv_sig-sym d)

-- a variable and a type at one path of aligned signatures are convertible
pub common : {ctx : List Kind} {s r : Sig} {i : ℕ} {u : Ty} {p : SigPath} → ((bs cs : List Kind) (t w : Ty) (k j : Kind) → PartAt s p bs (Sig.Typ t k) → PartAt r p cs (Sig.Typ w j) → Agree ctx bs cs t w k j) → Rooted ctx s i p → Shows ctx r u p → (k : Kind) × Conv ctx (Ty.Var i) u k
common {ctx} h (at {bs = bs} {t = t} {k = k} x c) (shows {bs = cs} {t = w} {k = j} y d) = shown-same ctx (h bs cs t w k j x y) c d

fixed-forms : (ctx ks js : List Kind) (guess ts : List Ty) → NormalForms (extend ctx js) guess ks ts → Fixed ctx ks js (puts guess (λ n. Ty.Var (past js n))) → Fixed ctx ks js (puts ts (λ n. Ty.Var (past js n)))
fixed-forms ctx ks js guess ts n (fixed e c) = fixed e (λ i k x. c_trans (c_sym (puts-convertible n (substitutes-convertible (past-substitutes js ctx)) i k x)) (c i k x))

-- a match of aligned parameters finds the variables themselves, where parts at one path agree
fixed-by : (ctx ks js : List Kind) (s t r : Sig) (guess ts : List Ty) → OfKinds (extend ctx js) guess ks → NormalForms (extend ctx js) guess ks ts → NormalSigForm (extend ctx js) (sig_at guess (rename_sig (lifts ks (past js)) s)) r
    → Joined ctx ks s ctx js t
    → ((p : SigPath) (bs cs : List Kind) (t' u : Ty) (k j : Kind) → PartAt t p bs (Sig.Typ t' k) → PartAt r p cs (Sig.Typ u j) → Agree (extend ctx js) bs cs t' u k j)
    → Fixed ctx ks js (puts ts (λ n. Ty.Var (past js n)))
fixed-by ctx ks js s t r guess ts o n f j h = fixed-forms ctx ks js guess ts n (all-fixed ctx ks js guess o j.0 each)
  where
    F-substitutes : Substitutes (extend ctx ks) (extend ctx js) (puts guess (λ n. Ty.Var (past js n)))
    F-substitutes = puts-substitutes o (past-substitutes js ctx)

    conv : ConvSig (extend ctx js) (substitute_sig (puts guess (λ n. Ty.Var (past js n))) s) r
    conv = subst (λ z. ConvSig (extend ctx js) z r) (sig_at-under ks js guess s (kinds-fit o)) (form-conv_sig f)

    each : (i : ℕ) → i < length ks → (k : Kind) × Conv (extend ctx js) (Ty.Var (own js i)) (puts guess (λ n. Ty.Var (past js n)) (own ks i)) k
    each i lt = let w = j.1 i lt in common (h w.0) w.2 (shows-alike (shows-substitute (puts guess (λ n. Ty.Var (past js n))) F-substitutes (rooted-shows w.1)) conv)

-- signatures that are aligned stay so when types are put into the right one
pub aligned-instance : (ctx ks js : List Kind) (s t r : Sig) (guess : List Ty) → OfKinds (extend ctx js) guess ks → NormalSigForm (extend ctx js) (sig_at guess (rename_sig (lifts ks (past js)) s)) r → Aligned (extend ctx js) (extend ctx ks) t s → Aligned (extend ctx js) (extend ctx js) t r
aligned-instance ctx ks js s t r guess o f a = aligned-moved (puts guess (λ n. Ty.Var (past js n))) (puts-substitutes o (past-substitutes js ctx)) a
    (subst (λ z. ConvSig (extend ctx js) z r) (sig_at-under ks js guess s (kinds-fit o)) (form-conv_sig f))

-- a normal form of a signature is well kinded
pub form-kinds : {ctx : List Kind} {s r : Sig} → NormalSigForm ctx s r → ConvSig ctx r r
form-kinds f = let c = form-conv_sig f in conv_sig-trans (conv_sig-sym c) c

finish : (ctx ks js bs cs : List Kind) (t u : Ty) (k j : Kind) {f : ℕ → Ty} {r : Sig} {p : SigPath} → Fixed ctx ks js f → Moved (extend ctx js) r p bs t k → ((v : Ty) → PartAt r p bs (Sig.Typ v k) → Agree (extend ctx js) bs cs v u k j) → Agree ctx (ks ++ bs) (js ++ cs) t u k j
finish ctx ks js bs cs t u k j (fixed e c) (moved {u = v} x d) h = agree-result e d (h v x)

-- signatures that are the same hide the same kinds
pub same-hidden : {ks js : List Kind} {s t : Sig} → Path Abs (Abs.Ex ks s) (Abs.Ex js t) → ks ≡ js
same-hidden e = cc

-- signatures that are the same have the same body
pub same-body : {ks js : List Kind} {s t : Sig} → Path Abs (Abs.Ex ks s) (Abs.Ex js t) → s ≡ t
same-body e = cc

-- the normal form of a signature that hides nothing is that of its body
pub plain-form : {ctx : List Kind} {s t : Sig} → AlikeAbs NormalForm ctx (Abs.Ex [] s) (Abs.Ex [] t) → NormalSigForm ctx s t
plain-form (ex n) = n

mutual
  -- parts at one path agree
  pub parts_agree : {ctx : List Kind} {s r : Sig} {f : Term} {p o : SigPath} {bs cs : List Kind} {t u : Ty} {k j : Kind} → Sub ctx s r f → Aligned ctx ctx s r → ConvSig ctx s s → ConvSig ctx r r → PartAt s p bs (Sig.Typ t k) → PartAt r o cs (Sig.Typ u j) → p ≡ o → Agree ctx bs cs t u k j
  parts_agree Sub.typ a c d PartAt.end PartAt.end e = agree refl (c_refl (typ-kind c)) refl
  parts_agree Sub.val a c d x y e = elim x [ ]
  parts_agree (Sub.meta m n) a c d x y e = elim x [ ]
  parts_agree (Sub.str {gs = gs} fs) (Aligned.a_str a) c d (PartAt.field {l = l} {s = s} h x) (PartAt.field {l = m} {s = r} g y) e =
      fields_agree fs (a l s r h (subst (λ n. HasField gs n r) (sym (same_name_of e)) g)) (str-kinds c h) (str-kinds d g) h x g y (same_name_of e) (same_rest_of e)
  parts_agree {ctx} {k = k} (Sub.fun {ks = ks} {js = js} {ts = ts} m nf (SubResult.both_pure q)) (Aligned.a_pure {s = s} {t = t} {r = r} {q = w} j a b) c d (PartAt.result {bs = bs} {p = p} x) (PartAt.result {bs = cs} y) e =
      let F = puts ts (λ i. Ty.Var (past js i)) in
      let n = plain-form nf in
      let h = match_fixed ctx ks js s t m refl refl j (aligned-flip a) (param-kinds d) (param-kinds c) in
      let o = match-kinds m in
      let al = aligned-moved_left F (puts-substitutes o (past-substitutes js ctx)) b (form-conv_sig n) in
      finish ctx ks js bs cs _ _ k _ h (move-part ctx ks js F h (result-kinds c) (form-conv_sig n) x) (λ v g. parts_agree q al (form-kinds n) (result-kinds d) g y (same_rest_of e))
  parts_agree (Sub.fun m nf (SubResult.to_impure q)) a c d x y e = elim y [ ]

  pub match_fixed : (ctx ks js : List Kind) (s t : Sig) {inner : List Kind} {y : Abs} {ts : List Ty} {f : Term} → Match inner t y ts f → inner ≡ extend ctx js → y ≡ Abs.Ex ks (rename_sig (lifts ks (past js)) s) → Joined ctx ks s ctx js t → Aligned (extend ctx js) (extend ctx ks) t s → ConvSig (extend ctx js) t t → ConvSig (extend ctx ks) s s → Fixed ctx ks js (puts ts (λ n. Ty.Var (past js n)))
  match_fixed ctx ks js s t {ts = ts} (Match.at {r = r} {guess = guess} o n f sub) e g j a c d =
      let o' : OfKinds (extend ctx js) guess ks = subst₂ (λ z w. OfKinds z guess w) e (same-hidden g) o in
      let n' : NormalForms (extend ctx js) guess ks ts = subst₂ (λ z w. NormalForms z guess w ts) e (same-hidden g) n in
      let f' : NormalSigForm (extend ctx js) (sig_at guess (rename_sig (lifts ks (past js)) s)) r = subst₂ (λ z w. NormalSigForm z (sig_at guess w) r) e (same-body g) f in
      let al : Aligned (extend ctx js) (extend ctx js) t r = aligned-instance ctx ks js s t r guess o' f' a in
      fixed-by ctx ks js s t r guess ts o' n' f' j (λ p bs cs t' u k j x y. subst (λ z. Agree z bs cs t' u k j) e (parts_agree sub (subst (λ z. Aligned z z t r) (sym e) al) (subst (λ z. ConvSig z t t) (sym e) c) (subst (λ z. ConvSig z r r) (sym e) (form-kinds f')) x y refl))

  fields_agree : {ctx : List Kind} {fs gs : SigRow} {parts : TermRow} {l m : Name} {s r : Sig} {p o : SigPath} {bs cs : List Kind} {t u : Ty} {k j : Kind} → SubFields ctx fs gs parts → Aligned ctx ctx s r → ConvSig ctx s s → ConvSig ctx r r → HasField fs l s → PartAt s p bs (Sig.Typ t k) → HasField gs m r → PartAt r o cs (Sig.Typ u j) → l ≡ m → p ≡ o → Agree ctx bs cs t u k j
  fields_agree SubFields.end a c d h x g y e f = elim g [ ]
  fields_agree {ctx} {r = r} {p = p} {bs = bs} {t = t} {k = k} (SubFields.more hf sub rest) a c d h x here y e f =
      let q = one-field h hf e in
      parts_agree sub (subst (λ z. Aligned ctx ctx z r) q a) (subst (λ z. ConvSig ctx z z) q c) d (subst (λ z. PartAt z p bs (Sig.Typ t k)) q x) y f
  fields_agree (SubFields.more hf sub rest) a c d h x (there n g) y e f = fields_agree rest a c d h x g y e f
