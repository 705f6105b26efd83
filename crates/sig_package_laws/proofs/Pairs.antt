-- Matching both ways pairs the hidden types of two signatures.
-- Main results: placed_abs.
use Rattle.std.specs.Prelude.{ℕ, zero, ◌<◌, ◌≤◌, List, ◌≡◌, ◌⊎◌, length}
use mathlib.Core.Logic.{inl, inr}
use Rattle.std.proofs.Common.{arith}
use Rattle.std.proofs.Math.Decide.{dec_lt}
use Rattle.std.proofs.Math.Path.{sym, ◌∙◌, ap, subst, subst₂}
use Rattle.omega_kinds.specs.Kind.{Kind}
use Rattle.omega_types.specs.Ty.{Ty}
use Rattle.omega_types.specs.Kinding.HasKind.{k_var}
use Rattle.omega_types.specs.Conversion.{Conv}
use Rattle.omega_types.specs.Conversion.Conv.{c_refl, c_sym, c_trans}
use Rattle.omega_types.specs.Normaliser.{kind_at}
use Rattle.omega_types.specs.Normalises.{Maps}
use Rattle.omega_types.specs.Binders.{extend, past, own, puts, OfKinds}
use Rattle.omega_types.proofs.Preservation.{Substitutes, Convertible, conv-kinds}
use Rattle.omega_types.proofs.Inverse.{one_kind}
use Rattle.sig_definitions.specs.Signatures.Sig.{Sig, Abs}
use Rattle.sig_definitions.specs.Signatures.SigSubst.{rename_sig, rename_abs, substitute_sig, substitute_abs}
use Rattle.sig_definitions.specs.Signatures.Alike.{ConvSig, ConvAbs, NormalSigForm, NormalAbsForm, NormalSig, NormalAbs}
use Rattle.sig_definitions.specs.Explicit.SigPath.{SigPath}
use Rattle.sig_definitions.specs.Explicit.RootPath.{Rooted}
use Rattle.sig_laws.proofs.Algebra.BinderLaws.{past-length, puts-past}
use Rattle.sig_laws.proofs.Algebra.SigAlgebra.{substitute-vars_sig, substitute-vars_abs}
use Rattle.sig_laws.proofs.Algebra.AlikeLaws.{conv-form_sig, conv-form_abs, form_sig-unique, form_abs-unique, normal_sig-form, normal_abs-form, normal_sig-rename, normal_abs-rename, conv_sig-substitute, conv_abs-substitute}
use Rattle.sig_laws.proofs.Algebra.Own.{split_index}
use Rattle.sig_laws.proofs.Algebra.Instances.{past-substitutes, kinds-length}
use Rattle.sig_norm_laws.proofs.Orders.Heads.{one-variable}
use Rattle.sig_norm_laws.proofs.Orders.OrderUnique.{same-own}
use Rattle.sig_norm_laws.proofs.Orders.Orders.{pigeonhole, own-own}
use Rattle.sig_norm_laws.proofs.Norm.Shuffles.{Paired, shuffle, shuffle-below, shuffle-past}
use Rattle.sig_laws.proofs.Formed.NormGood.{own-lookup}
use Rattle.omega_types.proofs.BinderPuts.{puts-substitutes}

-- a function of the numbers below n, made total
pub total : (n : ℕ) → ((j : ℕ) → j < n → ℕ) → ℕ → ℕ
total n f j = elim (dec_lt j n) [ yes h ↦ f j h | no h ↦ zero ]

pub total-has : (n : ℕ) (f : (j : ℕ) → j < n → ℕ) (P : ℕ → ℕ → Type 0) → ((j : ℕ) (h : j < n) → P j (f j h)) → (j : ℕ) → j < n → P j (total n f j)
unfolding total
total-has n f P p j h = go (dec_lt j n)
  where
    go : (d : Dec (j < n)) → P j (elim d [ yes h ↦ f j h | no h ↦ zero ])
    go (yes g) = p j g
    go (no g) = absurd (g h)

-- the variable i of ks and the variable j of js are rooted at one path
abbrev pub Linked : (ctx ks : List Kind) → Sig → (other js : List Kind) → Sig → ℕ → ℕ → Type 0
Linked ctx ks s other js t i j = (p : SigPath) × Rooted (extend ctx ks) s (own ks i) p × Rooted (extend other js) t (own js j) p

-- each variable of the right side is put to the variable that is linked to it
abbrev pub Placed : (ctx ks : List Kind) → Sig → (other js : List Kind) → Sig → (ℕ → Ty) → Type 0
Placed ctx ks s other js t f = (i j : ℕ) → i < length ks → j < length js → Linked ctx ks s other js t i j → (k : Kind) × Conv (extend ctx ks) (Ty.Var (own ks i)) (f (own js j)) k

-- the hidden types of two signatures, paired one to one by being rooted at one path
pub data Pairs (ctx ks : List Kind) (s : Sig) (other js : List Kind) (t : Sig) : Type 0 where
  pairs : (to from : ℕ → ℕ) → Paired ks js to from → ((j : ℕ) → j < length js → Linked ctx ks s other js t (to j) j) → ((i : ℕ) → i < length ks → Linked ctx ks s other js t i (from i)) → Pairs ctx ks s other js t

one-place : {ctx : List Kind} {a : Ty} {i j : ℕ} {k l : Kind} → Conv ctx (Ty.Var i) a k → Conv ctx (Ty.Var j) a l → i ≡ j
one-place {ctx} {a} {i} {j} {k} {l} c d =
    let e : l ≡ k = one_kind ctx a l k (conv-kinds d).1 (conv-kinds c).1 in
    one-variable (c_trans c (c_sym (subst (Conv ctx (Ty.Var j) a) e d)))

-- F puts types under ks for js, G types under js for ks
pub pair : (ctx ks : List Kind) (s : Sig) (other js : List Kind) (t : Sig) (third : List Kind) (F G : ℕ → Ty)
    → ((j : ℕ) → j < length js → (i : ℕ) × (i < length ks) × Linked ctx ks s other js t i j)
    → ((i : ℕ) → i < length ks → (j : ℕ) × (j < length js) × Linked ctx ks s other js t i j)
    → Substitutes (extend other js) (extend ctx ks) F
    → Placed ctx ks s other js t F
    → ((i j : ℕ) → i < length ks → j < length js → Linked ctx ks s other js t i j → (k : Kind) × Conv third (Ty.Var (own js j)) (G (own ks i)) k)
    → Pairs ctx ks s other js t
pair ctx ks s other js t third F G h g F-sub put back = pairs (total (length js) (λ j lt. (h j lt).0)) (total (length ks) (λ i lt. (g i lt).0))
    (record { same_length = omega (arith, shorter, longer); to_below = λ j lt. (to-has j lt).0; from_below = λ i lt. (from-has i lt).0; from_to = from-to; to_from = to-from; same_kinds = same })
    (λ j lt. (to-has j lt).1) (λ i lt. (from-has i lt).1)
  where
    to-has : (j : ℕ) → j < length js → (total (length js) (λ j lt. (h j lt).0) j < length ks) × Linked ctx ks s other js t (total (length js) (λ j lt. (h j lt).0) j) j
    to-has = total-has (length js) (λ j lt. (h j lt).0) (λ j i. (i < length ks) × Linked ctx ks s other js t i j) (λ j lt. ((h j lt).1, (h j lt).2))

    from-has : (i : ℕ) → i < length ks → (total (length ks) (λ i lt. (g i lt).0) i < length js) × Linked ctx ks s other js t i (total (length ks) (λ i lt. (g i lt).0) i)
    from-has = total-has (length ks) (λ i lt. (g i lt).0) (λ i j. (j < length js) × Linked ctx ks s other js t i j) (λ i lt. ((g i lt).1, (g i lt).2))

    one-i : (i n j : ℕ) → i < length ks → n < length ks → j < length js → Linked ctx ks s other js t i j → Linked ctx ks s other js t n j → i ≡ n
    one-i i n j li ln lj a b = same-own (length ks) i n li ln (one-place (put i j li lj a).1 (put n j ln lj b).1)

    one-j : (i j n : ℕ) → i < length ks → j < length js → n < length js → Linked ctx ks s other js t i j → Linked ctx ks s other js t i n → j ≡ n
    one-j i j n li lj ln a b = same-own (length js) j n lj ln (one-place (back i j li lj a).1 (back i n li ln b).1)

    from-to : (j : ℕ) → j < length js → total (length ks) (λ i lt. (g i lt).0) (total (length js) (λ j lt. (h j lt).0) j) ≡ j
    from-to j lt = let a = to-has j lt in let i = total (length js) (λ j lt. (h j lt).0) j in let b = from-has i a.0 in one-j i (total (length ks) (λ i lt. (g i lt).0) i) j a.0 b.0 lt b.1 a.1

    to-from : (i : ℕ) → i < length ks → total (length js) (λ j lt. (h j lt).0) (total (length ks) (λ i lt. (g i lt).0) i) ≡ i
    to-from i lt = let a = from-has i lt in let j = total (length ks) (λ i lt. (g i lt).0) i in let b = to-has j a.0 in one-i (total (length js) (λ j lt. (h j lt).0) j) i j b.0 lt a.0 b.1 a.1

    shorter : length js ≤ length ks
    shorter = pigeonhole (length ks) (length js) (total (length js) (λ j lt. (h j lt).0)) (λ j lt. (to-has j lt).0) (λ j n lj ln e. sym (from-to j lj) ∙ (ap (total (length ks) (λ i lt. (g i lt).0)) e ∙ from-to n ln))

    longer : length ks ≤ length js
    longer = pigeonhole (length js) (length ks) (total (length ks) (λ i lt. (g i lt).0)) (λ i lt. (from-has i lt).0) (λ i n li ln e. sym (to-from i li) ∙ (ap (total (length js) (λ j lt. (h j lt).0)) e ∙ to-from n ln))

    same : (j : ℕ) → j < length js → kind_at ks (total (length js) (λ j lt. (h j lt).0) j) ≡ kind_at js j
    same j lt =
        let i = total (length js) (λ j lt. (h j lt).0) j in
        let a = to-has j lt in
        let c = put i j a.0 lt a.1 in
        let n = conv-kinds c.1 in
        one_kind (extend ctx ks) (Ty.Var (own ks i)) (kind_at ks i) c.0 (k_var (own-lookup ctx ks i a.0)) n.0 ∙
        one_kind (extend ctx ks) (F (own js j)) c.0 (kind_at js j) n.1 (F-sub (own js j) (kind_at js j) (own-lookup other js j lt))

-- what is put in are the linked variables themselves
pub placed-shuffle : (ctx ks js : List Kind) (to from : ℕ → ℕ) (ts : List Ty) → Paired ks js to from → OfKinds (extend ctx ks) ts js
    → ((j : ℕ) → j < length js → (k : Kind) × Conv (extend ctx ks) (Ty.Var (own ks (to j))) (puts ts (λ n. Ty.Var (past ks n)) (own js j)) k)
    → Convertible (extend ctx js) (extend ctx ks) (puts ts (λ n. Ty.Var (past ks n))) (λ n. Ty.Var (shuffle ks js to n))
placed-shuffle ctx ks js to from ts p o h i k x = go (split_index js i)
  where
    F-sub : Substitutes (extend ctx js) (extend ctx ks) (puts ts (λ n. Ty.Var (past ks n)))
    F-sub = puts-substitutes o (past-substitutes ks ctx)

    go : (i < length js) ⊎ ((j : ℕ) × (i ≡ past js j)) → Conv (extend ctx ks) (puts ts (λ n. Ty.Var (past ks n)) i) (Ty.Var (shuffle ks js to i)) k
    go (inl lt) =
        let v = own js i in
        let c = h (own js i) (omega (arith, lt)) in
        let e : own js (own js i) ≡ i = own-own js i lt in
        let d : Conv (extend ctx ks) (puts ts (λ n. Ty.Var (past ks n)) i) (Ty.Var (shuffle ks js to i)) c.0 =
        subst₂ (λ m n. Conv (extend ctx ks) (puts ts (λ n. Ty.Var (past ks n)) m) (Ty.Var n) c.0) e (sym (shuffle-below ks js to i lt)) (c_sym c.1) in
        subst (λ j. Conv (extend ctx ks) (puts ts (λ n. Ty.Var (past ks n)) i) (Ty.Var (shuffle ks js to i)) j) (one_kind (extend ctx ks) (puts ts (λ n. Ty.Var (past ks n)) i) c.0 k (conv-kinds d).0 (F-sub i k x)) d
    go (inr (j, f)) =
        let l = kinds-length o in
        let m = p.same_length in
        let a = past-length js j in
        let b = past-length ks j in
        let g : puts ts (λ n. Ty.Var (past ks n)) i ≡ Ty.Var (shuffle ks js to i) =
        puts-past ts (λ n. Ty.Var (past ks n)) j i (omega (arith, l, a, f)) ∙ ap Ty.Var (omega (arith, a, b, m) ∙ (sym (shuffle-past ks js to j) ∙ ap (shuffle ks js to) (sym f))) in
        subst (λ t. Conv (extend ctx ks) (puts ts (λ n. Ty.Var (past ks n)) i) t k) g (c_refl (F-sub i k x))

-- the normal form of a signature under a substitution that is convertible to a renaming is the renamed one
pub placed_sig : {ctx other : List Kind} {t r : Sig} (f : ℕ → Ty) (m : ℕ → ℕ) → Convertible ctx other f (λ n. Ty.Var (m n)) → Maps ctx other m → NormalSig ctx t → ConvSig ctx t t → NormalSigForm other (substitute_sig f t) r → r ≡ rename_sig m t
placed_sig {ctx} {other} {t} {r} f m c h n k g = form_sig-unique g
    (conv-form_sig (subst (ConvSig other (substitute_sig f t)) (substitute-vars_sig m t) (conv_sig-substitute f (λ i. Ty.Var (m i)) c k)) (normal_sig-form other (rename_sig m t) (normal_sig-rename m h t n)))

-- the normal form of a signature under a substitution convertible to a renaming is the renamed signature
pub placed_abs : {ctx other : List Kind} {x y : Abs} (f : ℕ → Ty) (m : ℕ → ℕ) → Convertible ctx other f (λ n. Ty.Var (m n)) → Maps ctx other m → NormalAbs ctx x → ConvAbs ctx x x → NormalAbsForm other (substitute_abs f x) y → y ≡ rename_abs m x
placed_abs {ctx} {other} {x} {y} f m c h n k g = form_abs-unique g
    (conv-form_abs (subst (ConvAbs other (substitute_abs f x)) (substitute-vars_abs m x) (conv_abs-substitute f (λ i. Ty.Var (m i)) c k)) (normal_abs-form other (rename_abs m x) (normal_abs-rename m h x n)))
