-- The variables of binders, as they are built one after the other, and binders in a row.
-- Main results: own-done, types-put.
use Rattle.std.specs.Prelude.{ℕ, zero, suc, ◌+◌, ◌-◌, ◌<◌, ◌≤◌, List, [], ◌∷◌, ◌++◌, ◌≡◌, length, map, drop, take}
use Rattle.std.proofs.Common.{get_or, arith, append_assoc, append-nil, take_all, take-suc}
use Rattle.std.proofs.Math.Path.{refl, sym, ap, ap₂, ◌∙◌}
use Rattle.std.proofs.lemmas.List.{map-append}
use Rattle.omega_kinds.specs.Kind.{Kind}
use Rattle.omega_kinds.specs.View.{kind_tree}
use Rattle.omega_kinds.specs.declared.kind.Kind.{Kind as SharedKind}
use Rattle.omega_types.specs.Ty.{Ty, lift}
use Rattle.omega_types.specs.Substitution.{rename, substitute}
use Rattle.omega_types.specs.EtaLong.{eta}
use Rattle.omega_types.specs.Index.{bump, shift}
use Rattle.omega_types.specs.Binders.{extend, past, vars, puts, NormalForms}
use Rattle.omega_types.proofs.Algebra.{rename-weaken}
use Rattle.omega_types.proofs.BinderPuts.{past-plus, NormalTypes, forms-types}
use Rattle.semantic_sigs.specs.Inner.Changes.{ty_in, putting}
use Rattle.semantic_sigs.proofs.HeadLaws.{Good, in-normal, good-puts, good-vars}
use Rattle.semantic_sigs.proofs.MentionSteps.{length-trees}

eta-rename : (k : Kind) (r : ℕ → ℕ) (t : Ty) → rename r (eta k t) ≡ eta k (rename r t)
eta-rename Kind.Star r t = refl
eta-rename (Kind.Arrow k l) r t =
    ap (Ty.Lam k) (eta-rename l (lift r) (Ty.Apply (rename suc t) (eta k (Ty.Var zero))) ∙ ap₂ (λ f a. eta l (Ty.Apply f a)) (rename-weaken r t) (eta-rename k (lift r) (Ty.Var zero)))

-- the innermost variable in normal form, raised
pub own-raised : (k : Kind) (inner : ℕ) (n t : Ty) → n ≡ eta k (Ty.Var zero) → t ≡ shift inner 0 n → t ≡ eta k (Ty.Var inner)
own-raised k inner n t en et =
    let plus : inner + 0 ≡ inner = omega arith in
    et ∙ (ap (shift inner 0) en ∙ (eta-rename k (bump inner 0) (Ty.Var zero) ∙ ap (λ i. eta k (Ty.Var i)) plus))

vars-drop : (items : List SharedKind) (n : ℕ) (d : SharedKind) → n < length items → vars (map kind_tree (drop n items)) ≡ eta (kind_tree (get_or items n d)) (Ty.Var (length items - suc n)) ∷ vars (map kind_tree (drop (suc n) items))
vars-drop [] n d lt = absurd (omega (arith, lt))
vars-drop (k ∷ items) zero d lt =
    let p : past (map kind_tree items) zero ≡ zero + length (map kind_tree items) = past-plus (map kind_tree items) zero in
    let q : length (map kind_tree items) ≡ length items = length-trees items in
    let e : past (map kind_tree items) zero ≡ length (k ∷ items) - 1 = omega (arith, p, q) in
    ap (λ i. eta (kind_tree k) (Ty.Var i) ∷ vars (map kind_tree items)) e
vars-drop (k ∷ items) (suc n) d lt =
    let e : length items - suc n ≡ length (k ∷ items) - suc (suc n) = omega arith in
    vars-drop items n d (omega (arith, lt)) ∙ ap (λ i. eta (kind_tree (get_or items n d)) (Ty.Var i) ∷ vars (map kind_tree (drop (suc n) items))) e

-- one variable more is built, and the whole list stays the one to come
pub own-next : (items : List SharedKind) (n inner : ℕ) (kind : SharedKind) (t : Ty) (ts more whole : List Ty) → n < length items → kind ≡ get_or items n kind → inner + n ≡ length items → t ≡ shift (inner - 1) 0 (eta (kind_tree kind) (Ty.Var 0)) → ts ++ vars (map kind_tree (drop n items)) ≡ whole → more ≡ ts ++ t ∷ [] → more ++ vars (map kind_tree (drop (n + 1) items)) ≡ whole
own-next items n inner kind t ts more whole lt ek ei et ew em =
    let one : n + 1 ≡ suc n = omega arith in
    let last : inner - 1 ≡ length items - suc n = omega (arith, ei) in
    let head : t ≡ eta (kind_tree (get_or items n kind)) (Ty.Var (length items - suc n)) = own-raised (kind_tree kind) (inner - 1) (eta (kind_tree kind) (Ty.Var 0)) t refl et ∙ ap₂ (λ k i. eta (kind_tree k) (Ty.Var i)) ek last in
    let step : t ∷ vars (map kind_tree (drop (n + 1) items)) ≡ vars (map kind_tree (drop n items)) = ap₂ (λ u m. u ∷ vars (map kind_tree (drop m items))) head one ∙ sym (vars-drop items n kind lt) in
    ap (λ us. us ++ vars (map kind_tree (drop (n + 1) items))) em ∙ (append_assoc ts (t ∷ []) (vars (map kind_tree (drop (n + 1) items))) ∙ (ap (λ us. ts ++ us) step ∙ ew))

past-all : (n : ℕ) (items : List SharedKind) → length items ≤ n → drop n items ≡ []
past-all zero [] le = refl
past-all zero (k ∷ items) le = absurd (omega (arith, le))
past-all (suc n) [] le = refl
past-all (suc n) (k ∷ items) le = past-all n items (omega (arith, le))

-- when the variables of all binders are built, they are the binders' variables
pub own-done : (items : List SharedKind) (ks : List Kind) (n : ℕ) (ts : List Ty) → map kind_tree items ≡ ks → length items ≤ n → ts ++ vars (map kind_tree (drop n items)) ≡ vars (map kind_tree items) → ts ≡ vars ks
own-done items ks n ts e le ew =
    sym (append-nil ts) ∙ (ap (λ xs. ts ++ vars (map kind_tree xs)) (sym (past-all n items le)) ∙ (ew ∙ ap vars e))

-- binders of two lists, one after the other

-- with one item more of a second list pushed, the list is longer by what it becomes
pub pushed-next : {A B : Type 0} (f : A → B) (first ys more : List B) (xs : List A) (n : ℕ) (x : A) (y : B) → n < length xs → x ≡ get_or xs n x → y ≡ f x → ys ≡ first ++ map f (take n xs) → more ≡ ys ++ y ∷ [] → more ≡ first ++ map f (take (n + 1) xs)
pushed-next f first ys more xs n x y lt ex ey eys em =
    let one : suc n ≡ n + 1 = omega arith in
    em ∙ (ap₂ (λ us u. us ++ u ∷ []) eys (ey ∙ ap f ex) ∙ (append_assoc first (map f (take n xs)) (f (get_or xs n x) ∷ []) ∙ ap (λ us. first ++ us) (sym (map-append f (take n xs) (get_or xs n x ∷ [])) ∙ (ap (map f) (sym (take-suc xs n x lt)) ∙ ap (λ m. map f (take m xs)) one))))

-- when all items of a list are pushed, the list is longer by what they become
pub pushed-done : {A B : Type 0} (f : A → B) (first ys whole : List B) (xs : List A) (n : ℕ) → length xs ≤ n → ys ≡ first ++ map f (take n xs) → map f xs ≡ whole → ys ≡ first ++ whole
pushed-done f first ys whole xs n le e w = e ∙ (ap (λ zs. first ++ map f zs) (take_all n xs le) ∙ ap (λ us. first ++ us) w)

-- types put into types

put-forms : (ts : List Ty) (ks : List Kind) {ctx js : List Kind} {us : List Ty} → Good (extend ctx ks) ctx (puts ts Ty.Var) (putting ts) → NormalTypes (extend ctx ks) us js → NormalForms ctx (map (substitute (puts ts Ty.Var)) us) js (map (ty_in (putting ts)) us)
put-forms ts ks g NormalTypes.none = NormalForms.none
put-forms ts ks g (NormalTypes.next m ms) = NormalForms.next (in-normal g m) (put-forms ts ks g ms)

-- the normal forms of types with other types put in have the same kinds
pub types-put : (ts us : List Ty) (ctx ks js : List Kind) → NormalForms ctx ts ks ts → NormalForms (extend ctx ks) us js us → NormalForms ctx (map (substitute (puts ts Ty.Var)) us) js (map (ty_in (putting ts)) us)
types-put ts us ctx ks js a b = put-forms ts ks (good-puts a (good-vars ctx)) (forms-types b)
