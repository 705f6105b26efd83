-- What the loops over kinds have built so far.
-- Main results: scope-next.
use Rattle.std.specs.Prelude.{ℕ, zero, suc, ◌+◌, ◌-◌, ◌<◌, ◌≤◌, List, [], ◌∷◌, ◌++◌, ◌≡◌, length, map, take, drop, reverse}
use Rattle.std.proofs.Common.{get_or, arith, append_assoc}
use Rattle.std.proofs.Math.Seq.{drop-cons}
use Rattle.std.proofs.lemmas.List.{append-nil, length-map, map-append, reverse-append}
use Rattle.std.proofs.Math.Path.{refl, sym, ap, ap₂, ◌∙◌}
use Rattle.omega_kinds.specs.Kind.{Kind}
use Rattle.omega_kinds.specs.View.{kind_tree}
use Rattle.omega_kinds.specs.declared.kind.Kind.{Kind as SharedKind}
use Rattle.omega_types.specs.Ty.{Ty}
use Rattle.omega_types.specs.Index.{shift}
use Rattle.omega_types.specs.Inner.Scope.{scope_of}
use Rattle.sig_laws.proofs.Algebra.BinderLaws.{lam_over-append}
use Rattle.applicative_functors.specs.Inner.LiftedVars.{lifted_var, lifted_vars}
use Rattle.omega_types.specs.Binders.{extend, applied, arrow_over}
use Rattle.omega_types.proofs.BinderLaws.{spread, spread-applied}

less : (n : ℕ) → suc n - 1 ≡ n
less n = omega arith

pub arrow_last : (kinds : List SharedKind) (k : SharedKind) (target : Kind) → arrow_over (map kind_tree (kinds ++ k ∷ [])) target ≡ arrow_over (map kind_tree kinds) (Kind.Arrow (kind_tree k) target)
arrow_last [] k target = refl
arrow_last (j ∷ kinds) k target = ap (Kind.Arrow (kind_tree j)) (arrow_last kinds k target)

pub ruleset over_steps = (arrow_last, lam_over-append, map-append)

-- the innermost kind of a scope

pub spread-all : (ks : List Kind) (count left : ℕ) (t : Ty) → count ≡ length ks → left ≡ 0 → t ≡ spread count left (count - left) → t ≡ applied ks (Ty.Var zero)
spread-all ks count left t ec el et =
    et ∙ (ap (λ n. spread count n (count - n)) el ∙ (ap (λ n. spread count zero n) (omega arith) ∙ (ap (λ n. spread n zero n) (ec ∙ omega arith) ∙ sym (spread-applied ks zero zero))))

pub spread-next : (count left : ℕ) (t arg grown : Ty) → 0 < left → left ≤ count → t ≡ spread count left (count - left) → arg ≡ Ty.Var (left - 1) → grown ≡ Ty.Apply t arg → grown ≡ spread count (left - 1) (count - (left - 1))
spread-next count zero t arg grown lt le et ea eg = absurd (omega (arith, lt))
spread-next count (suc n) t arg grown lt le et ea eg =
    eg ∙ (ap₂ Ty.Apply et ea ∙ (ap (λ m. Ty.Apply (spread count (suc n) (count - suc n)) (Ty.Var m)) (less n) ∙ (ap (spread count n) steps ∙ ap (λ m. spread count m (count - m)) (sym (less n)))))
  where
    steps : suc (count - suc n) ≡ count - n
    steps = omega (arith, le)

-- one kind more in a scope

next-index : (i : ℕ) → i + 1 ≡ suc i
next-index i = omega arith

scope-push : (scope : List SharedKind) (k : SharedKind) → scope_of (scope ++ (k ∷ [])) ≡ kind_tree k ∷ scope_of scope
scope-push scope k = ap reverse (map-append kind_tree scope (k ∷ [])) ∙ reverse-append (map kind_tree scope) (kind_tree k ∷ [])

extend-take : (ctx : List Kind) (items : List SharedKind) (i : ℕ) (d : SharedKind) → i < length items → extend ctx (map kind_tree (take (suc i) items)) ≡ kind_tree (get_or items i d) ∷ extend ctx (map kind_tree (take i items))
extend-take ctx [] i d lt = absurd (omega (arith, lt))
extend-take ctx (k ∷ items) zero d lt = refl
extend-take ctx (k ∷ items) (suc i) d lt = extend-take (kind_tree k ∷ ctx) items i d (omega arith)

-- the scope with one more kind is the context under one more binder
pub scope-next : (ctx : List Kind) (items scope grown : List SharedKind) (i : ℕ) (kind shared : SharedKind) → i < length items → kind ≡ get_or items i kind → kind_tree shared ≡ kind_tree kind → grown ≡ scope ++ (shared ∷ []) → scope_of scope ≡ extend ctx (map kind_tree (take i items)) → scope_of grown ≡ extend ctx (map kind_tree (take (i + 1) items))
scope-next ctx items scope grown i kind shared lt ek es eg e =
    ap scope_of eg ∙ (scope-push scope shared ∙ (ap₂ ◌∷◌ (es ∙ ap kind_tree ek) e ∙ (sym (extend-take ctx items i kind lt) ∙ ap (λ n. extend ctx (map kind_tree (take n items))) (sym (next-index i)))))

-- one lifted variable more

vars-at : (ks : List Kind) (items : List SharedKind) (i : ℕ) (d : SharedKind) → i < length items → lifted_vars ks (map kind_tree (drop i items)) ≡ shift (length (drop (i + 1) items)) (length ks) (lifted_var ks (kind_tree (get_or items i d))) ∷ lifted_vars ks (map kind_tree (drop (i + 1) items))
vars-at ks items i d lt =
    ap (λ l. lifted_vars ks (map kind_tree l)) (drop-cons items i d lt ∙ ap (λ n. get_or items i d ∷ drop n items) (sym (next-index i)))
    ∙ ap (λ n. shift n (length ks) (lifted_var ks (kind_tree (get_or items i d))) ∷ lifted_vars ks (map kind_tree (drop (i + 1) items))) (length-map (drop (i + 1) items) kind_tree)

pub vars-next : (ks : List Kind) (items : List SharedKind) (i inner outer : ℕ) (kind : SharedKind) (types grown whole : List Ty) (t moved : Ty) → i < length items → kind ≡ get_or items i kind → outer ≡ length ks → t ≡ lifted_var ks (kind_tree kind) → moved ≡ shift inner outer t → grown ≡ types ++ (moved ∷ []) → inner ≡ length (drop (i + 1) items)
    → types ++ lifted_vars ks (map kind_tree (drop i items)) ≡ whole → grown ++ lifted_vars ks (map kind_tree (drop (i + 1) items)) ≡ whole
vars-next ks items i inner outer kind types grown whole t moved lt ek eo et em eg en e =
    let m : moved ≡ shift (length (drop (i + 1) items)) (length ks) (lifted_var ks (kind_tree (get_or items i kind))) =
    em ∙ (ap₂ (λ n k. shift n k t) en eo ∙ ap (shift (length (drop (i + 1) items)) (length ks)) (et ∙ ap (λ k. lifted_var ks (kind_tree k)) ek)) in
    ap (λ l. l ++ lifted_vars ks (map kind_tree (drop (i + 1) items))) (eg ∙ ap (λ u. types ++ (u ∷ [])) m)
    ∙ (append_assoc types _ (lifted_vars ks (map kind_tree (drop (i + 1) items))) ∙ (ap (λ l. types ++ l) (sym (vars-at ks items i kind lt)) ∙ e))

drop-length : {A : Type 0} (items : List A) (i : ℕ) → i < length items → length (drop i items) ≡ suc (length (drop (suc i) items))
drop-length [] i lt = absurd (omega (arith, lt))
drop-length (x ∷ items) zero lt = refl
drop-length (x ∷ items) (suc i) lt = drop-length items i (omega arith)

drop-next : {A : Type 0} (items : List A) (i : ℕ) → i < length items → length (drop i items) ≡ suc (length (drop (i + 1) items))
drop-next items i lt = drop-length items i lt ∙ ap (λ n. suc (length (drop n items))) (sym (next-index i))

pub inner-next : (items : List SharedKind) (i inner : ℕ) → i < length items → inner ≡ length (drop i items) → inner - 1 ≡ length (drop (i + 1) items)
inner-next items i inner lt e = let d = drop-next items i lt in omega (arith, d, e)

pub inner-some : (items : List SharedKind) (i inner : ℕ) → i < length items → inner ≡ length (drop i items) → 1 ≤ inner
inner-some items i inner lt e = let d = drop-next items i lt in omega (arith, d, e)

pub vars-end : (ks : List Kind) (items : List SharedKind) (i : ℕ) (types whole : List Ty) → length items ≤ i → types ++ lifted_vars ks (map kind_tree (drop i items)) ≡ whole → types ≡ whole
vars-end ks items i types whole le e = sym (append-nil types) ∙ (ap (λ l. types ++ lifted_vars ks (map kind_tree l)) (sym (all items i le)) ∙ e)
  where
    all : (items : List SharedKind) (i : ℕ) → length items ≤ i → drop i items ≡ []
    all [] zero le = refl
    all [] (suc i) le = refl
    all (x ∷ items) zero le = absurd (omega (arith, le))
    all (x ∷ items) (suc i) le = all items i (omega arith)

pub ruleset vars_steps = (vars-next, vars-end, inner-next, inner-some)

pub ruleset spread_steps = (spread-next, spread-all)
