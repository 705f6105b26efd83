-- What shifting and substitution do at each form of term, with indexes counted as the code counts them.
-- Main results: ren_term-same, put_term-same, put_type-same.
use Rattle.std.proofs.Common.{◌≡◌, ℕ, zero, suc, ◌+◌, ◌-◌, ◌<◌, ◌≤◌, [], ◌∷◌, length, get_or, take, drop, map, ◌++◌, refl, sym, ap, ap₂, ◌∙◌, arith}
use Rattle.std.proofs.lemmas.List.{take_all}
use Rattle.std.proofs.Math.Seq.{take-suc}
use Rattle.std.proofs.Math.Path.{fun_ext}
use Rattle.omega_kinds.specs.declared.label.Label.{Label}
use Rattle.omega_types.specs.Ty.{Ty, lift}
use Rattle.omega_types.specs.Substitution.{under}
use Rattle.omega_types.specs.Index.{Slot, taken, kept, raised, slot, bump, shift, put}
use Rattle.omega_types.specs.Fields.{Rises, MayFollow}
use Rattle.omega_types.proofs.Single.{bump-below, bump-above, put-below, put-under, shift-suc}
use Rattle.omega_terms.specs.Term.{Term, TermRow}
use Rattle.omega_terms.specs.Fields.{TermPairs, term_row}
use Rattle.omega_terms.specs.Inner.Size.{pairs_size}
use Rattle.omega_terms.specs.Inner.Bound.{type_bound, term_bound}
use Rattle.omega_terms.specs.TermSubst.{ren_term, ren_fields, sub_term, sub_fields, under_type, up_term, same_index, fill_term, put_at, put_term, put_type, shift_term}
use Rattle.omega_terms.proofs.Unchanged.{ren_term-unchanged, sub_term-unchanged}

next : (n : ℕ) → suc n ≡ n + 1
next n = omega arith

-- ---- shifting, from an index of each sort

-- a shift leaves a term whose free indexes are all below its places
pub ren_term-same : (a b i j : ℕ) (e : Term) → type_bound e ≤ i → term_bound e ≤ j → ren_term (bump a i) (bump b j) e ≡ e
ren_term-same a b i j e p o = ren_term-unchanged i j (bump a i) (bump b j) e (bump-below a i) (bump-below b j) p o

pub bump-var_below : (by from i : ℕ) → i < from → Term.Var (bump by from i) ≡ Term.Var i
bump-var_below by from i h = ap Term.Var (bump-below by from i h)

pub bump-var_above : (by from i : ℕ) → from ≤ i → Term.Var (bump by from i) ≡ Term.Var (i + by)
bump-var_above by from i h = ap Term.Var (let e = bump-above by from i h in omega arith)

-- a shift below one term binder
pub ren-under_term : (a b i j : ℕ) (e : Term) → ren_term (bump a i) (lift (bump b j)) e ≡ ren_term (bump a i) (bump b (j + 1)) e
ren-under_term a b i j e = ap (λ n. ren_term (bump a i) (bump b n) e) (next j)

-- the same for a row of terms, as the branches of a case
pub ren-row_under_term : (a b i j : ℕ) (row : TermRow) → ren_fields (bump a i) (lift (bump b j)) row ≡ ren_fields (bump a i) (bump b (j + 1)) row
ren-row_under_term a b i j row = ap (λ n. ren_fields (bump a i) (bump b n) row) (next j)

-- a shift below one type binder
pub ren-under_type : (a b i j : ℕ) (e : Term) → ren_term (lift (bump a i)) (bump b j) e ≡ ren_term (bump a (i + 1)) (bump b j) e
ren-under_type a b i j e = ap (λ n. ren_term (bump a n) (bump b j) e) (next i)

-- a shift below a type binder and a term binder, as in the body of an open
pub ren-under_both : (a b i j : ℕ) (e : Term) → ren_term (lift (bump a i)) (lift (bump b j)) e ≡ ren_term (bump a (i + 1)) (bump b (j + 1)) e
ren-under_both a b i j e = ap₂ (λ m n. ren_term (bump a m) (bump b n) e) (next i) (next j)

-- a shift below two term binders, as in the body of a recursive function
pub ren-under_two : (a b i j : ℕ) (e : Term) → ren_term (bump a i) (lift (lift (bump b j))) e ≡ ren_term (bump a i) (bump b (j + 1 + 1)) e
ren-under_two a b i j e = ap (λ n. ren_term (bump a i) (bump b n) e) (ap suc (next j) ∙ next (j + 1))

-- ---- by one

bump-none : bump 0 0 ≡ same_index
bump-none = fun_ext (λ n. omega arith)

bump-one : bump 1 0 ≡ suc
bump-one = fun_ext (λ n. omega arith)

-- a shift by one term variable is weakening
pub shift-one_term : (e : Term) → shift_term e 0 1 ≡ ren_term same_index suc e
shift-one_term e = ap₂ (λ q r. ren_term q r e) bump-none bump-one

pub shift-one_type : (e : Term) → shift_term e 1 0 ≡ ren_term suc same_index e
shift-one_type e = ap₂ (λ q r. ren_term q r e) bump-one bump-none

-- ---- a term put in for one index

slot-below : (i j : ℕ) → j < i → slot i j ≡ kept j
slot-below zero j h = absurd (omega (arith, h))
slot-below (suc i) zero h = refl
slot-below (suc i) (suc j) h = ap raised (slot-below i j (omega arith))

slot-same : (i : ℕ) → slot i i ≡ taken
slot-same zero = refl
slot-same (suc i) = ap raised (slot-same i)

slot-above : (i j : ℕ) → i < j → slot i j ≡ kept (j - 1)
slot-above i zero h = absurd (omega (arith, h))
slot-above zero (suc j) h = ap kept (less j)
  where
    less : (n : ℕ) → n ≡ suc n - 1
    less n = omega arith
slot-above (suc i) (suc zero) h = absurd (omega (arith, h))
slot-above (suc i) (suc (suc j)) h = ap raised (slot-above i (suc j) (omega arith)) ∙ ap kept (less j)
  where
    less : (n : ℕ) → suc (suc n - 1) ≡ suc (suc n) - 1
    less n = omega arith

-- a term put in for a variable stands at its index
pub put-var_same : (i j : ℕ) (a : Term) → j ≡ i → fill_term a (slot i j) ≡ a
put-var_same i j a e = ap (λ n. fill_term a (slot i n)) e ∙ ap (fill_term a) (slot-same i)

-- a term put in for a variable leaves each smaller index
pub put-var_below : (i j : ℕ) (a : Term) → j < i → fill_term a (slot i j) ≡ Term.Var j
put-var_below i j a h = ap (fill_term a) (slot-below i j h)

-- a term put in for a variable lowers each greater index by one
pub put-var_above : (i j : ℕ) (a : Term) → i < j → fill_term a (slot i j) ≡ Term.Var (j - 1)
put-var_above i j a h = ap (fill_term a) (slot-above i j h)

-- a term put in for a variable leaves a term whose free term indexes are all below it
pub put_term-same : (e : Term) (i : ℕ) (a : Term) → term_bound e ≤ i → put_term e i a ≡ e
put_term-same e i a h =
    sub_term-unchanged (type_bound e) i Ty.Var (put_at i a) e (λ n p. refl) (λ j p. ap (fill_term a) (slot-below i j p)) (omega arith) h

up-raised : (a : Term) (s : Slot) → ren_term same_index suc (fill_term a s) ≡ fill_term (ren_term same_index suc a) (raised s)
up-raised a taken = refl
up-raised a (kept n) = refl

up-put_at : (i : ℕ) (a : Term) → up_term (put_at i a) ≡ put_at (i + 1) (shift_term a 0 1)
up-put_at i a = fun_ext go ∙ ap₂ put_at (next i) (sym (shift-one_term a))
  where
    go : (j : ℕ) → up_term (put_at i a) j ≡ put_at (suc i) (ren_term same_index suc a) j
    go zero = refl
    go (suc j) = up-raised a (slot i j)

under-filled : (a : Term) (s : Slot) → ren_term suc same_index (fill_term a s) ≡ fill_term (ren_term suc same_index a) s
under-filled a taken = refl
under-filled a (kept n) = refl

under_type-put_at : (i : ℕ) (a : Term) → under_type (put_at i a) ≡ put_at i (shift_term a 1 0)
under_type-put_at i a = fun_ext (λ j. under-filled a (slot i j)) ∙ ap (put_at i) (sym (shift-one_type a))

under-vars : under Ty.Var ≡ Ty.Var
under-vars = fun_ext go
  where
    go : (i : ℕ) → under Ty.Var i ≡ Ty.Var i
    go zero = refl
    go (suc i) = refl

-- a term put in for a variable, below one term binder
pub put_term-under_term : (i : ℕ) (a e : Term) → sub_term Ty.Var (up_term (put_at i a)) e ≡ put_term e (i + 1) (shift_term a 0 1)
put_term-under_term i a e = ap (λ w. sub_term Ty.Var w e) (up-put_at i a)

-- the same for a row of terms, as the branches of a case
pub put_term-row_under_term : (i : ℕ) (a : Term) (row : TermRow) → sub_fields Ty.Var (up_term (put_at i a)) row ≡ sub_fields Ty.Var (put_at (i + 1) (shift_term a 0 1)) row
put_term-row_under_term i a row = ap (λ w. sub_fields Ty.Var w row) (up-put_at i a)

-- a term put in for a variable, below one type binder
pub put_term-under_type : (i : ℕ) (a e : Term) → sub_term (under Ty.Var) (under_type (put_at i a)) e ≡ put_term e i (shift_term a 1 0)
put_term-under_type i a e = ap₂ (λ s w. sub_term s w e) under-vars (under_type-put_at i a)

-- a term put in for a variable, below a type binder and a term binder
pub put_term-under_both : (i : ℕ) (a e : Term) → sub_term (under Ty.Var) (up_term (under_type (put_at i a))) e ≡ sub_term Ty.Var (up_term (put_at i (shift_term a 1 0))) e
put_term-under_both i a e = ap₂ (λ s w. sub_term s (up_term w) e) under-vars (under_type-put_at i a)

-- a term put in for a variable, below two term binders
pub put_term-under_two : (i : ℕ) (a e : Term) → sub_term Ty.Var (up_term (up_term (put_at i a))) e ≡ sub_term Ty.Var (up_term (put_at (i + 1) (shift_term a 0 1))) e
put_term-under_two i a e = ap (λ w. sub_term Ty.Var (up_term w) e) (up-put_at i a)

-- ---- a type put in for one index

-- a type put in for a variable leaves a term whose free type indexes are all below it
pub put_type-same : (e : Term) (i : ℕ) (a : Ty) → type_bound e ≤ i → put_type e i a ≡ e
put_type-same e i a h =
    sub_term-unchanged i (term_bound e) (put i a) Term.Var e (λ j p. put-below i a j p) (λ n p. refl) h (omega arith)

up-vars : up_term Term.Var ≡ Term.Var
up-vars = fun_ext go
  where
    go : (i : ℕ) → up_term Term.Var i ≡ Term.Var i
    go zero = refl
    go (suc i) = refl

under-put : (i : ℕ) (a : Ty) → under (put i a) ≡ put (i + 1) (shift 1 0 a)
under-put i a = put-under i a ∙ ap₂ put (next i) (sym (shift-suc a))

-- a type put in for a variable, below one term binder
pub put_type-under_term : (i : ℕ) (a : Ty) (e : Term) → sub_term (put i a) (up_term Term.Var) e ≡ put_type e i a
put_type-under_term i a e = ap (λ w. sub_term (put i a) w e) up-vars

-- the same for a row of terms, as the branches of a case
pub put_type-row_under_term : (i : ℕ) (a : Ty) (row : TermRow) → sub_fields (put i a) (up_term Term.Var) row ≡ sub_fields (put i a) Term.Var row
put_type-row_under_term i a row = ap (λ w. sub_fields (put i a) w row) up-vars

-- a type put in for a variable, below one type binder
pub put_type-under_type : (i : ℕ) (a : Ty) (e : Term) → sub_term (under (put i a)) (under_type Term.Var) e ≡ put_type e (i + 1) (shift 1 0 a)
put_type-under_type i a e = ap (λ s. sub_term s Term.Var e) (under-put i a)

-- a type put in for a variable, below a type binder and a term binder
pub put_type-under_both : (i : ℕ) (a : Ty) (e : Term) → sub_term (under (put i a)) (up_term (under_type Term.Var)) e ≡ put_type e (i + 1) (shift 1 0 a)
put_type-under_both i a e = ap₂ (λ s w. sub_term s w e) (under-put i a) up-vars

-- a type put in for a variable, below two term binders
pub put_type-under_two : (i : ℕ) (a : Ty) (e : Term) → sub_term (put i a) (up_term (up_term Term.Var)) e ≡ put_type e i a
put_type-under_two i a e = ap (λ w. sub_term (put i a) w e) (ap up_term up-vars ∙ up-vars)

-- ---- the parts of a row

-- the pairs with each part changed
abbrev pub map_terms : (Term → Term) → TermPairs → TermPairs
map_terms f = map (λ x. (x.0, f x.1))

-- the label at a place may follow the fields before it, whatever their parts have become
pub may_follow-at : (f : Term → Term) (xs : TermPairs) (i : ℕ) (d : Label × Term) → i < length xs → Rises xs → MayFollow (map_terms f (take i xs)) (get_or xs i d).0
may_follow-at f [] i d p r = absurd (omega arith)
may_follow-at f (x ∷ xs) zero d p r = tt
may_follow-at f (x ∷ []) (suc i) d p r = absurd (omega arith)
may_follow-at f (x ∷ y ∷ xs) (suc zero) d p r = r.0
may_follow-at f (x ∷ y ∷ xs) (suc (suc i)) d p r = may_follow-at f (y ∷ xs) (suc i) d (omega arith) r.1

map_terms-append : (f : Term → Term) (xs ys : TermPairs) → map_terms f (xs ++ ys) ≡ map_terms f xs ++ map_terms f ys
map_terms-append f [] ys = refl
map_terms-append f (x ∷ xs) ys = ap (λ zs. (x.0, f x.1) ∷ zs) (map_terms-append f xs ys)

-- with one more part of a list changed, the changed parts are one more
pub row-more : (f : Term → Term) (n : ℕ) (xs ws more : TermPairs) (l : Label) (e : Term) (x : Label × Term) → ws ≡ map_terms f (take n xs) → n < length xs → x ≡ get_or xs n x → l ≡ x.0 → e ≡ f x.1 → more ≡ ws ++ (l, e) ∷ [] → more ≡ map_terms f (take (n + 1) xs)
row-more f n xs ws more l e x p q is j k w =
    w ∙ (ap₂ (λ zs z. zs ++ z ∷ []) p (ap₂ (λ a b. (a, b)) (j ∙ ap (λ y. y.0) is) (k ∙ ap (λ y. f y.1) is)) ∙ (sym (map_terms-append f (take n xs) (get_or xs n x ∷ [])) ∙ (ap (map_terms f) (sym (take-suc xs n x q)) ∙ ap (λ m. map_terms f (take m xs)) (next n))))

-- what is left of the fields is no larger than they are
pub left-smaller : (n : ℕ) (xs : TermPairs) → pairs_size (drop n xs) ≤ pairs_size xs
left-smaller zero xs = omega arith
left-smaller (suc n) [] = omega arith
left-smaller (suc n) (x ∷ xs) = omega (arith, left-smaller n xs)

-- the row is as wanted once each part has been changed
pub row-done : (f : Term → Term) (g : TermRow → TermRow) (n : ℕ) (xs ys ws : TermPairs) → ((zs : TermPairs) → term_row (map_terms f zs) ≡ g (term_row zs)) → ws ≡ map_terms f (take n xs) → length xs ≤ n → xs ≡ ys → term_row ws ≡ g (term_row ys)
row-done f g n xs ys ws each p q e = ap term_row p ∙ (ap (λ zs. term_row (map_terms f zs)) (take_all n xs q) ∙ (each xs ∙ ap (λ zs. g (term_row zs)) e))

pub ruleset shift_vars = (bump-var_below, bump-var_above)
