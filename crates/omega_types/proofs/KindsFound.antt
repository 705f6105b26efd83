-- The recursion on types finds the kind that kinding gives, and none where there is none.
-- Main results: kind_means, lookup-found, found-lookup.
use Rattle.std.proofs.Common.{◌≡◌, ℕ, zero, suc, List, [], ◌∷◌, Option, Some, None, Bool as Truth, true, false, ◌&&◌, not, if◌then◌else◌, MatchOption, slice_get, subst, refl, sym, ap, ◌∙◌}
use Rattle.std.proofs.lemmas.Bool.{false≢true}
use Rattle.std.proofs.lemmas.Cmp.{tied_itself}
use Rattle.std.specs.Option.{option_map}
use Rattle.std.specs.Ordering.{is_eq, is_lt}
use Rattle.std.specs.declared.cmp.Ordering.{Ordering}
use Rattle.std.specs.declared.cmp.Ordering.TheVariants.{Less, Equal, Greater}
use Rattle.omega_kinds.specs.Kind.{Kind, kind_eq}
use Rattle.omega_kinds.specs.View.{kind_tree}
use Rattle.omega_kinds.specs.LabelOrder.{label_cmp, LabelBefore}
use Rattle.omega_kinds.specs.declared.kind.Kind.{Kind as SharedKind}
use Rattle.omega_kinds.specs.declared.label.Label.{Label}
use Rattle.omega_kinds.proofs.LabelLaws.{label_total, label_exact, transitive}
use Rattle.omega_types.specs.Ty.{Ty, Row}
use Rattle.omega_types.specs.Kinding.{Lookup, HasKind, HasKinds, Fresh, here, there}
use Rattle.omega_types.specs.Kinding.HasKind.{k_var, k_int, k_bool, k_text, k_arrow, k_fields, k_sum, k_all, k_ex, k_mu, k_lam, k_apply}
use Rattle.omega_types.specs.Kinding.HasKinds.{k_end, k_more}
use Rattle.omega_types.specs.Fields.{Pairs, row, Rises}
use Rattle.omega_types.specs.KindIn.{is_star, star_if, applied, is_fresh, are_distinct, kind_in, all_star}

-- ---- facts on the small steps

is_star-yes : (o : Option Kind) → is_star o ≡ true → o ≡ Some Kind.Star
is_star-yes None e = cc
is_star-yes (Some Kind.Star) e = refl
is_star-yes (Some (Kind.Arrow a b)) e = cc

star_if-yes : (b : Truth) (k : Kind) → star_if b ≡ Some k → (b ≡ true) × (Kind.Star ≡ k)
star_if-yes true k e = (refl, cc)
star_if-yes false k e = cc

and-both : (a b : Truth) → (a && b) ≡ true → (a ≡ true) × (b ≡ true)
and-both true b e = (refl, e)
and-both false b e = cc

-- of a type with two things to be so
both-yes : (a b : Truth) (k : Kind) → star_if (a && b) ≡ Some k → (Kind.Star ≡ k) × (a ≡ true) × (b ≡ true)
both-yes a b k e = let p = star_if-yes (a && b) k e in let q = and-both a b p.0 in (p.1, q.0, q.1)

kind_eq-same : (a b : Kind) → kind_eq a b ≡ true → a ≡ b
kind_eq-same Kind.Star Kind.Star e = refl
kind_eq-same Kind.Star (Kind.Arrow c d) e = cc
kind_eq-same (Kind.Arrow a b) Kind.Star e = cc
kind_eq-same (Kind.Arrow a b) (Kind.Arrow c d) e =
    let p = and-both (kind_eq a c) (kind_eq b d) e in
    let l = kind_eq-same a c p.0 in
    let r = kind_eq-same b d p.1 in
    cc

kind_eq-self : (a : Kind) → kind_eq a a ≡ true
kind_eq-self Kind.Star = refl
kind_eq-self (Kind.Arrow a b) = rw (kind_eq-self a, kind_eq-self b) refl

option_map-arrow : (k : Kind) (o : Option Kind) (j : Kind) → option_map (Kind.Arrow k) o ≡ Some j → (i : Kind) × (o ≡ Some i) × (Kind.Arrow k i ≡ j)
option_map-arrow k None j e = cc
option_map-arrow k (Some i) j e = (i, refl, cc)

if-yes : (b : Truth) (x y : Kind) → (if b then Some x else None) ≡ Some y → (b ≡ true) × (x ≡ y)
if-yes true x y e = (refl, cc)
if-yes false x y e = cc

applied-yes : (f a : Option Kind) (j : Kind) → applied f a ≡ Some j → (k : Kind) × (f ≡ Some (Kind.Arrow k j)) × (a ≡ Some k)
applied-yes None a j e = cc
applied-yes (Some Kind.Star) a j e = cc
applied-yes (Some (Kind.Arrow k i)) None j e = cc
applied-yes (Some (Kind.Arrow k i)) (Some m) j e =
    let p = if-yes (kind_eq k m) i j e in
    let q = kind_eq-same k m p.0 in
    (m, cc, refl)

-- ---- variables

-- a variable of a kind in the context is found there with it
pub lookup-found : {ctx : List Kind} {i : ℕ} {k : Kind} → Lookup ctx i k → slice_get ctx i ≡ Some k
lookup-found here = refl
lookup-found (there x) = lookup-found x

-- what is found at an index of the context is the kind of the variable
pub found-lookup : (ctx : List Kind) (i : ℕ) (k : Kind) → slice_get ctx i ≡ Some k → Lookup ctx i k
found-lookup [] i k e = cc
found-lookup (j ∷ ctx) zero k e = let s : j ≡ k = cc in subst (λ m. Lookup (j ∷ ctx) zero m) s here
found-lookup (j ∷ ctx) (suc i) k e = there (found-lookup ctx i k e)

-- ---- labels

eq-not : (o : Ordering) → not (is_eq o) ≡ true → o ≡ Equal → ⊥
eq-not Less e f = cc
eq-not Equal e f = cc
eq-not Greater e f = cc

not-eq : (o : Ordering) → (o ≡ Equal → ⊥) → not (is_eq o) ≡ true
not-eq Less h = refl
not-eq Equal h = absurd (h refl)
not-eq Greater h = refl

-- a label that the test finds fresh is none of the row's
pub fresh-sound : (l : Label) (r : Row) → is_fresh l r ≡ true → Fresh l r
fresh-sound l Row.End e = tt
fresh-sound l (Row.More m t rest) e =
    let p = and-both (not (is_eq (label_cmp l m))) (is_fresh l rest) e in
    (λ s. eq-not (label_cmp l m) p.0 (same l m s), fresh-sound l rest p.1)
  where
    same : (l m : Label) → l ≡ m → label_cmp l m ≡ Equal
    same l m s = ap (label_cmp l) (sym s) ∙ tied_itself label_total l

-- a label that is none of the row's passes the test
pub fresh-complete : (l : Label) (r : Row) → Fresh l r → is_fresh l r ≡ true
fresh-complete l Row.End f = refl
fresh-complete l (Row.More m t rest) f = rw (not-eq (label_cmp l m) (λ s. f.0 (label_exact l m s)), fresh-complete l rest f.1) refl

-- ---- the two directions

mutual
  -- the kind that the recursion finds is the type's
  pub kind_in-sound : (ctx : List Kind) (t : Ty) (k : Kind) → kind_in ctx t ≡ Some k → HasKind ctx t k
  kind_in-sound ctx (Ty.Var i) k e = k_var (found-lookup ctx i k e)
  kind_in-sound ctx Ty.Int k e = let s : Kind.Star ≡ k = cc in subst (HasKind ctx Ty.Int) s k_int
  kind_in-sound ctx Ty.Bool k e = let s : Kind.Star ≡ k = cc in subst (HasKind ctx Ty.Bool) s k_bool
  kind_in-sound ctx Ty.Text k e = let s : Kind.Star ≡ k = cc in subst (HasKind ctx Ty.Text) s k_text
  kind_in-sound ctx (Ty.Arrow a b) k e =
      let p = both-yes (is_star (kind_in ctx a)) (is_star (kind_in ctx b)) k e in
      subst (HasKind ctx (Ty.Arrow a b)) p.0 (k_arrow (kind_in-sound ctx a Kind.Star (is_star-yes (kind_in ctx a) p.1)) (kind_in-sound ctx b Kind.Star (is_star-yes (kind_in ctx b) p.2)))
  kind_in-sound ctx (Ty.Fields r) k e =
      let p = both-yes (are_distinct r) (all_star ctx r) k e in
      subst (HasKind ctx (Ty.Fields r)) p.0 (k_fields (all_star-sound ctx r p.1 p.2))
  kind_in-sound ctx (Ty.Sum r) k e =
      let p = both-yes (are_distinct r) (all_star ctx r) k e in
      subst (HasKind ctx (Ty.Sum r)) p.0 (k_sum (all_star-sound ctx r p.1 p.2))
  kind_in-sound ctx (Ty.All j b) k e =
      let p = star_if-yes (is_star (kind_in (j ∷ ctx) b)) k e in
      subst (HasKind ctx (Ty.All j b)) p.1 (k_all (kind_in-sound (j ∷ ctx) b Kind.Star (is_star-yes (kind_in (j ∷ ctx) b) p.0)))
  kind_in-sound ctx (Ty.Ex j b) k e =
      let p = star_if-yes (is_star (kind_in (j ∷ ctx) b)) k e in
      subst (HasKind ctx (Ty.Ex j b)) p.1 (k_ex (kind_in-sound (j ∷ ctx) b Kind.Star (is_star-yes (kind_in (j ∷ ctx) b) p.0)))
  kind_in-sound ctx (Ty.Mu b) k e =
      let p = star_if-yes (is_star (kind_in (Kind.Star ∷ ctx) b)) k e in
      subst (HasKind ctx (Ty.Mu b)) p.1 (k_mu (kind_in-sound (Kind.Star ∷ ctx) b Kind.Star (is_star-yes (kind_in (Kind.Star ∷ ctx) b) p.0)))
  kind_in-sound ctx (Ty.Lam j b) k e =
      let p = option_map-arrow j (kind_in (j ∷ ctx) b) k e in
      subst (HasKind ctx (Ty.Lam j b)) p.2 (k_lam (kind_in-sound (j ∷ ctx) b p.0 p.1))
  kind_in-sound ctx (Ty.Apply f a) k e =
      let p = applied-yes (kind_in ctx f) (kind_in ctx a) k e in
      k_apply (kind_in-sound ctx f (Kind.Arrow p.0 k) p.1) (kind_in-sound ctx a p.0 p.2)

  pub all_star-sound : (ctx : List Kind) (r : Row) → are_distinct r ≡ true → all_star ctx r ≡ true → HasKinds ctx r
  all_star-sound ctx Row.End d e = k_end
  all_star-sound ctx (Row.More l t r) d e =
      let p = and-both (is_star (kind_in ctx t)) (all_star ctx r) e in
      let q = and-both (is_fresh l r) (are_distinct r) d in
      k_more (fresh-sound l r q.0) (kind_in-sound ctx t Kind.Star (is_star-yes (kind_in ctx t) p.0)) (all_star-sound ctx r q.1 p.1)

mutual
  -- the recursion finds the kind of a type
  pub kind_in-complete : {ctx : List Kind} {t : Ty} {k : Kind} → HasKind ctx t k → kind_in ctx t ≡ Some k
  kind_in-complete (k_var x) = lookup-found x
  kind_in-complete k_int = refl
  kind_in-complete k_bool = refl
  kind_in-complete k_text = refl
  kind_in-complete (k_arrow a b) = rw (kind_in-complete a, kind_in-complete b) refl
  kind_in-complete (k_fields p) = rw (distinct-complete p, all_star-complete p) refl
  kind_in-complete (k_sum p) = rw (distinct-complete p, all_star-complete p) refl
  kind_in-complete (k_all b) = rw (kind_in-complete b) refl
  kind_in-complete (k_ex b) = rw (kind_in-complete b) refl
  kind_in-complete (k_mu b) = rw (kind_in-complete b) refl
  kind_in-complete (k_lam b) = rw (kind_in-complete b) refl
  kind_in-complete (k_apply {k = k} f a) = rw (kind_in-complete f, kind_in-complete a, kind_eq-self k) refl

  pub all_star-complete : {ctx : List Kind} {r : Row} → HasKinds ctx r → all_star ctx r ≡ true
  all_star-complete k_end = refl
  all_star-complete (k_more f t r) = rw (kind_in-complete t, all_star-complete r) refl

  distinct-complete : {ctx : List Kind} {r : Row} → HasKinds ctx r → are_distinct r ≡ true
  distinct-complete k_end = refl
  distinct-complete (k_more {l = l} {rest = rest} f t r) = rw (fresh-complete l rest f, distinct-complete r) refl

-- ---- for the code

-- the recursion finds the kind of a type, and nothing for a type that has none
pub kind_means : (ctx : List Kind) (t : Ty) (o : Option SharedKind) → option_map kind_tree o ≡ kind_in ctx t
    → MatchOption o ((k : Kind) → HasKind ctx t k → ⊥) (λ k. HasKind ctx t (kind_tree k))
kind_means ctx t None e = λ k h. let c = kind_in-complete h in cc
kind_means ctx t (Some k) e = kind_in-sound ctx t (kind_tree k) (sym e)

-- labels that rise are distinct
pub before-not : (l m : Label) → LabelBefore l m → not (is_eq (label_cmp l m)) ≡ true
before-not l m h = not-eq (label_cmp l m) (λ s. absurd (false≢true (sym (ap is_lt s) ∙ h)))

rises-fresh : (l : Label) (x : Label × Ty) (xs : Pairs) → LabelBefore l x.0 → Rises (x ∷ xs) → is_fresh l (row (x ∷ xs)) ≡ true
rises-fresh l x [] h r = rw (before-not l x.0 h) refl
rises-fresh l x (y ∷ xs) h r = rw (before-not l x.0 h, rises-fresh l y xs (transitive l x.0 y.0 h r.0) r.1) refl

-- fields whose labels rise have distinct labels
pub rises-distinct : (xs : Pairs) → Rises xs → are_distinct (row xs) ≡ true
rises-distinct [] r = refl
rises-distinct (x ∷ []) r = refl
rises-distinct (x ∷ y ∷ xs) r = rw (rises-fresh x.0 y xs r.0 r.1, rises-distinct (y ∷ xs) r.1) refl
