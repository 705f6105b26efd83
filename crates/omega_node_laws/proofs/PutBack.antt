-- A type with a type of kind * put in is normal only if it was normal before, and so the target of a package need not be
-- tested where what is packed has its body with the hidden type put in.
-- Main results: normal-type, target-normal.
use Rattle.std.proofs.Common.{◌≡◌, ℕ, zero, suc, List, ◌∷◌, Option, Some, None, Bool as Truth, true, false, if◌then◌else◌, refl, sym, ap, ◌∙◌, subst}
use Rattle.std.proofs.lemmas.Option.{same_Some}
use Rattle.omega_kinds.specs.Kind.{Kind}
use Rattle.omega_kinds.specs.declared.label.Label.{Label}
use Rattle.omega_types.specs.Ty.{Ty, Row}
use Rattle.omega_types.specs.Index.{Slot, taken, kept, raised, slot, Inserts, i_here, i_there}
use Rattle.omega_types.specs.Kinding.{HasKind, Lookup, here, there, Fresh}
use Rattle.omega_types.specs.Normality.{Normal, Normals, Neutral}
use Rattle.omega_types.specs.Normality.Normal.{n_lam, n_int, n_bool, n_text, n_arrow, n_fields, n_sum, n_all, n_ex, n_mu, n_neutral}
use Rattle.omega_types.specs.Normality.Normals.{n_end, n_more}
use Rattle.omega_types.specs.Normality.Neutral.{n_var, n_apply}
use Rattle.omega_types.specs.Normaliser.{tree, fill_part, hsubst, put_in_row, normal}
use Rattle.omega_types.proofs.Hereditary.{normal-gives}
use Rattle.omega_types.proofs.KindsFound.{kind_in-complete}
use Rattle.omega_types.proofs.LawProofs.{normal_of_normal}
use Rattle.omega_types.proofs.Preservation.{maps-suc, normal-kind, normal-rename, neutral-kind}
use Rattle.type_store.specs.Inner.ShapeLaws.{no}
use Rattle.type_store.proofs.FillSteps.{put-apply}
use Rattle.omega_node_laws.specs.Found.{normal_at, is_put, is_target, target_type}
use Rattle.omega_node_laws.proofs.Inverted.{normal_at-yes, normal_at-of}
use Rattle.omega_node_laws.proofs.Trees.{same_ty-yes}

-- ---- normal types

-- a type that is its own normal form is normal
pub normal-type : {ctx : List Kind} {t : Ty} → HasKind ctx t Kind.Star → normal ctx t ≡ t → Normal ctx t Kind.Star
normal-type {ctx} h e = subst (λ u. Normal ctx u Kind.Star) e (normal-gives h).0

-- a normal type is found as it is
stands : (ctx : List Kind) (t : Ty) → Normal ctx t Kind.Star → Some t ≡ normal_at ctx t Kind.Star
stands ctx t n = sym (normal_at-of (normal-kind n) ∙ ap Some (normal_of_normal ctx t Kind.Star n))

-- a type has one kind
one-kind : {ctx : List Kind} {t : Ty} {j k : Kind} → HasKind ctx t j → HasKind ctx t k → j ≡ k
one-kind g h = same_Some _ _ (sym (kind_in-complete g) ∙ kind_in-complete h)

-- ---- variables

-- what a context with one more kind * has at an index, by what becomes of the index
data Back (ctx more : List Kind) (j : ℕ) : Slot → Type 0 where
  star : Lookup more j Kind.Star → Back ctx more j taken
  moved : {n : ℕ} → ((k : Kind) → Lookup ctx n k → Lookup more j k) → Back ctx more j (kept n)

moved-there : {ctx more : List Kind} {l : Kind} {j n : ℕ} → ((k : Kind) → Lookup ctx n k → Lookup more j k) → (k : Kind) → Lookup (l ∷ ctx) (suc n) k
    → Lookup (l ∷ more) (suc j) k
moved-there f k (there h) = there (f k h)

back-raised : {ctx more : List Kind} {l : Kind} {j : ℕ} {s : Slot} → Back ctx more j s → Back (l ∷ ctx) (l ∷ more) (suc j) (raised s)
back-raised (Back.star h) = Back.star (there h)
back-raised (Back.moved f) = Back.moved (moved-there f)

first-there : {ctx more : List Kind} {l k : Kind} → Lookup (l ∷ ctx) zero k → Lookup (l ∷ more) zero k
first-there here = here

back-at : {ctx more : List Kind} {i : ℕ} (j : ℕ) → Inserts Kind.Star i ctx more → Back ctx more j (slot i j)
back-at zero i_here = Back.star here
back-at (suc j) i_here = Back.moved (λ k h. there h)
back-at zero (i_there h) = Back.moved (λ k m. first-there m)
back-at (suc j) (i_there h) = back-raised (back-at j h)

var-neutral : {ctx more : List Kind} {a : Ty} {k : Kind} {j : ℕ} {s : Slot} → Back ctx more j s → Normal ctx a Kind.Star
    → Neutral ctx (tree (fill_part Kind.Star tt a s)) k → Neutral more (Ty.Var j) k
var-neutral {more = more} {j = j} (Back.star h) p n = subst (Neutral more (Ty.Var j)) (one-kind (normal-kind p) (neutral-kind n)) (n_var h)
var-neutral {k = k} (Back.moved f) p (n_var h) = n_var (f k h)

var-normal : {ctx more : List Kind} {a : Ty} {k : Kind} {j : ℕ} {s : Slot} → Back ctx more j s → Normal ctx a Kind.Star
    → Normal ctx (tree (fill_part Kind.Star tt a s)) k → Normal more (Ty.Var j) k
var-normal {more = more} {j = j} (Back.star h) p n = subst (Normal more (Ty.Var j)) (one-kind (normal-kind p) (normal-kind n)) (n_neutral (n_var h))
var-normal (Back.moved f) p (n_neutral (n_var h)) = n_neutral (n_var (f Kind.Star h))

-- ---- types

-- a label that is none of the row's after a type was put in was none before
fresh-back : (i : ℕ) (a : Ty) (l : Label) (r : Row) → Fresh l (put_in_row Kind.Star tt i a r) → Fresh l r
fresh-back i a l Row.End f = tt
fresh-back i a l (Row.More m t r) f = (f.0, fresh-back i a l r f.1)

apply-parts : {ctx : List Kind} {f t : Ty} {k : Kind} → Neutral ctx (Ty.Apply f t) k → (j : Kind) × Neutral ctx f (Kind.Arrow j k) × Normal ctx t j
apply-parts (n_apply {k = j} f t) = (j, f, t)

neutral-part : {ctx : List Kind} {f t : Ty} {k : Kind} → Normal ctx (Ty.Apply f t) k → (k ≡ Kind.Star) × Neutral ctx (Ty.Apply f t) Kind.Star
neutral-part (n_neutral n) = (refl, n)

mutual
  -- a type with a type of kind * put in is normal only if it was normal
  normal-back : {ctx more : List Kind} {i : ℕ} {a : Ty} {k : Kind} (t : Ty) → Inserts Kind.Star i ctx more → Normal ctx a Kind.Star
      → Normal ctx (hsubst Kind.Star i a t) k → Normal more t k
  normal-back (Ty.Var j) h p n = var-normal (back-at j h) p n
  normal-back Ty.Int h p n_int = n_int
  normal-back Ty.Int h p (n_neutral n) = elim n [ ]
  normal-back Ty.Bool h p n_bool = n_bool
  normal-back Ty.Bool h p (n_neutral n) = elim n [ ]
  normal-back Ty.Text h p n_text = n_text
  normal-back Ty.Text h p (n_neutral n) = elim n [ ]
  normal-back (Ty.Arrow s t) h p (n_arrow x y) = n_arrow (normal-back s h p x) (normal-back t h p y)
  normal-back (Ty.Arrow s t) h p (n_neutral n) = elim n [ ]
  normal-back (Ty.Fields r) h p (n_fields x) = n_fields (normals-back r h p x)
  normal-back (Ty.Fields r) h p (n_neutral n) = elim n [ ]
  normal-back (Ty.Sum r) h p (n_sum x) = n_sum (normals-back r h p x)
  normal-back (Ty.Sum r) h p (n_neutral n) = elim n [ ]
  normal-back (Ty.All l b) h p (n_all x) = n_all (normal-back b (i_there h) (normal-rename suc (maps-suc l _) p) x)
  normal-back (Ty.All l b) h p (n_neutral n) = elim n [ ]
  normal-back (Ty.Ex l b) h p (n_ex x) = n_ex (normal-back b (i_there h) (normal-rename suc (maps-suc l _) p) x)
  normal-back (Ty.Ex l b) h p (n_neutral n) = elim n [ ]
  normal-back (Ty.Mu b) h p (n_mu x) = n_mu (normal-back b (i_there h) (normal-rename suc (maps-suc Kind.Star _) p) x)
  normal-back (Ty.Mu b) h p (n_neutral n) = elim n [ ]
  normal-back (Ty.Lam l b) h p (n_lam x) = n_lam (normal-back b (i_there h) (normal-rename suc (maps-suc l _) p) x)
  normal-back (Ty.Lam l b) h p (n_neutral n) = elim n [ ]
  normal-back {ctx} {more} {i} {a} {k} (Ty.Apply f t) h p n =
      let q = neutral-part (subst (λ u. Normal ctx u k) (put-apply tt i a f t) n) in
      let r = apply-parts q.1 in
      subst (Normal more (Ty.Apply f t)) (sym q.0) (n_neutral (n_apply (neutral-back f h p r.1) (normal-back t h p r.2)))

  normals-back : {ctx more : List Kind} {i : ℕ} {a : Ty} (r : Row) → Inserts Kind.Star i ctx more → Normal ctx a Kind.Star
      → Normals ctx (put_in_row Kind.Star tt i a r) → Normals more r
  normals-back Row.End h p n_end = n_end
  normals-back {i = i} {a = a} (Row.More l t r) h p (n_more f x y) = n_more (fresh-back i a l r f) (normal-back t h p x) (normals-back r h p y)

  neutral-back : {ctx more : List Kind} {i : ℕ} {a : Ty} {k : Kind} (t : Ty) → Inserts Kind.Star i ctx more → Normal ctx a Kind.Star
      → Neutral ctx (hsubst Kind.Star i a t) k → Neutral more t k
  neutral-back (Ty.Var j) h p n = var-neutral (back-at j h) p n
  neutral-back {ctx} {more} {i} {a} {k} (Ty.Apply f t) h p n =
      let r = apply-parts (subst (λ u. Neutral ctx u k) (put-apply tt i a f t) n) in
      n_apply (neutral-back f h p r.1) (normal-back t h p r.2)
  neutral-back Ty.Int h p n = elim n [ ]
  neutral-back Ty.Bool h p n = elim n [ ]
  neutral-back Ty.Text h p n = elim n [ ]
  neutral-back (Ty.Arrow s t) h p n = elim n [ ]
  neutral-back (Ty.Fields r) h p n = elim n [ ]
  neutral-back (Ty.Sum r) h p n = elim n [ ]
  neutral-back (Ty.All l b) h p n = elim n [ ]
  neutral-back (Ty.Ex l b) h p n = elim n [ ]
  neutral-back (Ty.Mu b) h p n = elim n [ ]
  neutral-back (Ty.Lam l b) h p n = elim n [ ]

-- ---- the target of a package

-- a target that hides a type in a normal type is normal
put-normal : (ctx : List Kind) (t b : Ty) (hidden o : Option Ty) → normal_at ctx t Kind.Star ≡ hidden
    → ((s : Ty) → o ≡ Some s → Normal ctx s Kind.Star) → is_put hidden b o ≡ true → Normal ctx (Ty.Ex Kind.Star b) Kind.Star
put-normal ctx t b None o e f h = no h
put-normal ctx t b (Some n) None e f h = no h
put-normal ctx t b (Some n) (Some s) e f h =
    let q = normal_at-yes ctx t Kind.Star n e in
    let p = subst (λ u. Normal ctx u Kind.Star) q.1 (normal-gives q.0).0 in
    n_ex (normal-back b i_here p (subst (λ u. Normal ctx u Kind.Star) (sym (same_ty-yes (hsubst Kind.Star zero n b) s h)) (f s refl)))

target-yes : (ctx : List Kind) (t u : Ty) (o : Option Ty) → ((s : Ty) → o ≡ Some s → Normal ctx s Kind.Star) → is_target ctx t u o ≡ true
    → Normal ctx u Kind.Star
target-yes ctx t (Ty.Ex Kind.Star b) o f h = put-normal ctx t b (normal_at ctx t Kind.Star) o refl f h
target-yes ctx t _ o f h = no h

-- where what is packed has a normal type, the target of the package is normal or is brought to normal form
pub target-normal : (ctx : List Kind) (t u : Ty) (o : Option Ty) → ((s : Ty) → o ≡ Some s → Normal ctx s Kind.Star)
    → target_type ctx t u o ≡ normal_at ctx u Kind.Star
target-normal ctx t u o f = go (is_target ctx t u o) refl
  where
    go : (b : Truth) → is_target ctx t u o ≡ b → (if b then Some u else normal_at ctx u Kind.Star) ≡ normal_at ctx u Kind.Star
    go true e = stands ctx u (target-yes ctx t u o f e)
    go false e = refl
