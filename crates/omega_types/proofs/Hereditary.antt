-- Hereditary substitution gives the normal form of the substitution, and the normaliser the normal form.
-- Main results: hsubst-gives, normaliser_gives, each_has_one, same_exactly.
use Rattle.std.specs.Prelude.{ℕ, zero, suc, List, ◌∷◌, ◌≡◌}
use Rattle.std.proofs.Math.Path.{refl, sym, subst}
use Rattle.omega_kinds.specs.Kind.{Kind}
use Rattle.omega_kinds.specs.declared.label.Label.{Label}
use Rattle.omega_types.specs.Ty.{Ty, Row}
use Rattle.omega_types.specs.Substitution.{rename, substitute, substitute_row, under}
use Rattle.omega_types.specs.Kinding.{Lookup, HasKind, HasKinds, Fresh, here, there}
use Rattle.omega_types.specs.Kinding.HasKind.{k_var, k_int, k_bool, k_text, k_arrow, k_fields, k_sum, k_all, k_ex, k_mu, k_lam, k_apply}
use Rattle.omega_types.specs.Kinding.HasKinds.{k_end, k_more}
use Rattle.omega_types.specs.Conversion.{Conv, Convs}
use Rattle.omega_types.specs.Conversion.Conv.{c_refl, c_sym, c_trans, c_beta, c_eta, c_arrow, c_fields, c_sum, c_all, c_ex, c_mu, c_lam, c_apply}
use Rattle.omega_types.specs.Conversion.Convs.{c_end, c_more}
use Rattle.omega_types.specs.Normality.{Normal, Normals, Neutral}
use Rattle.omega_types.specs.Normality.Normal.{n_lam, n_int, n_bool, n_text, n_arrow, n_fields, n_sum, n_all, n_ex, n_mu, n_neutral}
use Rattle.omega_types.specs.Normality.Normals.{n_end, n_more}
use Rattle.omega_types.specs.Normality.Neutral.{n_var, n_apply}
use Rattle.omega_types.specs.Normalises.{NormalForm, OneNormalForm, EachHasOne, InstanceHasOne, RenamingKeeps, SameExactlyWhereConvertible, NormaliserGives, HsubstGives}
use Rattle.omega_types.specs.Index.{Slot, fill, put, Inserts, i_here, i_there}
use Rattle.omega_types.specs.Normaliser.{Args, Part, stuck, whole, tree, apply_part, fill_part, put_in, put_in_row, args, hsubst, eta, kind_at, beta, normal, normal_row}
use Rattle.omega_types.proofs.Single.{put-under, Slotted, s_taken, s_other, slotted, substitute_at-zero}
use Rattle.omega_types.proofs.Preservation.{maps-suc, normal-rename, neutral-rename, normal-kind, neutral-kind, fresh-substitute}
use Rattle.omega_types.proofs.Readback.{unique_normal_forms}

-- a function gives the normal form of the substitution of an argument of kind k
abbrev Gives : Kind → (ℕ → Ty → Ty → Ty) → Type 0
Gives k f = (i : ℕ) (ctx more : List Kind) (a t : Ty) (l : Kind) → Inserts k i ctx more → Normal ctx a k → Normal more t l → NormalForm ctx (substitute (put i a) t) l (f i a t)

-- each function of a list does
abbrev Good : (k : Kind) → Args k → Type 0
Good Kind.Star A = Unit {0}
Good (Kind.Arrow k l) A = Gives k A.0 × Good l A.1

data GoodPart (ctx : List Kind) (t : Ty) : Part → Kind → Type 0 where
  g_stuck : {n : Ty} {k : Kind} → Neutral ctx n k → Conv ctx t n k → GoodPart ctx t (stuck n) k
  g_whole : {n : Ty} {k : Kind} {A : Args k} → Normal ctx n k → Conv ctx t n k → Good k A → GoodPart ctx t (whole n k A) k

good-tree : {ctx : List Kind} {t : Ty} {p : Part} → GoodPart ctx t p Kind.Star → NormalForm ctx t Kind.Star (tree p)
good-tree (g_stuck n c) = (n_neutral n, c)
good-tree (g_whole n c A) = (n, c)

good-slot : {k l : Kind} {ctx : List Kind} {a : Ty} {s : Slot} (A : Args k) → Good k A → Normal ctx a k → Slotted k ctx s l → GoodPart ctx (fill a s) (fill_part k A a s) l
good-slot A g n s_taken = g_whole n (c_refl (normal-kind n)) g
good-slot A g n (s_other x) = g_stuck (n_var x) (c_refl (k_var x))

-- a normal operator at a normal argument
good-beta : {ctx : List Kind} {f t b a : Ty} {k l : Kind} {F : ℕ → Ty → Ty → Ty} → Gives k F → Normal (k ∷ ctx) b l → Conv ctx f (Ty.Lam k b) (Kind.Arrow k l) → NormalForm ctx t k a → NormalForm ctx (Ty.Apply f t) l (F zero a b)
good-beta {ctx} {f} {t} {b} {a} {k} {l} {F} g nb c m =
    let h = g zero ctx (k ∷ ctx) a b l i_here m.0 nb in
    (h.0, c_trans (c_apply c m.1) (c_trans (c_beta (normal-kind nb) (normal-kind m.0)) (subst (λ s. Conv ctx s (F zero a b) l) (substitute_at-zero a b) h.1)))

good-whole : {ctx : List Kind} {f t g a : Ty} {k l : Kind} (A : Args (Kind.Arrow k l)) → Normal ctx g (Kind.Arrow k l) → Conv ctx f g (Kind.Arrow k l) → Good (Kind.Arrow k l) A → NormalForm ctx t k a → GoodPart ctx (Ty.Apply f t) (apply_part (whole g (Kind.Arrow k l) A) a) l
good-whole A (n_lam nb) c g m = let h = good-beta g.0 nb c m in g_whole h.0 h.1 g.1

good-apply : {ctx : List Kind} {f t a : Ty} {k l : Kind} {p : Part} → GoodPart ctx f p (Kind.Arrow k l) → NormalForm ctx t k a → GoodPart ctx (Ty.Apply f t) (apply_part p a) l
good-apply (g_stuck n c) m = g_stuck (n_apply n m.0) (c_apply c m.1)
good-apply (g_whole {A = A} n c g) m = good-whole A n c g m

-- below a binder
below : {ctx : List Kind} {n : Ty} {l : Kind} (i : ℕ) (a b : Ty) → NormalForm ctx (substitute (put (suc i) (rename suc a)) b) l n → NormalForm ctx (substitute (under (put i a)) b) l n
below {ctx} {n} {l} i a b h = subst (λ s. NormalForm ctx (substitute s b) l n) (sym (put-under i a)) h

mutual
  put-normal : {k l : Kind} {i : ℕ} {ctx more : List Kind} {a t : Ty} (A : Args k) → Good k A → Inserts k i ctx more → Normal ctx a k → Normal more t l → NormalForm ctx (substitute (put i a) t) l (tree (put_in k A i a t))
  put-normal {i = i} {ctx = ctx} {a = a} A g h n (n_lam {k = j} {b = t} b) = let r = below i a t (put-normal A g (i_there h) (normal-rename suc (maps-suc j ctx) n) b) in (n_lam r.0, c_lam r.1)
  put-normal A g h n n_int = (n_int, c_refl k_int)
  put-normal A g h n n_bool = (n_bool, c_refl k_bool)
  put-normal A g h n n_text = (n_text, c_refl k_text)
  put-normal A g h n (n_arrow s t) = let p = put-normal A g h n s in let q = put-normal A g h n t in (n_arrow p.0 q.0, c_arrow p.1 q.1)
  put-normal A g h n (n_fields row) = let r = put-normals A g h n row in (n_fields r.0, c_fields r.1)
  put-normal A g h n (n_sum row) = let r = put-normals A g h n row in (n_sum r.0, c_sum r.1)
  put-normal {i = i} {ctx = ctx} {a = a} A g h n (n_all {k = j} {b = t} b) = let r = below i a t (put-normal A g (i_there h) (normal-rename suc (maps-suc j ctx) n) b) in (n_all r.0, c_all r.1)
  put-normal {i = i} {ctx = ctx} {a = a} A g h n (n_ex {k = j} {b = t} b) = let r = below i a t (put-normal A g (i_there h) (normal-rename suc (maps-suc j ctx) n) b) in (n_ex r.0, c_ex r.1)
  put-normal {i = i} {ctx = ctx} {a = a} A g h n (n_mu {b = t} b) = let r = below i a t (put-normal A g (i_there h) (normal-rename suc (maps-suc Kind.Star ctx) n) b) in (n_mu r.0, c_mu r.1)
  put-normal A g h n (n_neutral t) = good-tree (put-neutral A g h n t)

  put-normals : {k : Kind} {i : ℕ} {ctx more : List Kind} {a : Ty} {row : Row} (A : Args k) → Good k A → Inserts k i ctx more → Normal ctx a k → Normals more row → Normals ctx (put_in_row k A i a row) × Convs ctx (substitute_row (put i a) row) (put_in_row k A i a row) × ((l : Label) → Fresh l row → Fresh l (put_in_row k A i a row))
  put-normals A g h n n_end = (n_end, c_end, λ l f. tt)
  put-normals {i = i} {a = a} A g h n (n_more {l = l} {rest = rest} f t ts) =
      let p = put-normal A g h n t in
      let q = put-normals A g h n ts in
      (n_more (q.2 l f) p.0 q.0, c_more (fresh-substitute (put i a) l rest f) (q.2 l f) p.1 q.1, λ m e. (e.0, q.2 m e.1))

  put-neutral : {k l : Kind} {i : ℕ} {ctx more : List Kind} {a t : Ty} (A : Args k) → Good k A → Inserts k i ctx more → Normal ctx a k → Neutral more t l → GoodPart ctx (substitute (put i a) t) (put_in k A i a t) l
  put-neutral A g h n (n_var x) = good-slot A g n (slotted h x)
  put-neutral A g h n (n_apply t s) = good-apply (put-neutral A g h n t) (put-normal A g h n s)

good-args : (k : Kind) → Good k (args k)
good-args Kind.Star = tt
good-args (Kind.Arrow k l) = (λ i ctx more a t j h n m. put-normal (args k) (good-args k) h n m, good-args l)

-- hereditary substitution gives the normal form of the substitution
pub hsubst-gives : HsubstGives
hsubst-gives ctx more i a b k l h n m = put-normal (args k) (good-args k) h n m

-- eta-long forms

-- the eta-long form of a neutral type is its normal form
pub eta-normal : (k : Kind) {ctx : List Kind} {t : Ty} → Neutral ctx t k → NormalForm ctx t k (eta k t)
eta-normal Kind.Star n = (n_neutral n, c_refl (neutral-kind n))
eta-normal (Kind.Arrow k l) {ctx = ctx} n =
    let w = neutral-rename suc (maps-suc k ctx) n in
    let a = eta-normal k (n_var {ctx = k ∷ ctx} here) in
    let b = eta-normal l (n_apply w a.0) in
    (n_lam b.0, c_trans (c_sym (c_eta (neutral-kind n))) (c_lam (c_trans (c_apply (c_refl (neutral-kind w)) a.1) b.1)))

-- the kind at an index of a context is that of its variable
pub lookup-kind_at : {ctx : List Kind} {i : ℕ} {k : Kind} → Lookup ctx i k → k ≡ kind_at ctx i
lookup-kind_at here = refl
lookup-kind_at (there x) = lookup-kind_at x

-- the normaliser

normal-apply : {ctx : List Kind} {f t g a : Ty} {k l : Kind} → Normal ctx g (Kind.Arrow k l) → Conv ctx f g (Kind.Arrow k l) → NormalForm ctx t k a → NormalForm ctx (Ty.Apply f t) l (beta g a)
normal-apply {k = k} (n_lam nb) c m = good-beta {F = hsubst k} (good-args (Kind.Arrow k Kind.Star)).0 nb c m

mutual
  -- the normaliser gives the normal form of each type of a kind
  pub normal-gives : {ctx : List Kind} {t : Ty} {k : Kind} → HasKind ctx t k → NormalForm ctx t k (normal ctx t)
  normal-gives (k_var {ctx = ctx} {i = i} {k = k} x) = subst (λ j. NormalForm ctx (Ty.Var i) k (eta j (Ty.Var i))) (lookup-kind_at x) (eta-normal k (n_var x))
  normal-gives k_int = (n_int, c_refl k_int)
  normal-gives k_bool = (n_bool, c_refl k_bool)
  normal-gives k_text = (n_text, c_refl k_text)
  normal-gives (k_arrow a b) = let p = normal-gives a in let q = normal-gives b in (n_arrow p.0 q.0, c_arrow p.1 q.1)
  normal-gives (k_fields row) = let r = normal_row-gives row in (n_fields r.0, c_fields r.1)
  normal-gives (k_sum row) = let r = normal_row-gives row in (n_sum r.0, c_sum r.1)
  normal-gives (k_all b) = let r = normal-gives b in (n_all r.0, c_all r.1)
  normal-gives (k_ex b) = let r = normal-gives b in (n_ex r.0, c_ex r.1)
  normal-gives (k_mu b) = let r = normal-gives b in (n_mu r.0, c_mu r.1)
  normal-gives (k_lam b) = let r = normal-gives b in (n_lam r.0, c_lam r.1)
  normal-gives (k_apply f a) = let p = normal-gives f in normal-apply p.0 p.1 (normal-gives a)

  pub normal_row-gives : {ctx : List Kind} {row : Row} → HasKinds ctx row → Normals ctx (normal_row ctx row) × Convs ctx row (normal_row ctx row) × ((l : Label) → Fresh l row → Fresh l (normal_row ctx row))
  normal_row-gives k_end = (n_end, c_end, λ l f. tt)
  normal_row-gives (k_more {l = l} f t ts) =
      let p = normal-gives t in
      let q = normal_row-gives ts in
      (n_more (q.2 l f) p.0 q.0, c_more f (q.2 l f) p.1 q.1, λ m e. (e.0, q.2 m e.1))

-- the theorems

one-normal-form : {ctx : List Kind} {t : Ty} {k : Kind} (n : Ty) → NormalForm ctx t k n → OneNormalForm ctx t k
one-normal-form {ctx} {t} {k} n f = (n, f, λ m h. unique_normal_forms ctx m n k h.0 f.0 (c_trans (c_sym h.1) f.1))

-- the normaliser gives the normal form of each type of a kind
pub normaliser_gives : NormaliserGives
normaliser_gives ctx t k h = normal-gives h

-- each type of a kind has exactly one normal form
pub each_has_one : EachHasOne
each_has_one ctx t k h = one-normal-form (normal ctx t) (normal-gives h)

-- a normal body with a normal argument put in has exactly one normal form
pub instance_has_one : InstanceHasOne
instance_has_one ctx more i a b k l h n m = one-normal-form (hsubst k i a b) (hsubst-gives ctx more i a b k l h n m)

-- renaming keeps types normal
pub renaming_keeps : RenamingKeeps
renaming_keeps ctx other r t k h n = normal-rename r h n

-- normal types of one kind are convertible exactly where they are the same
pub same_exactly : SameExactlyWhereConvertible
same_exactly ctx s t k n m = (λ e. subst (λ u. Conv ctx s u k) e (c_refl (normal-kind n)), unique_normal_forms ctx s t k n m)

-- each list of functions that comes up is the one of its kind, so hereditary substitution goes by kinds alone
pub data FromArgs : Part → Type 0 where
  a_stuck : {t : Ty} → FromArgs (stuck t)
  a_whole : {t : Ty} (k : Kind) → FromArgs (whole t k (args k))
