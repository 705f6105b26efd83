-- What types put in for variables give: the normal form of the substitution, and a renaming where each is a variable.
-- Main results: ty-renamed, good-under, good-puts.
use Rattle.std.specs.Prelude.{ℕ, zero, suc, ◌≡◌, List, [], ◌∷◌, length}
use Rattle.std.proofs.Common.{arith}
use Rattle.std.proofs.Math.Path.{refl, sym, ◌∙◌, ap, ap₂, subst, fun_ext}
use Rattle.omega_kinds.specs.Kind.{Kind}
use Rattle.omega_kinds.specs.declared.label.Label.{Label}
use Rattle.omega_types.specs.Ty.{Ty, Row, lift}
use Rattle.omega_types.specs.Substitution.{rename, rename_row, substitute, substitute_row, under}
use Rattle.omega_types.specs.Index.{i_here}
use Rattle.omega_types.specs.Kinding.{Lookup, Fresh, here, there}
use Rattle.omega_types.specs.Kinding.HasKind.{k_var, k_int, k_bool, k_text}
use Rattle.omega_types.specs.Conversion.{Conv, Convs}
use Rattle.omega_types.specs.Conversion.Conv.{c_refl, c_trans, c_beta, c_arrow, c_fields, c_sum, c_all, c_ex, c_mu, c_lam, c_apply}
use Rattle.omega_types.specs.Conversion.Convs.{c_end, c_more}
use Rattle.omega_types.specs.Normality.{Normal, Normals, Neutral}
use Rattle.omega_types.specs.Normality.Normal.{n_lam, n_int, n_bool, n_text, n_arrow, n_fields, n_sum, n_all, n_ex, n_mu, n_neutral}
use Rattle.omega_types.specs.Normality.Normals.{n_end, n_more}
use Rattle.omega_types.specs.Normality.Neutral.{n_var, n_apply}
use Rattle.omega_types.specs.Normaliser.{hsubst}
use Rattle.omega_types.specs.Normalises.{NormalForm}
use Rattle.omega_types.specs.Binders.{extend, lifts, unders, front, puts, NormalForms}
use Rattle.omega_types.proofs.Single.{substitute_at-zero}
use Rattle.omega_types.proofs.Hereditary.{hsubst-gives}
use Rattle.omega_types.proofs.Preservation.{maps-suc, normal-rename, neutral-rename, conv-rename, normal-kind, fresh-substitute}
use Rattle.type_normal.specs.Inner.Heads.{Head, stands, came, tree, raised, apply_head, under_head, sunk, sinks, head_in, row_in, ty_in, front_head, put_heads, putting}
use Rattle.type_normal.specs.Inner.Lifted.{lifted}
use Rattle.type_normal.proofs.HeadSteps.{sinks-sunk}

-- renamings

-- a renaming as a change of variables
abbrev pub renaming : (ℕ → ℕ) → ℕ → Head
renaming r i = stands (Ty.Var (r i))

-- a renaming as a change of variables, below a binder
pub under-renaming : (r : ℕ → ℕ) → under_head (renaming r) ≡ renaming (lift r)
under-renaming r = fun_ext go
  where
    go : (i : ℕ) → under_head (renaming r) i ≡ renaming (lift r) i
    go zero = refl
    go (suc i) = refl

-- a renaming as a change of variables, below a list of binders
pub sinks-renaming : (ks : List Kind) (r : ℕ → ℕ) → sinks ks (renaming r) ≡ renaming (lifts ks r)
sinks-renaming [] r = refl
sinks-renaming (k ∷ ks) r = ap (sinks ks) (under-renaming r) ∙ sinks-renaming ks (lift r)

mutual
  -- a change that renames variables renames a type
  pub head-renamed : (r : ℕ → ℕ) (t : Ty) → head_in (renaming r) t ≡ stands (rename r t)
  head-renamed r (Ty.Var i) = refl
  head-renamed r Ty.Int = refl
  head-renamed r Ty.Bool = refl
  head-renamed r Ty.Text = refl
  head-renamed r (Ty.Arrow a b) = ap₂ (λ p q. stands (Ty.Arrow (tree p) (tree q))) (head-renamed r a) (head-renamed r b)
  head-renamed r (Ty.Fields row) = ap (λ f. stands (Ty.Fields f)) (row-renamed r row)
  head-renamed r (Ty.Sum row) = ap (λ f. stands (Ty.Sum f)) (row-renamed r row)
  head-renamed r (Ty.All k b) = ap (λ p. stands (Ty.All k (tree p))) (ap (λ h. head_in h b) (under-renaming r) ∙ head-renamed (lift r) b)
  head-renamed r (Ty.Ex k b) = ap (λ p. stands (Ty.Ex k (tree p))) (ap (λ h. head_in h b) (under-renaming r) ∙ head-renamed (lift r) b)
  head-renamed r (Ty.Mu b) = ap (λ p. stands (Ty.Mu (tree p))) (ap (λ h. head_in h b) (under-renaming r) ∙ head-renamed (lift r) b)
  head-renamed r (Ty.Lam k b) = ap (λ p. stands (Ty.Lam k (tree p))) (ap (λ h. head_in h b) (under-renaming r) ∙ head-renamed (lift r) b)
  head-renamed r (Ty.Apply f a) = ap₂ (λ p q. apply_head p (tree q)) (head-renamed r f) (head-renamed r a)

  row-renamed : (r : ℕ → ℕ) (row : Row) → row_in (renaming r) row ≡ rename_row r row
  row-renamed r Row.End = refl
  row-renamed r (Row.More l t rest) = ap₂ (λ p q. Row.More l (tree p) q) (head-renamed r t) (row-renamed r rest)

-- below so many binders
pub sunk-renaming : (depth : ℕ) (r : ℕ → ℕ) → sunk depth (renaming r) ≡ renaming (lifted depth r)
sunk-renaming zero r = refl
sunk-renaming (suc depth) r = ap under_head (sunk-renaming depth r) ∙ under-renaming (lifted depth r)

-- a change of variables that renames them is the renaming
pub ty-renamed : (depth : ℕ) (r : ℕ → ℕ) (t : Ty) → ty_in (sunk depth (renaming r)) t ≡ rename (lifted depth r) t
ty-renamed depth r t = ap (λ h. ty_in h t) (sunk-renaming depth r) ∙ ap tree (head-renamed (lifted depth r) t)

-- normal types put in for variables

-- what a part becomes is normal at its kind, and convertible to the type s
pub data GoodHead (ctx : List Kind) (s : Ty) : Head → Kind → Type 0 where
  g_stands : {n : Ty} {k : Kind} → Neutral ctx n k → Conv ctx s n k → GoodHead ctx s (stands n) k
  g_came : {n : Ty} {k : Kind} → Normal ctx n k → Conv ctx s n k → GoodHead ctx s (came n) k

-- a change gives each variable a normal type of its kind, convertible to what is substituted
abbrev pub Good : List Kind → List Kind → (ℕ → Ty) → (ℕ → Head) → Type 0
Good ctx other s h = (i : ℕ) (k : Kind) → Lookup ctx i k → GoodHead other (s i) (h i) k

good-raised : {other : List Kind} {s : Ty} {p : Head} {k : Kind} (l : Kind) → GoodHead other s p k → GoodHead (l ∷ other) (rename suc s) (raised p) k
good-raised {other} l (g_stands n c) = g_stands (neutral-rename suc (maps-suc l other) n) (conv-rename suc (maps-suc l other) c)
good-raised {other} l (g_came n c) = g_came (normal-rename suc (maps-suc l other) n) (conv-rename suc (maps-suc l other) c)

-- a change that gives normal types of the right kinds does so below a binder
pub good-under : {ctx other : List Kind} {s : ℕ → Ty} {h : ℕ → Head} (l : Kind) → Good ctx other s h → Good (l ∷ ctx) (l ∷ other) (under s) (under_head h)
good-under l g _ _ here = g_stands (n_var here) (c_refl (k_var here))
good-under l g _ _ (there {k = k} {i = i} x) = good-raised l (g i k x)

-- a change that gives normal types of the right kinds does so below a list of binders
pub good-sinks : {ctx other : List Kind} {s : ℕ → Ty} {h : ℕ → Head} (ks : List Kind) → Good ctx other s h → Good (extend ctx ks) (extend other ks) (unders ks s) (sinks ks h)
good-sinks [] g = g
good-sinks (k ∷ ks) g = good-sinks ks (good-under k g)

good-tree : {ctx : List Kind} {s : Ty} {p : Head} → GoodHead ctx s p Kind.Star → NormalForm ctx s Kind.Star (tree p)
good-tree (g_stands n c) = (n_neutral n, c)
good-tree (g_came n c) = (n, c)

good-operator : {ctx : List Kind} {s f t a : Ty} {k l : Kind} → Normal ctx f (Kind.Arrow k l) → Conv ctx s f (Kind.Arrow k l) → NormalForm ctx t k a → GoodHead ctx (Ty.Apply s t) (apply_head (came f) a) l
good-operator {ctx} {a = a} {k = k} {l = l} (n_lam {b = b} nb) c m =
    let h = hsubst-gives ctx (k ∷ ctx) zero a b k l i_here m.0 nb in
    g_came h.0 (c_trans (c_apply c m.1) (c_trans (c_beta (normal-kind nb) (normal-kind m.0)) (subst (λ u. Conv ctx u (hsubst k zero a b) l) (substitute_at-zero a b) h.1)))

good-apply : {ctx : List Kind} {s t a : Ty} {p : Head} {k l : Kind} → GoodHead ctx s p (Kind.Arrow k l) → NormalForm ctx t k a → GoodHead ctx (Ty.Apply s t) (apply_head p a) l
good-apply (g_stands n c) m = g_stands (n_apply n m.0) (c_apply c m.1)
good-apply (g_came n c) m = good-operator n c m

mutual
  -- such a change of a normal type gives the normal form of the substitution
  pub in-normal : {ctx other : List Kind} {s : ℕ → Ty} {h : ℕ → Head} {t : Ty} {k : Kind} → Good ctx other s h → Normal ctx t k → NormalForm other (substitute s t) k (ty_in h t)
  in-normal g (n_lam {k = j} b) = let r = in-normal (good-under j g) b in (n_lam r.0, c_lam r.1)
  in-normal g n_int = (n_int, c_refl k_int)
  in-normal g n_bool = (n_bool, c_refl k_bool)
  in-normal g n_text = (n_text, c_refl k_text)
  in-normal g (n_arrow a b) = let p = in-normal g a in let q = in-normal g b in (n_arrow p.0 q.0, c_arrow p.1 q.1)
  in-normal g (n_fields row) = let r = in-normals g row in (n_fields r.0, c_fields r.1)
  in-normal g (n_sum row) = let r = in-normals g row in (n_sum r.0, c_sum r.1)
  in-normal g (n_all {k = j} b) = let r = in-normal (good-under j g) b in (n_all r.0, c_all r.1)
  in-normal g (n_ex {k = j} b) = let r = in-normal (good-under j g) b in (n_ex r.0, c_ex r.1)
  in-normal g (n_mu b) = let r = in-normal (good-under Kind.Star g) b in (n_mu r.0, c_mu r.1)
  in-normal g (n_neutral n) = good-tree (in-neutral g n)

  in-normals : {ctx other : List Kind} {s : ℕ → Ty} {h : ℕ → Head} {row : Row} → Good ctx other s h → Normals ctx row → Normals other (row_in h row) × Convs other (substitute_row s row) (row_in h row) × ((l : Label) → Fresh l row → Fresh l (row_in h row))
  in-normals g n_end = (n_end, c_end, λ l f. tt)
  in-normals {s = s} g (n_more {l = l} {rest = rest} f t ts) =
      let p = in-normal g t in
      let q = in-normals g ts in
      (n_more (q.2 l f) p.0 q.0, c_more (fresh-substitute s l rest f) (q.2 l f) p.1 q.1, λ m e. (e.0, q.2 m e.1))

  in-neutral : {ctx other : List Kind} {s : ℕ → Ty} {h : ℕ → Head} {t : Ty} {k : Kind} → Good ctx other s h → Neutral ctx t k → GoodHead other (substitute s t) (head_in h t) k
  in-neutral g (n_var {i = i} {k = k} x) = g i k x
  in-neutral g (n_apply f a) = good-apply (in-neutral g f) (in-normal g a)

good-front : {ctx other : List Kind} {s : ℕ → Ty} {h : ℕ → Head} {t : Ty} {k : Kind} → NormalForm other t k t → Good ctx other s h → Good (k ∷ ctx) other (front t s) (front_head t h)
good-front n g _ _ here = g_came n.0 n.1
good-front n g _ _ (there {k = k} {i = i} x) = g i k x

-- normal types put in before such a change give one
pub good-puts : {ctx other : List Kind} {s : ℕ → Ty} {h : ℕ → Head} {ts : List Ty} {ks : List Kind} → NormalForms other ts ks ts → Good ctx other s h → Good (extend ctx ks) other (puts ts s) (put_heads ts h)
good-puts {ts = []} {ks = []} n g = g
good-puts {ts = []} {ks = k ∷ ks} n g = elim n [ ]
good-puts {ts = t ∷ ts} {ks = []} n g = elim n [ ]
good-puts {ts = t ∷ ts} {ks = k ∷ ks} (NormalForms.next n ns) g = good-puts ns (good-front n g)

-- the change that leaves each variable is one
pub good-vars : (ctx : List Kind) → Good ctx ctx Ty.Var (λ i. stands (Ty.Var i))
good-vars ctx i k x = g_stands (n_var x) (c_refl (k_var x))

-- a normal type below binders, at normal types of the right kinds for the variables outside of them
pub ty-put : (depth : ℕ) (ts : List Ty) (t put : Ty) → put ≡ ty_in (sunk depth (putting ts)) t → (inner ctx ks : List Kind) (k : Kind) → length inner ≡ depth → NormalForms ctx ts ks ts → Normal (extend (extend ctx ks) inner) t k → NormalForm (extend ctx inner) (substitute (unders inner (puts ts Ty.Var)) t) k put
ty-put depth ts t put e inner ctx ks k len ns n =
    let h : sinks inner (putting ts) ≡ sunk depth (putting ts) = sinks-sunk inner zero (putting ts) ∙ ap (λ d. sunk d (putting ts)) (omega (arith, len)) in
    subst (λ u. NormalForm (extend ctx inner) (substitute (unders inner (puts ts Ty.Var)) t) k u) (ap (λ g. ty_in g t) h ∙ sym e) (in-normal (good-sinks inner (good-puts ns (good-vars ctx))) n)
