-- Legible types stay legible under renaming, under substitution and in normal form.
-- Main results: rename-legible, substitute-legible, hsubst-legible, normal-legible.
use Rattle.std.specs.Prelude.{ℕ, zero, suc, List, [], ◌∷◌, Option, Some, None}
use Rattle.omega_kinds.specs.Kind.{Kind}
use Rattle.omega_kinds.specs.declared.label.Label.{Label}
use Rattle.omega_types.specs.Ty.{Ty, Row, lift}
use Rattle.omega_types.specs.Substitution.{rename, rename_row, under, substitute, substitute_row, single, instantiate}
use Rattle.omega_types.specs.EtaLong.{eta}
use Rattle.omega_types.specs.Index.{Slot, taken, kept, slot}
use Rattle.omega_types.specs.Normaliser.{Args, Part, stuck, whole, tree, apply_part, fill_part, put_in, put_in_row, args, hsubst, kind_at, beta, normal}
use Rattle.omega_types.specs.Normaliser.{normal_row}
use Rattle.omega_types.specs.Binders.{past, all_over, ex_over, lam_over, applied, vars, front, puts, unders}
use Rattle.omega_terms.specs.declared.version.Version.{Version}
use Rattle.elab_spelling.specs.Legible.{TyLegible, RowLegible, TypesLegible}

module _ (v : Version) where
  mutual
    -- renaming keeps a type legible
    pub rename-legible : (r : ℕ → ℕ) (t : Ty) → TyLegible v t → TyLegible v (rename r t)
    rename-legible r (Ty.Var i) h = tt
    rename-legible r Ty.Int h = tt
    rename-legible r Ty.Bool h = tt
    rename-legible r Ty.Text h = tt
    rename-legible r (Ty.Arrow a b) h = (rename-legible r a h.0, rename-legible r b h.1)
    rename-legible r (Ty.Fields row) h = rename_row-legible r None row h
    rename-legible r (Ty.Sum row) h = (h.0, rename_row-legible r None row h.1)
    rename-legible r (Ty.All k b) h = rename-legible (lift r) b h
    rename-legible r (Ty.Ex k b) h = rename-legible (lift r) b h
    rename-legible r (Ty.Mu b) h = (h.0, rename-legible (lift r) b h.1)
    rename-legible r (Ty.Lam k b) h = rename-legible (lift r) b h
    rename-legible r (Ty.Apply f a) h = (rename-legible r f h.0, rename-legible r a h.1)

    rename_row-legible : (r : ℕ → ℕ) (last : Option Label) (row : Row) → RowLegible v last row → RowLegible v last (rename_row r row)
    rename_row-legible r last Row.End h = tt
    rename_row-legible r last (Row.More l t rest) h = (h.0, h.1, rename-legible r t h.2, rename_row-legible r (Some l) rest h.3)

  mutual
    -- a type whose renaming is legible is legible
    pub legible-renamed : (r : ℕ → ℕ) (t : Ty) → TyLegible v (rename r t) → TyLegible v t
    legible-renamed r (Ty.Var i) h = tt
    legible-renamed r Ty.Int h = tt
    legible-renamed r Ty.Bool h = tt
    legible-renamed r Ty.Text h = tt
    legible-renamed r (Ty.Arrow a b) h = (legible-renamed r a h.0, legible-renamed r b h.1)
    legible-renamed r (Ty.Fields row) h = legible-renamed_row r None row h
    legible-renamed r (Ty.Sum row) h = (h.0, legible-renamed_row r None row h.1)
    legible-renamed r (Ty.All k b) h = legible-renamed (lift r) b h
    legible-renamed r (Ty.Ex k b) h = legible-renamed (lift r) b h
    legible-renamed r (Ty.Mu b) h = (h.0, legible-renamed (lift r) b h.1)
    legible-renamed r (Ty.Lam k b) h = legible-renamed (lift r) b h
    legible-renamed r (Ty.Apply f a) h = (legible-renamed r f h.0, legible-renamed r a h.1)

    legible-renamed_row : (r : ℕ → ℕ) (last : Option Label) (row : Row) → RowLegible v last (rename_row r row) → RowLegible v last row
    legible-renamed_row r last Row.End h = tt
    legible-renamed_row r last (Row.More l t rest) h = (h.0, h.1, legible-renamed r t h.2, legible-renamed_row r (Some l) rest h.3)

  -- each type that a substitution puts in
  abbrev pub AllLegible : (ℕ → Ty) → Type 0
  AllLegible s = (i : ℕ) → TyLegible v (s i)

  -- a substitution of legible types is one below a binder
  pub under-legible : (s : ℕ → Ty) → AllLegible s → AllLegible (under s)
  under-legible s h zero = tt
  under-legible s h (suc i) = rename-legible suc (s i) (h i)

  mutual
    -- a substitution of legible types keeps a type legible
    pub substitute-legible : (s : ℕ → Ty) (t : Ty) → AllLegible s → TyLegible v t → TyLegible v (substitute s t)
    substitute-legible s (Ty.Var i) f h = f i
    substitute-legible s Ty.Int f h = tt
    substitute-legible s Ty.Bool f h = tt
    substitute-legible s Ty.Text f h = tt
    substitute-legible s (Ty.Arrow a b) f h = (substitute-legible s a f h.0, substitute-legible s b f h.1)
    substitute-legible s (Ty.Fields row) f h = substitute_row-legible s None row f h
    substitute-legible s (Ty.Sum row) f h = (h.0, substitute_row-legible s None row f h.1)
    substitute-legible s (Ty.All k b) f h = substitute-legible (under s) b (under-legible s f) h
    substitute-legible s (Ty.Ex k b) f h = substitute-legible (under s) b (under-legible s f) h
    substitute-legible s (Ty.Mu b) f h = (h.0, substitute-legible (under s) b (under-legible s f) h.1)
    substitute-legible s (Ty.Lam k b) f h = substitute-legible (under s) b (under-legible s f) h
    substitute-legible s (Ty.Apply g a) f h = (substitute-legible s g f h.0, substitute-legible s a f h.1)

    substitute_row-legible : (s : ℕ → Ty) (last : Option Label) (row : Row) → AllLegible s → RowLegible v last row → RowLegible v last (substitute_row s row)
    substitute_row-legible s last Row.End f h = tt
    substitute_row-legible s last (Row.More l t rest) f h = (h.0, h.1, substitute-legible s t f h.2, substitute_row-legible s (Some l) rest f h.3)

  single-legible : (a : Ty) → TyLegible v a → AllLegible (single a)
  single-legible a h zero = h
  single-legible a h (suc i) = tt

  -- a legible argument put into a legible body is legible
  pub instantiate-legible : (b a : Ty) → TyLegible v b → TyLegible v a → TyLegible v (instantiate b a)
  instantiate-legible b a g h = substitute-legible (single a) b (single-legible a h) g

  -- a legible type in front of a substitution of legible types gives one
  pub front-legible : (t : Ty) (s : ℕ → Ty) → TyLegible v t → AllLegible s → AllLegible (front t s)
  front-legible t s h f zero = h
  front-legible t s h f (suc i) = f i

  -- legible types put in before a substitution of legible types give one
  pub puts-legible : (ts : List Ty) (s : ℕ → Ty) → TypesLegible v ts → AllLegible s → AllLegible (puts ts s)
  puts-legible [] s h f = f
  puts-legible (t ∷ ts) s h f = puts-legible ts (front t s) h.1 (front-legible t s h.0 f)

  -- a substitution of legible types is one below a list of binders
  pub unders-legible : (ks : List Kind) (s : ℕ → Ty) → AllLegible s → AllLegible (unders ks s)
  unders-legible [] s f = f
  unders-legible (k ∷ ks) s f = unders-legible ks (under s) (under-legible s f)

  -- binders

  -- the eta-long form of a legible type is legible
  pub eta-legible : (k : Kind) (t : Ty) → TyLegible v t → TyLegible v (eta k t)
  eta-legible Kind.Star t h = h
  eta-legible (Kind.Arrow k l) t h = eta-legible l (Ty.Apply (rename suc t) (eta k (Ty.Var zero))) (rename-legible suc t h, eta-legible k (Ty.Var zero) tt)

  -- the binders' variables, eta-long, are legible
  pub vars-legible : (ks : List Kind) → TypesLegible v (vars ks)
  vars-legible [] = tt
  vars-legible (k ∷ ks) = (eta-legible k (Ty.Var (past ks zero)) tt, vars-legible ks)

  -- a universally quantified legible type is legible
  pub all_over-legible : (ks : List Kind) (t : Ty) → TyLegible v t → TyLegible v (all_over ks t)
  all_over-legible [] t h = h
  all_over-legible (k ∷ ks) t h = all_over-legible ks t h

  -- an existentially quantified legible type is legible
  pub ex_over-legible : (ks : List Kind) (t : Ty) → TyLegible v t → TyLegible v (ex_over ks t)
  ex_over-legible [] t h = h
  ex_over-legible (k ∷ ks) t h = ex_over-legible ks t h

  -- an operator over binders with a legible body is legible
  pub lam_over-legible : (ks : List Kind) (t : Ty) → TyLegible v t → TyLegible v (lam_over ks t)
  lam_over-legible [] t h = h
  lam_over-legible (k ∷ ks) t h = lam_over-legible ks t h

  -- a legible operator applied to the binders' variables is legible
  pub applied-legible : (ks : List Kind) (t : Ty) → TyLegible v t → TyLegible v (applied ks t)
  applied-legible [] t h = h
  applied-legible (k ∷ ks) t h = applied-legible ks (Ty.Apply (rename suc t) (Ty.Var zero)) (rename-legible suc t h, tt)

  -- hereditary substitution and normal forms

  abbrev ArgsKeep : (k : Kind) → Args k → Type 0
  ArgsKeep Kind.Star A = Unit {0}
  ArgsKeep (Kind.Arrow k l) A = ((i : ℕ) (a t : Ty) → TyLegible v a → TyLegible v t → TyLegible v (A.0 i a t)) × ArgsKeep l A.1

  abbrev PartKeeps : Part → Type 0
  PartKeeps (stuck t) = TyLegible v t
  PartKeeps (whole t k A) = TyLegible v t × ArgsKeep k A

  tree-legible : (p : Part) → PartKeeps p → TyLegible v (tree p)
  tree-legible (stuck t) h = h
  tree-legible (whole t k A) h = h.0

  apply_part-keeps : (p : Part) (a : Ty) → PartKeeps p → TyLegible v a → PartKeeps (apply_part p a)
  apply_part-keeps (stuck f) a h g = (h, g)
  apply_part-keeps (whole (Ty.Lam j b) (Kind.Arrow k l) A) a h g = (h.1.0 zero a b g h.0, h.1.1)
  apply_part-keeps (whole f k A) a h g = (h.0, g)

  fill_part-keeps : (k : Kind) (A : Args k) (a : Ty) (s : Slot) → ArgsKeep k A → TyLegible v a → PartKeeps (fill_part k A a s)
  fill_part-keeps k A a taken f h = (h, f)
  fill_part-keeps k A a (kept n) f h = tt

  mutual
    put_in-keeps : (k : Kind) (A : Args k) (i : ℕ) (a t : Ty) → ArgsKeep k A → TyLegible v a → TyLegible v t → PartKeeps (put_in k A i a t)
    put_in-keeps k A i a (Ty.Var j) f h g = fill_part-keeps k A a (slot i j) f h
    put_in-keeps k A i a Ty.Int f h g = tt
    put_in-keeps k A i a Ty.Bool f h g = tt
    put_in-keeps k A i a Ty.Text f h g = tt
    put_in-keeps k A i a (Ty.Arrow s t) f h g = (
      tree-legible (put_in k A i a s) (put_in-keeps k A i a s f h g.0),
      tree-legible (put_in k A i a t)
          (put_in-keeps k A i a t f h g.1),
    )
    put_in-keeps k A i a (Ty.Fields row) f h g = put_in_row-legible k A i a None row f h g
    put_in-keeps k A i a (Ty.Sum row) f h g = (g.0, put_in_row-legible k A i a None row f h g.1)
    put_in-keeps k A i a (Ty.All l b) f h g = tree-legible (put_in k A (suc i) (rename suc a) b)
        (put_in-keeps k A (suc i) (rename suc a) b f (rename-legible suc a h) g)
    put_in-keeps k A i a (Ty.Ex l b) f h g = tree-legible (put_in k A (suc i) (rename suc a) b)
        (put_in-keeps k A (suc i) (rename suc a) b f (rename-legible suc a h) g)
    put_in-keeps k A i a (Ty.Mu b) f h g = (
      g.0,
      tree-legible (put_in k A (suc i) (rename suc a) b)
          (put_in-keeps k A (suc i) (rename suc a) b f (rename-legible suc a h) g.1),
    )
    put_in-keeps k A i a (Ty.Lam l b) f h g = tree-legible (put_in k A (suc i) (rename suc a) b)
        (put_in-keeps k A (suc i) (rename suc a) b f (rename-legible suc a h) g)
    put_in-keeps k A i a (Ty.Apply s t) f h g =
        apply_part-keeps (put_in k A i a s) (tree (put_in k A i a t)) (put_in-keeps k A i a s f h g.0)
        (tree-legible (put_in k A i a t) (put_in-keeps k A i a t f h g.1))

    put_in_row-legible : (k : Kind) (A : Args k) (i : ℕ) (a : Ty) (last : Option Label) (row : Row) → ArgsKeep k A → TyLegible v a → RowLegible v last row
        → RowLegible v last (put_in_row k A i a row)
    put_in_row-legible k A i a last Row.End f h g = tt
    put_in_row-legible k A i a last (Row.More l t rest) f h g = (
      g.0,
      g.1,
      tree-legible (put_in k A i a t)
          (put_in-keeps k A i a t f h g.2),
      put_in_row-legible k A i a (Some l) rest f h g.3,
    )

  args-keep : (k : Kind) → ArgsKeep k (args k)
  args-keep Kind.Star = tt
  args-keep (Kind.Arrow k l) = (λ i a t h g. tree-legible (put_in k (args k) i a t) (put_in-keeps k (args k) i a t (args-keep k) h g), args-keep l)

  -- hereditary substitution of a legible argument into a legible type is legible
  pub hsubst-legible : (k : Kind) (i : ℕ) (a t : Ty) → TyLegible v a → TyLegible v t → TyLegible v (hsubst k i a t)
  hsubst-legible k i a t h g = tree-legible (put_in k (args k) i a t) (put_in-keeps k (args k) i a t (args-keep k) h g)

  beta-legible : (f a : Ty) → TyLegible v f → TyLegible v a → TyLegible v (beta f a)
  beta-legible (Ty.Lam k b) a h g = hsubst-legible k zero a b g h
  beta-legible f a h g = (h, g)

  mutual
    -- what the normaliser gives of a legible type is legible
    pub normal-legible : (ctx : List Kind) (t : Ty) → TyLegible v t → TyLegible v (normal ctx t)
    normal-legible ctx (Ty.Var i) h = eta-legible (kind_at ctx i) (Ty.Var i) tt
    normal-legible ctx Ty.Int h = tt
    normal-legible ctx Ty.Bool h = tt
    normal-legible ctx Ty.Text h = tt
    normal-legible ctx (Ty.Arrow a b) h = (normal-legible ctx a h.0, normal-legible ctx b h.1)
    normal-legible ctx (Ty.Fields row) h = normal_row-legible ctx None row h
    normal-legible ctx (Ty.Sum row) h = (h.0, normal_row-legible ctx None row h.1)
    normal-legible ctx (Ty.All k b) h = normal-legible (k ∷ ctx) b h
    normal-legible ctx (Ty.Ex k b) h = normal-legible (k ∷ ctx) b h
    normal-legible ctx (Ty.Mu b) h = (h.0, normal-legible (Kind.Star ∷ ctx) b h.1)
    normal-legible ctx (Ty.Lam k b) h = normal-legible (k ∷ ctx) b h
    normal-legible ctx (Ty.Apply f a) h = beta-legible (normal ctx f) (normal ctx a) (normal-legible ctx f h.0) (normal-legible ctx a h.1)

    normal_row-legible : (ctx : List Kind) (last : Option Label) (row : Row) → RowLegible v last row → RowLegible v last (normal_row ctx row)
    normal_row-legible ctx last Row.End h = tt
    normal_row-legible ctx last (Row.More l t rest) h = (h.0, h.1, normal-legible ctx t h.2, normal_row-legible ctx (Some l) rest h.3)
