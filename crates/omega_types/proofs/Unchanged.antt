-- What does not reach an index of a type leaves the type as it is.
-- Main results: shift-unchanged, substitute_at-unchanged.
use Rattle.std.proofs.Common.{◌≡◌, ℕ, zero, suc, ◌<◌, ◌≤◌, refl, ap, ap₂, arith}
use Rattle.omega_types.specs.Ty.{Ty, Row, lift}
use Rattle.omega_types.specs.Substitution.{rename, rename_row, substitute, substitute_row, under}
use Rattle.omega_types.specs.Index.{bump, shift, put, substitute_at}
use Rattle.omega_types.specs.Inner.Bound.{bound_of, bound_row}
use Rattle.omega_types.proofs.Single.{bump-below, put-below}

lift-same : (n : ℕ) (r : ℕ → ℕ) → ((i : ℕ) → i < n → r i ≡ i) → (i : ℕ) → i < suc n → lift r i ≡ i
lift-same n r h zero p = refl
lift-same n r h (suc i) p = ap suc (h i (omega arith))

mutual
  -- a renaming that leaves the first indexes leaves a type whose free indexes are among them
  pub rename-unchanged : (n : ℕ) (r : ℕ → ℕ) (t : Ty) → ((i : ℕ) → i < n → r i ≡ i) → bound_of t ≤ n → rename r t ≡ t
  rename-unchanged n r (Ty.Var i) h p = ap Ty.Var (h i (omega arith))
  rename-unchanged n r Ty.Int h p = refl
  rename-unchanged n r Ty.Bool h p = refl
  rename-unchanged n r Ty.Text h p = refl
  rename-unchanged n r (Ty.Arrow a b) h p = ap₂ Ty.Arrow (rename-unchanged n r a h (omega arith)) (rename-unchanged n r b h (omega arith))
  rename-unchanged n r (Ty.Fields row) h p = ap Ty.Fields (rename_row-unchanged n r row h p)
  rename-unchanged n r (Ty.Sum row) h p = ap Ty.Sum (rename_row-unchanged n r row h p)
  rename-unchanged n r (Ty.All k b) h p = ap (Ty.All k) (rename-unchanged (suc n) (lift r) b (lift-same n r h) (omega arith))
  rename-unchanged n r (Ty.Ex k b) h p = ap (Ty.Ex k) (rename-unchanged (suc n) (lift r) b (lift-same n r h) (omega arith))
  rename-unchanged n r (Ty.Mu b) h p = ap Ty.Mu (rename-unchanged (suc n) (lift r) b (lift-same n r h) (omega arith))
  rename-unchanged n r (Ty.Lam k b) h p = ap (Ty.Lam k) (rename-unchanged (suc n) (lift r) b (lift-same n r h) (omega arith))
  rename-unchanged n r (Ty.Apply f a) h p = ap₂ Ty.Apply (rename-unchanged n r f h (omega arith)) (rename-unchanged n r a h (omega arith))

  pub rename_row-unchanged : (n : ℕ) (r : ℕ → ℕ) (row : Row) → ((i : ℕ) → i < n → r i ≡ i) → bound_row row ≤ n → rename_row r row ≡ row
  rename_row-unchanged n r Row.End h p = refl
  rename_row-unchanged n r (Row.More l t rest) h p = ap₂ (Row.More l) (rename-unchanged n r t h (omega arith)) (rename_row-unchanged n r rest h (omega arith))

under-same : (n : ℕ) (s : ℕ → Ty) → ((i : ℕ) → i < n → s i ≡ Ty.Var i) → (i : ℕ) → i < suc n → under s i ≡ Ty.Var i
under-same n s h zero p = refl
under-same n s h (suc i) p = ap (rename suc) (h i (omega arith))

mutual
  -- a substitution that leaves the first indexes leaves a type whose free indexes are among them
  pub substitute-unchanged : (n : ℕ) (s : ℕ → Ty) (t : Ty) → ((i : ℕ) → i < n → s i ≡ Ty.Var i) → bound_of t ≤ n → substitute s t ≡ t
  substitute-unchanged n s (Ty.Var i) h p = h i (omega arith)
  substitute-unchanged n s Ty.Int h p = refl
  substitute-unchanged n s Ty.Bool h p = refl
  substitute-unchanged n s Ty.Text h p = refl
  substitute-unchanged n s (Ty.Arrow a b) h p = ap₂ Ty.Arrow (substitute-unchanged n s a h (omega arith)) (substitute-unchanged n s b h (omega arith))
  substitute-unchanged n s (Ty.Fields row) h p = ap Ty.Fields (substitute_row-unchanged n s row h p)
  substitute-unchanged n s (Ty.Sum row) h p = ap Ty.Sum (substitute_row-unchanged n s row h p)
  substitute-unchanged n s (Ty.All k b) h p = ap (Ty.All k) (substitute-unchanged (suc n) (under s) b (under-same n s h) (omega arith))
  substitute-unchanged n s (Ty.Ex k b) h p = ap (Ty.Ex k) (substitute-unchanged (suc n) (under s) b (under-same n s h) (omega arith))
  substitute-unchanged n s (Ty.Mu b) h p = ap Ty.Mu (substitute-unchanged (suc n) (under s) b (under-same n s h) (omega arith))
  substitute-unchanged n s (Ty.Lam k b) h p = ap (Ty.Lam k) (substitute-unchanged (suc n) (under s) b (under-same n s h) (omega arith))
  substitute-unchanged n s (Ty.Apply f a) h p = ap₂ Ty.Apply (substitute-unchanged n s f h (omega arith)) (substitute-unchanged n s a h (omega arith))

  pub substitute_row-unchanged : (n : ℕ) (s : ℕ → Ty) (row : Row) → ((i : ℕ) → i < n → s i ≡ Ty.Var i) → bound_row row ≤ n → substitute_row s row ≡ row
  substitute_row-unchanged n s Row.End h p = refl
  substitute_row-unchanged n s (Row.More l t rest) h p = ap₂ (Row.More l) (substitute-unchanged n s t h (omega arith)) (substitute_row-unchanged n s rest h (omega arith))

-- a shift leaves a type whose free indexes are all below its place
pub shift-unchanged : (by from : ℕ) (t : Ty) → bound_of t ≤ from → shift by from t ≡ t
shift-unchanged by from t p = rename-unchanged from (bump by from) t (bump-below by from) p

-- substitution for one index leaves a type whose free indexes are all below it
pub substitute_at-unchanged : (index : ℕ) (arg t : Ty) → bound_of t ≤ index → substitute_at index arg t ≡ t
substitute_at-unchanged index arg t p = substitute-unchanged index (put index arg) t (put-below index arg) p
