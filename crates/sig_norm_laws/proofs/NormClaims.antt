-- Orders and norms, as the contract says it.
-- Main results: order_found, order_one, norm_found, norm_one, norm_keeps, norm_of_norm.
use Rattle.std.specs.Prelude.{◌⊎◌}
use Rattle.std.proofs.Math.Path.{refl, sym}
use Rattle.sig_definitions.specs.Signatures.Sig.{Abs}
use Rattle.sig_definitions.specs.QuantifierOrder.{Norm}
use Rattle.sig_definitions.specs.Explicit.WellFormed.{explicit}
use Rattle.sig_norm_laws.proofs.Orders.OrderUnique.{one-order}
use Rattle.sig_norm_laws.proofs.Orders.OrderExists.{order_exists, norm_abs_exists, NormOfAbs}
use mathlib.Core.Logic.{inl, inr}
use Rattle.sig_definitions.specs.Explicit.SigPath.{SigPath}
use Rattle.sig_definitions.specs.Explicit.RootPath.{RootPath, LeastRoot}
use Rattle.sig_norm_laws.proofs.Orders.Roots.{Roots, roots}
use Rattle.sig_norm_laws.proofs.Norm.NormUnique.{norm_abs_unique}
use Rattle.sig_norm_laws.proofs.Norm.NormKeeps.{norm_abs-explicit}
use Rattle.sig_norm_laws.proofs.Norm.NormAgain.{norm_abs-again}
use Rattle.sig_norm_laws.specs.Norms.{RootsFound, OneLeastRoot, OrderExists, OrderUnique, NormExists, NormUnique, OneNorm, NormKeeps, NormOfNorm}
use Rattle.sig_laws.proofs.Algebra.Paths.{one_least}

-- a hidden type has a least root path, or no root path
pub roots_found : RootsFound
roots_found ctx ks s i w = go (roots ctx ks s i w)
  where
    go : Roots ctx ks s i → ((p : SigPath) × LeastRoot ctx ks s i p) ⊎ ((p : SigPath) → RootPath ctx ks s i p → ⊥)
    go (Roots.found p l) = inl (p, l)
    go (Roots.none h) = inr h

-- a hidden type has at most one least root path
pub one_least_root : OneLeastRoot
one_least_root ctx ks s i p q a b = one_least a b

-- each ordered explicit signature has an order of its quantifiers
pub order_found : OrderExists
order_found ctx ks s (explicit w r e) = order_exists ctx ks s w e

-- a signature has at most one order of its quantifiers
pub order_one : OrderUnique
order_one ctx ks s order other a b = one-order refl a b

-- each ordered explicit signature has a norm
pub norm_found : NormExists
norm_found ctx x e = go (norm_abs_exists e)
  where
    go : NormOfAbs ctx x → (y : Abs) × Norm ctx x y
    go (NormOfAbs.norm_of y n) = (y, n)

-- a signature has at most one norm
pub norm_one : NormUnique
norm_one ctx x y z a b = norm_abs_unique a b

-- a signature that may stand on the right has exactly one norm
pub norm-one : OneNorm
norm-one ctx x h = let y = norm_found ctx x h.0 in (y.0, y.1, λ z n. sym (norm_one ctx x y.0 z y.1 n))

-- the norm of an ordered explicit signature is ordered explicit
pub norm_keeps : NormKeeps
norm_keeps ctx x y n e = norm_abs-explicit n e

-- a norm is its own norm
pub norm_of_norm : NormOfNorm
norm_of_norm ctx x y n = norm_abs-again n
