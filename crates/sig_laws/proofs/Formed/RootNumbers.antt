-- Root paths, with the variables inside of a hidden one counted as the hidden ones after it.
-- Main results: by_numbers, rooted-of, root-of.
use Rattle.std.specs.Prelude.{ℕ, suc, ◌-◌, ◌<◌, ◌≤◌, List, ◌≡◌, length}
use Rattle.std.proofs.Common.{arith}
use Rattle.std.proofs.Math.Path.{subst}
use Rattle.omega_kinds.specs.Kind.{Kind}
use Rattle.omega_types.specs.Binders.{extend, own}
use Rattle.sig_definitions.specs.Signatures.Sig.{Sig}
use Rattle.sig_definitions.specs.Explicit.SigPath.{SigPath}
use Rattle.sig_definitions.specs.Explicit.RootPath.{Rooted, ParamsAvoid, root_of, RootPath, root_path, LeastRoot, least}

-- the later of two hidden variables stands inside of the other
pub own_falls : (ks : List Kind) (i j : ℕ) → i ≤ j → own ks j ≤ own ks i
own_falls ks i j le = omega (arith, le)

-- what stands inside of a hidden variable is a later one
numbered : (ks : List Kind) (number i : ℕ) → number < length ks → i ≤ own ks number → (j : ℕ) × (number ≤ j) × (j < length ks) × (own ks j ≡ i)
numbered ks number i lt le = (length ks - suc i, omega (arith, lt, le), omega (arith, lt, le), omega (arith, lt, le))

-- a path where a hidden type is rooted is a root path if its parameters avoid this type and those hidden after it
pub by_numbers : {ctx ks : List Kind} {s : Sig} {number : ℕ} {p : SigPath} → number < length ks → Rooted (extend ctx ks) s (own ks number) p → ((j : ℕ) → number ≤ j → j < length ks → ParamsAvoid (extend ctx ks) s p (own ks j)) → RootPath ctx ks s number p
by_numbers {ctx} {ks} {s} {number} {p} b r a = root_path b (root_of r (λ i le. let w = numbered ks number i b le in subst (ParamsAvoid (extend ctx ks) s p) w.3 (a w.0 w.1 w.2)))

-- a hidden type is rooted at its root paths
pub rooted-of : {ctx ks : List Kind} {s : Sig} {i : ℕ} {p : SigPath} → RootPath ctx ks s i p → Rooted (extend ctx ks) s (own ks i) p
rooted-of (root_path b (root_of r a)) = r

-- a least root path is a root path
pub root-of : {ctx ks : List Kind} {s : Sig} {i : ℕ} {p : SigPath} → LeastRoot ctx ks s i p → RootPath ctx ks s i p
root-of (least r h) = r
