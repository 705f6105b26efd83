-- Least root paths, the order of quantifiers, and the norm.
use Rattle.std.specs.Prelude.{ℕ, List, ◌≡◌, ◌⊎◌}
use Rattle.omega_kinds.specs.Kind.{Kind}
use Rattle.omega_types.specs.Binders.{extend}
use Rattle.sig_definitions.specs.Signatures.Sig.{Sig, Abs}
use Rattle.sig_definitions.specs.QuantifierOrder.{NewOrder, Norm}
use Rattle.sig_definitions.specs.Explicit.SigPath.{SigPath}
use Rattle.sig_definitions.specs.Explicit.RootPath.{RootPath, LeastRoot}
use Rattle.sig_definitions.specs.Explicit.WellFormed.{WellFormed, Explicit}
use Rattle.sig_definitions.specs.Verdict.{One}
use Rattle.sig_laws.specs.Good.{OkRight}

-- each variable has a least root path, or no root path at all, and one least one at most
abbrev pub RootsFound : Type 0
RootsFound = (ctx ks : List Kind) (s : Sig) (number : ℕ) → WellFormed (extend ctx ks) s → ((p : SigPath) × LeastRoot ctx ks s number p) ⊎ ((p : SigPath) → RootPath ctx ks s number p → ⊥)

abbrev pub OneLeastRoot : Type 0
OneLeastRoot = (ctx ks : List Kind) (s : Sig) (number : ℕ) (p q : SigPath) → LeastRoot ctx ks s number p → LeastRoot ctx ks s number q → p ≡ q

-- each ordered explicit signature has exactly one order of its quantifiers, and exactly one norm
abbrev pub OrderExists : Type 0
OrderExists = (ctx ks : List Kind) (s : Sig) → Explicit ctx (Abs.Ex ks s) → (order : List ℕ) × NewOrder ctx ks s order

abbrev pub OrderUnique : Type 0
OrderUnique = (ctx ks : List Kind) (s : Sig) (order other : List ℕ) → NewOrder ctx ks s order → NewOrder ctx ks s other → order ≡ other

abbrev pub NormExists : Type 0
NormExists = (ctx : List Kind) (x : Abs) → Explicit ctx x → (y : Abs) × Norm ctx x y

abbrev pub NormUnique : Type 0
NormUnique = (ctx : List Kind) (x y z : Abs) → Norm ctx x y → Norm ctx x z → y ≡ z

abbrev pub OneNorm : Type 0
OneNorm = (ctx : List Kind) (x : Abs) → OkRight ctx x → One (Norm ctx x)

-- norm is ordered explicit, and its own norm
abbrev pub NormKeeps : Type 0
NormKeeps = (ctx : List Kind) (x y : Abs) → Norm ctx x y → Explicit ctx x → Explicit ctx y

abbrev pub NormOfNorm : Type 0
NormOfNorm = (ctx : List Kind) (x y : Abs) → Norm ctx x y → Norm ctx y y
