-- Lifting leads from one context to the other.
use Rattle.std.specs.Prelude.{ℕ, List}
use Rattle.omega_kinds.specs.Kind.{Kind}
use Rattle.omega_types.specs.Kinding.{Lookup, HasKind}
use Rattle.omega_types.specs.Normalises.{Maps}
use Rattle.omega_types.specs.Binders.{extend, past, lifts}
use Rattle.sig_definitions.specs.Lifting.{lifting, lifted_kinds}

-- what stands under ks and then bs gets types under the lifted bs and then ks
abbrev pub LiftingKinds : Type 0
LiftingKinds = (ctx ks bs : List Kind) (i : ℕ) (k : Kind) → Lookup (extend (extend ctx ks) bs) i k → HasKind (extend (extend ctx (lifted_kinds ks bs)) ks) (lifting ks bs i) k

-- what stands under ks alone is renamed past the lifted bs
abbrev pub LiftingMaps : Type 0
LiftingMaps = (ctx ks bs : List Kind) → Maps (extend ctx ks) (extend (extend ctx (lifted_kinds ks bs)) ks) (lifts ks (past bs))
