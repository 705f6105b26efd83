-- The package types of signatures that match each other.
use Rattle.std.specs.Prelude.{List, ◌≡◌}
use Rattle.omega_kinds.specs.Kind.{Kind}
use Rattle.omega_types.specs.Ty.{Ty}
use Rattle.omega_terms.specs.Term.{Term}
use Rattle.sig_definitions.specs.Signatures.Sig.{Abs}
use Rattle.sig_definitions.specs.Matching.Subtyping.{SubAbs}
use Rattle.sig_laws.specs.Good.{OkRight}
use Rattle.sig_package_laws.specs.Conditions.{SameAbs}
use Rattle.package_judgments.specs.Package.{PackTypeGives}

-- the type is the package type of each signature that matches this one and that this one matches, if the hidden types of
-- both are rooted at the same paths, and the parameters of pure functors hide them in one order
abbrev pub IsSharedType : List Kind → Abs → Ty → Type 0
IsSharedType ctx x t = (y : Abs) (u : Ty) (f g : Term) → OkRight ctx y → SubAbs ctx x y f → SubAbs ctx y x g → SameAbs ctx ctx x y → PackTypeGives ctx y u → t ≡ u

-- so is what the rule of package types gives
abbrev pub OneSharedType : Type 0
OneSharedType = (ctx : List Kind) (x : Abs) (t : Ty) → OkRight ctx x → PackTypeGives ctx x t → IsSharedType ctx x t
