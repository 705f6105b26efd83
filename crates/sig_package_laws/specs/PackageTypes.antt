-- The package types of signatures that match each other.
use Rattle.std.specs.Prelude.{ℕ, List, [], ◌≡◌}
use Rattle.omega_kinds.specs.Kind.{Kind}
use Rattle.omega_types.specs.Conversion.{Conv}
use Rattle.omega_types.specs.Normalises.{Maps}
use Rattle.omega_terms.specs.Term.{Term}
use Rattle.sig_definitions.specs.Signatures.Sig.{Abs}
use Rattle.sig_definitions.specs.Signatures.SigSubst.{rename_abs}
use Rattle.sig_definitions.specs.Signatures.Encoding.{enc_abs}
use Rattle.sig_definitions.specs.Matching.Subtyping.{SubAbs}
use Rattle.sig_definitions.specs.QuantifierOrder.{Norm}
use Rattle.sig_definitions.specs.Explicit.WellFormed.{WellFormedAbs, Explicit}
use Rattle.sig_laws.specs.Good.{OkRight}
use Rattle.sig_match_laws.specs.AnyTypes.{IsSubAbs}
use Rattle.sig_package_laws.specs.Conditions.{SameRoots, OneOrder, Anything, EachAbs, SameAbs}
use Rattle.sig_package_laws.specs.FlipExample.{f_first, g_first}
use Rattle.sig_package_laws.specs.OrderExample.{a_first, b_first}

-- norm goes with each renaming that keeps kinds
abbrev pub NormOfRenamed : Type 0
NormOfRenamed = (ctx other : List Kind) (r : ℕ → ℕ) (x y : Abs) → Maps ctx other r → WellFormedAbs ctx x → Norm ctx x y → Norm other (rename_abs r x) (rename_abs r y)

-- ordered explicit signatures that match each other, whose hidden types are rooted at the same paths, and in which the
-- parameters of pure functors hide them in one order, have one package type, up to conversion
abbrev pub OnePackageType : Type 0
OnePackageType = (ctx : List Kind) (x y n m : Abs) → Explicit ctx x → Explicit ctx y → IsSubAbs ctx x y → IsSubAbs ctx y x → SameAbs ctx ctx x y → Norm ctx x n → Norm ctx y m → Conv ctx (enc_abs n) (enc_abs m) Kind.Star

-- the very same one where their types are normal
abbrev pub OneNormalPackageType : Type 0
OneNormalPackageType = (ctx : List Kind) (x y n m : Abs) (f g : Term) → OkRight ctx x → OkRight ctx y → SubAbs ctx x y f → SubAbs ctx y x g → SameAbs ctx ctx x y → Norm ctx x n → Norm ctx y m → enc_abs n ≡ enc_abs m

-- ordered explicit signatures of normal types that match each other, both as such and as ones of any types, and whose
-- package types are not convertible
abbrev pub TypesDiffer : Abs → Abs → Type 0
TypesDiffer x y = OkRight [] x × OkRight [] y × ((f : Term) × SubAbs [] x y f) × ((g : Term) × SubAbs [] y x g) × IsSubAbs [] x y × IsSubAbs [] y x
    × ((n m : Abs) → Norm [] x n → Norm [] y m → Conv [] (enc_abs n) (enc_abs m) Kind.Star → ⊥)

-- without the condition on paths they may have two
abbrev pub TwoPackageTypes : Type 0
TwoPackageTypes = TypesDiffer f_first g_first

-- though the parameters of pure functors, of which there are none, hide their types in one order
abbrev pub FlipInOneOrder : Type 0
FlipInOneOrder = EachAbs OneOrder Anything [] [] f_first g_first

-- nor is it enough that all signatures inside are rooted at the same paths: the order of a parameter's types counts
abbrev pub OrderMatters : Type 0
OrderMatters = TypesDiffer a_first b_first

abbrev pub OrderAtSamePaths : Type 0
OrderAtSamePaths = EachAbs SameRoots SameRoots [] [] a_first b_first
