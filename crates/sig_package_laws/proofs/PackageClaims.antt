-- Package types, as the contract says it.
-- Main results: norm_of_renamed, one_package_type, one_normal_package_type.
use Rattle.std.proofs.Math.Path.{ap}
use Rattle.sig_definitions.specs.Signatures.Encoding.{enc_abs}
use Rattle.sig_package_laws.proofs.NormMapped.{norm_abs-mapped}
use Rattle.sig_package_laws.proofs.SamePackage.{same_package}
use Rattle.sig_package_laws.proofs.PackageConv.{one_type, types_differ}
use Rattle.sig_package_laws.proofs.OrderProofs.{a_right, b_right, a_matches, b_matches, a_norm, b_norm, two_orders}
use Rattle.sig_package_laws.proofs.FlipProofs.{f_right, g_right, f_matches, g_matches, f_norm, g_norm, two_packages}
use Rattle.sig_package_laws.specs.PackageTypes.{NormOfRenamed, OnePackageType, OneNormalPackageType, TwoPackageTypes, OrderMatters}

-- norm commutes with each renaming that keeps kinds
pub norm_of_renamed : NormOfRenamed
norm_of_renamed ctx other r x y h w n = norm_abs-mapped r h w n

-- signatures that match each other and are rooted alike have one package type, up to conversion
pub one_package_type : OnePackageType
one_package_type ctx x y n m ex ey a b s hx hy = one_type ex ey a b s hx hy

-- signatures of normal types that match each other and are rooted alike have the very same package type
pub one_normal_package_type : OneNormalPackageType
one_normal_package_type ctx x y n m f g ox oy a b s hx hy = ap enc_abs (same_package ox.1 oy.1 ox.0 oy.0 a b s hx hy)

-- two signatures that match each other may have two package types where they are not rooted at the same paths
pub two_package_types : TwoPackageTypes
two_package_types = types_differ f_right g_right f_matches g_matches f_norm g_norm two_packages

-- two that are rooted at the same paths may too, where a pure functor's parameter hides its types in another order
pub order_matters : OrderMatters
order_matters = types_differ a_right b_right a_matches b_matches a_norm b_norm two_orders
