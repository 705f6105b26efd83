-- Signatures that match each other share a package type.
-- Main results: one_shared_type.
use Rattle.std.specs.Prelude.{◌≡◌}
use Rattle.std.proofs.Math.Path.{sym, ◌∙◌}
use Rattle.package_judgments.proofs.Verdicts.{pack_type-view}
use Rattle.sig_package_laws.proofs.PackageClaims.{one_normal_package_type}
use Rattle.package_laws.specs.SharedType.{OneSharedType}

-- the package type of a signature is that of each one that it matches both ways, rooted and ordered alike
pub one_shared_type : OneSharedType
one_shared_type ctx x t ok p y u f g right a b same q =
    let v = pack_type-view p in
    let w = pack_type-view q in
    v.2 ∙ (one_normal_package_type ctx x y v.0 w.0 f g ok right a b same v.1 w.1 ∙ sym w.2)
