use Rattle.sig_package_laws.proofs.renamed_norms.Goals as goal
use Rattle.sig_package_laws.proofs.PackageClaims.{norm_of_renamed}

pub returns : goal.returns
returns c = norm_of_renamed
