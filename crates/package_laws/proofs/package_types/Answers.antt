use Rattle.package_laws.proofs.package_types.Goals as goal
use Rattle.package_laws.proofs.SharedTypes.{one_shared_type}

pub returns : goal.returns
returns c = one_shared_type
