use Rattle.package_type_laws.proofs.Claims.{one_encoding, norms_exactly, convertible_norms}
use Rattle.package_type_laws.proofs.package_types.Goals as goal

pub returns-clause-injective : goal.returns-clause-injective
returns-clause-injective c = one_encoding

pub returns-clause-exactly : goal.returns-clause-exactly
returns-clause-exactly c = norms_exactly

pub returns-clause-convertible : goal.returns-clause-convertible
returns-clause-convertible c = convertible_norms
