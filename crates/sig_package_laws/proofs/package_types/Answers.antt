use Rattle.sig_package_laws.proofs.package_types.Goals as goal
use Rattle.sig_package_laws.proofs.OneCondition.{flip_in_one_order, order_at_same_paths}
use Rattle.sig_package_laws.proofs.PackageClaims.{one_package_type, one_normal_package_type, two_package_types, order_matters}

pub returns-clause-one : goal.returns-clause-one
returns-clause-one c = one_package_type

pub returns-clause-normal : goal.returns-clause-normal
returns-clause-normal c = one_normal_package_type

pub returns-clause-two : goal.returns-clause-two
returns-clause-two c = two_package_types

pub returns-clause-order : goal.returns-clause-order
returns-clause-order c = order_matters

pub returns-clause-one_order : goal.returns-clause-one_order
returns-clause-one_order c = flip_in_one_order

pub returns-clause-same_paths : goal.returns-clause-same_paths
returns-clause-same_paths c = order_at_same_paths
